-- Laws that belong to no one function of `rotation`.
pub mod Laws
