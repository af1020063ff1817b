-- Definitions that the contracts of `params` cite.
pub mod Params
pub mod Decimals
