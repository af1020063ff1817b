-- Definitions that the contracts of `full_io` cite.
pub mod Failed
