-- Definitions that the contracts of `line_text` cite.
pub mod Text
pub mod Puts
pub mod Pieces
pub mod Wheels
pub mod Totals
pub mod Laws
