-- What the contracts of this crate cite besides the model in `elimination`: how rows and lines lie in a list of numbers.
-- Read in this order: Packed, Column, Lines.
pub mod Packed
pub mod Column
pub mod Lines
