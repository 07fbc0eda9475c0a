-- How lines with a modulus of their own lie in a sheet.
pub mod Stored
