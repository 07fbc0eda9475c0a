-- What the questions see of a sheet.
pub mod Sees
