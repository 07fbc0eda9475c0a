-- The C face.
pub mod Calls
