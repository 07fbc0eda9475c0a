-- Models: what the code reads off the rows of a basis. No public contract cites them, and nobody has to believe them.
pub mod Reading
pub mod Readable
pub mod Marking
pub mod Asked
pub mod Listed
