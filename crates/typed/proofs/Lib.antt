-- Laws for the proofs of the readers.
pub mod Entries
pub mod Texts
pub mod Runs
pub mod Folded
pub mod Made
pub mod Readers
pub mod Whole
