-- Laws of parts and of what is written to a front, for the proofs of every crate that lends slices.
pub mod Parts
pub mod Over
pub mod Copied
pub mod Poured
