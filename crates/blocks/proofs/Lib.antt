-- Laws for the proofs of the writer.
pub mod Written
