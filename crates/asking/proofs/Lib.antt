-- Laws for the proofs of the questions.
pub mod Asked
pub mod Ladder
pub mod Owned
pub mod ClaimSeen
pub mod ClaimGiven
pub mod Classed
