-- Laws that the proofs of this crate's functions cite.
pub mod Combined
pub mod Packed
pub mod Cleared
pub mod Column
pub mod Walk
pub mod Walked
pub mod Sums
pub mod Entry
pub mod Extension
pub mod Lines
pub mod Filled
