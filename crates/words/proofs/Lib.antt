-- Laws of words, for the proofs of this crate and of those that read and write words.
pub mod Compared
pub mod Tops
pub mod Fronts
pub mod Walked
pub mod Words
pub mod Packed
pub mod Unpacked
pub mod Minus
pub mod Promises
