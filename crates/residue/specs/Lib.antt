-- Read in this order: Congruent, Whole, Divides, Negative, Residue, Euclid, Gcd, Digits, Chain, Bezout,
-- Cofactors, Inverse, Congruence, Promises. Counted need not be read.
pub mod Congruent
pub mod Whole
pub mod Divides
pub mod Negative
pub mod Residue
pub mod Euclid
pub mod Gcd
pub mod Digits
pub mod Chain
pub mod Bezout
pub mod Cofactors
pub mod Inverse
pub mod Congruence
pub mod Promises
pub mod Counted
