-- Laws about the definitions in specs/, for every crate above.
-- The kit over any modulus: Congruent, Divides, Negative, Whole, Residue. Euclid's chain: Induction, Bezout, Columns, Gcd, Lame.
-- A reciprocal and a product without a division: Inverse, Shoup.
-- One congruence: First, Solutions. What specs/Promises.antt promises: Promises.
pub mod Congruent
pub mod Divides
pub mod Negative
pub mod Whole
pub mod Residue
pub mod Induction
pub mod Bezout
pub mod Columns
pub mod Gcd
pub mod Lame
pub mod Inverse
pub mod Shoup
pub mod First
pub mod Solutions
pub mod Promises
