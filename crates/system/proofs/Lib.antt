-- Laws that the proofs of this crate's functions cite. The first two serve both routines, then come those of the
-- answer, from Placed on those of the marking, and Explained those of the reasons. Written, Block, Claims and Reasons are for the crates
-- above too.
pub mod Rows
pub mod Chunks
pub mod Entries
pub mod Relations
pub mod Generators
pub mod Seed
pub mod Laid
pub mod Answer
pub mod Written
pub mod Block
pub mod Promises
pub mod Placed
pub mod Seeking
pub mod Broken
pub mod Changes
pub mod Pivots
pub mod Fronts
pub mod Marks
pub mod Prepared
pub mod Claims
pub mod Reasons
pub mod Lines
pub mod Explained
pub mod Through
pub mod Wanted
