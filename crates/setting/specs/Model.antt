-- What the code's functions hand on to one another. No public contract cites it, and nobody has to believe it.
pub mod Handed
