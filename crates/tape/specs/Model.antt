-- What the functions of this crate hand on to each other. No public contract cites it, and nobody has to believe it.
pub mod Handed
