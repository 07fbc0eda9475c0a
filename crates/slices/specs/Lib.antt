-- What contracts over lent slices share, and a recursion that definitions share. Counted need not be read.
pub mod Over
pub mod Pieces
pub mod Counted
