-- What only shows that a recursion ends. Nobody has to believe it: the laws beside what is defined by it say all of that, with no
-- counter in them.
pub mod Pieces
