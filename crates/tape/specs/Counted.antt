-- What only shows that a recursion of the folder above ends, or how many digits it writes. Nobody has to believe it: the laws beside
-- the definitions there say all of them, with no counter in them.
pub mod Digits
pub mod Calls
