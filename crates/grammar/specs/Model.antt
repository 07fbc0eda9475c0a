-- A reader on lists. Nobody has to believe it: the promise `ReadExactly` says all that is cited of it, and no reader stands there.
-- Read in this order: Algebra, Reader.
pub mod Algebra
pub mod Reader
