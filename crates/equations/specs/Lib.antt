-- What documents 01 and 02 mean by an answer to a list of equations; no method stands here.
-- Read in this order: Lists, Vectors, Equation, Lines, Whole, Answer, Multipliers, Claim, Marks, Reasons, Promises, Wanted; then, for lines
-- with a modulus of their own, Sets, Line, LineReasons, LinePromises.
pub mod Lists
pub mod Vectors
pub mod Equation
pub mod Lines
pub mod Whole
pub mod Answer
pub mod Multipliers
pub mod Claim
pub mod Marks
pub mod Reasons
pub mod Promises
pub mod Wanted
pub mod Sets
pub mod Line
pub mod LineReasons
pub mod LinePromises
