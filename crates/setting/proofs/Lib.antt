-- Laws of the words of equations, of the claims that are let in, and that the promises are kept.
pub mod Written
pub mod LetIn
pub mod Wantable
pub mod Added
pub mod Promises
pub mod Calls
