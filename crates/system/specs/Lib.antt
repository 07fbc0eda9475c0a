-- What an answer to a list of equations is, number for number, and how a claim lies in a list of numbers. Read in this
-- order: Posed, Places, Block, Claims, Reasons, Ready, Promises, Lines, Wanted. Model is for the code's own proofs.
pub mod Posed
pub mod Places
pub mod Block
pub mod Claims
pub mod Reasons
pub mod Ready
pub mod Promises
pub mod Lines
pub mod Wanted
pub mod Model
