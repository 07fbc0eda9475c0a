-- A sheet for a wanted answer: what the call asks, gives back and writes, and what is promised of the equations.
-- Read in this order: Calls, Promises. Model is for the code's own proofs.
pub mod Calls
pub mod Promises
pub mod Model
