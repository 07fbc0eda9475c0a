-- The safe: what turning does to its locks, which turns open it, and what the call gives back.
-- Read in this order: Locks, Turns, Turned, Calls, Promises. Model is for the code's own proofs.
pub mod Locks
pub mod Turns
pub mod Turned
pub mod Calls
pub mod Promises
pub mod Model
