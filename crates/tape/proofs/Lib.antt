-- Laws of the words on a tape, of its calls and of its text, for the proofs of the code and for those of crates above.
pub mod Printed
pub mod OnTape
pub mod Taken
pub mod Told
pub mod Steps
pub mod Remaining
pub mod Answered
pub mod Picked
pub mod Runs
pub mod Joined
pub mod Classes
pub mod Promises
