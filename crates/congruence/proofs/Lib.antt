-- The answer by its cases: Answers. What specs/Promises.antt promises: Promises.
pub mod Answers
pub mod Promises
