-- Laws of questions, for every crate that asks some.
pub mod Questions
pub mod Given
pub mod Ladder
pub mod Results
pub mod Reply
