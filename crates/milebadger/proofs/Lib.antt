-- Laws of the questions and the replies in specs/, of signed results, and of a reason.
pub mod Questions
pub mod Reply
pub mod Signed
pub mod Reasoned
