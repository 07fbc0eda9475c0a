-- What every call's questions have in common, and every call that writes to lent memory.
-- Read in this order: Questions, Refusals, Reply.
pub mod Questions
pub mod Refusals
pub mod Reply
