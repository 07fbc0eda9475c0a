-- What document 01 means by a list of calls; no sheet's record and no method stands here.
-- Read in this order: Ledger, Allowed, Shapes, Block, Marking, Classes, Calls, Questions, History.
pub mod Ledger
pub mod Allowed
pub mod Shapes
pub mod Block
pub mod Marking
pub mod Classes
pub mod Calls
pub mod Questions
pub mod History
