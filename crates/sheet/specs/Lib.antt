-- What each call on a sheet gives back and leaves, in terms of the ledger that the sheet reads as.
-- Read in this order: Record, Calls, History, Promises. View is what our own functions say of a sheet to each other.
pub mod Record
pub mod Calls
pub mod History
pub mod Promises
pub mod View
