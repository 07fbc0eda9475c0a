-- What a tape means: the lines that it prints; up to there neither the sheet's record nor a method is named. Reader says what the
-- code gives a call at a time, and Printing what comes of it.
-- Read in this order: Bytes, Ascii, Text, FirstCall, Calls, Output, Promises, Reader, Run, Printing. Model and Counted need not be read.
pub mod Bytes
pub mod Ascii
pub mod Text
pub mod FirstCall
pub mod Calls
pub mod Output
pub mod Promises
pub mod Reader
pub mod Run
pub mod Printing
pub mod Model
pub mod Counted
