-- The words of documents 01 and 02. Read in this order: Words, Signs, Fronts, Promises.
pub mod Words
pub mod Signs
pub mod Fronts
pub mod Promises
