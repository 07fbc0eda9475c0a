-- One congruence as a call, with its question. Read in this order: Congruence, Promises.
pub mod Congruence
pub mod Promises
