-- Laws about the definitions in specs/, for every crate above.
-- The reader: Tests, Bytes, Starts, Complete, Sound, Equations, Texts. What is read: Meaning, Solutions. What specs/Promises.antt
-- promises: Promises. Texts by example: Examples.
pub mod Tests
pub mod Bytes
pub mod Starts
pub mod Complete
pub mod Sound
pub mod Equations
pub mod Texts
pub mod Meaning
pub mod Solutions
pub mod Promises
