-- Laws about the definitions in specs/, for every crate above.
pub mod Unopened
pub mod Shapes
pub mod Blocks
pub mod Answer
pub mod Own
pub mod Questions
pub mod Refusals
pub mod Effects
pub mod History
pub mod Classes
