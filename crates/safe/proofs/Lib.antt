-- Laws of turning, and that the turns that open a safe are the solutions of its equations.
pub mod Turning
pub mod Laid
pub mod Equations
pub mod Answer
pub mod Questions
pub mod Promises
pub mod Calls
pub mod Examples
