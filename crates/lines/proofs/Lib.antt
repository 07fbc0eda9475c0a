-- Laws about the definitions in specs/, and that each function meets its contract.
pub mod Stored
pub mod Turn
