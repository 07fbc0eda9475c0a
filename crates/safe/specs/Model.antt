-- Models: the equations that the code solves, and what its functions hand on to one another. No public contract cites them, and
-- nobody has to believe them.
pub mod Lines
pub mod Handed
