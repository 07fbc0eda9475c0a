-- The model of the method: what the code of the crate `system` computes, as functions on lists. Nobody has to believe
-- it; proofs/ shows that its results are those of the definitions in `equations`. Read in this order: Step, Basis,
-- Substitution, Tableau, Multipliers, Marking, Missed, Relations, Through.
pub mod Step
pub mod Basis
pub mod Substitution
pub mod Tableau
pub mod Multipliers
pub mod Marking
pub mod Missed
pub mod Relations
pub mod Through
