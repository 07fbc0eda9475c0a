-- What document 02 means by an equation typed as text (S-1); no method of reading stands here.
-- Read in this order: Tree, Grammar, Meaning, Linear, Texts, Promises. Model need not be read.
pub mod Tree
pub mod Grammar
pub mod Meaning
pub mod Linear
pub mod Texts
pub mod Promises
pub mod Model
