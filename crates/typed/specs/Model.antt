-- The model that the code follows: the reader of `grammar` in the algebra of linear forms. Nobody has to believe it.
-- Read in this order: Forms, Contract.
pub mod Forms
pub mod Contract
