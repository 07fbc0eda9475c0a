-- What only shows that the recursions of the folder above end. Nobody has to believe it: the laws beside the definitions there say
-- all of them, with no counter in them.
pub mod Euclid
pub mod Digits
