-- The public contract cites the definitions of `grammar`; Model is what stands between the code's own functions.
pub mod Model
