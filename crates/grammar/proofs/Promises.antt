-- The promises of specs/Promises.antt, kept.
use Rattle.equations.proofs.Truth.{true_of}
use Rattle.grammar.specs.Linear.{sides_within, sides_linear}
use Rattle.grammar.specs.Promises.{Unambiguous, ReadExactly, HoldsExactly, EquationShaped}
use Rattle.grammar.proofs.Equations.{unambiguous}
use Rattle.grammar.proofs.Texts.{typed_read, read_typed}
use Rattle.grammar.proofs.Solutions.{equation-shaped, holds-solves}

pub unambiguous_kept : Unambiguous
unambiguous_kept e d text v w = unambiguous v w

pub read-exactly : ReadExactly
read-exactly e text = (read_typed e text, λ w. typed_read e text w.0 w.1)

pub holds-exactly : HoldsExactly
holds-exactly m n e pos among is_linear v =
    holds-solves m n e pos (true_of (sides_within n e) among) (true_of (sides_linear e) is_linear) v

pub equation-shaped-kept : EquationShaped
equation-shaped-kept = equation-shaped
