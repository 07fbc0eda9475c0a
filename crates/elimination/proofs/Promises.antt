-- The promise of `equations` whose proof takes spans, kept.
use mathlib.Core.Path.{sym, subst}
use lib.Dec.{T}
use Rattle.equations.specs.Promises.{StepLeftOut}
use Rattle.equations.proofs.Superfluous.{superfluous_exists}
use Rattle.elimination.proofs.LeftOut.{superfluous_left_out}

pub step_left_out : StepLeftOut
step_left_out m n es c ss pos vec vs right j lt =
    let same = superfluous_left_out m n es c ss pos vec vs right j lt in
    let found = superfluous_exists m n ss j in
    ((λ step. subst T same (found.1 step)), λ t. found.0 (subst T (sym same) t))
