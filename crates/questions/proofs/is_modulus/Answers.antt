-- `is_modulus` meets its contract: no number of 32 bits is too large.
use mathlib.Core.Path.{sym, ap, ◌∙◌}
use mathlib.Core.Bool.{Bool, ◌&&◌, and-true}
use native.Mathlib.Omega.{arith}
use borrow.Author.Tests.{le-leb}
use lib.Dec.{leb}
use Rattle.questions.specs.Questions.{largest_modulus}
use Rattle.questions.proofs.is_modulus.Goals as goal

pub returns : goal.returns
returns c =
    let m = c.args.m in
    sym (ap (λ (b : Bool). leb 2 m && b) (le-leb m largest_modulus (omega arith)) ∙ and-true (leb 2 m))
