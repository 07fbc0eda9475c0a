-- `solve` meets its contract: it asks the question, and where m is allowed it solves the congruence of the residues. A number of 32
-- bits is the same with 64.
use mathlib.Core.Path.{◌≡◌, sym, ap, subst, ◌∙◌}
use native.Mathlib.Omega.{arith}
use lib.Dec.{T}
use lib.IntN.{ℤ}
use mir.Facts.{sfits_widen, to_z-of_z}
use mir.Syntax.{w32, w64}
use mir.Val.{SFits, to_z, of_z}
use Rattle.questions.proofs.Ladder.{let_in, turned_by, unless_refused_is}
use Rattle.residue.specs.Residue.{residue_of}
use Rattle.congruence.specs.Congruence.{congruence_of}
use Rattle.congruence.proofs.Answers.{modulus_some, answer_of_lem}
use Rattle.congruence.proofs.solve.Goals as goal

handed_on : {a r : ℤ} → SFits w32 a → r ≡ to_z w32 (of_z w32 a) → to_z w64 (of_z w64 r) ≡ a
handed_on fits is = ap (λ (y : ℤ). to_z w64 (of_z w64 y)) (is ∙ to_z-of_z fits) ∙ to_z-of_z {w = w64} (sfits_widen tt fits)

pub returns-in_err-ask : goal.returns-in_err-ask
unfolding congruence_of
returns-in_err-ask c =
    let out = c.from_residual in
    unless_refused_is out.result _ out.ensures.1 _ (turned_by 2 c.is_modulus.ensures _ _ c.in_err-ask.ensures)

pub residue-coefficient-requires : goal.residue-coefficient-requires
residue-coefficient-requires c = modulus_some c.args.m (subst T (sym (let_in 2 c.is_modulus.ensures (omega arith) c.in_ok-ask.ensures)) tt)

pub returns : goal.returns
returns c =
    let x = c.args in
    answer_of_lem x.a x.b x.m (let_in 2 c.is_modulus.ensures (omega arith) c.in_ok-ask.ensures)
    (c.residue-coefficient.ensures.0 ∙ ap (residue_of x.m) (handed_on c.ranges.a c.from.ensures))
    (c.residue-right.ensures.0 ∙ ap (residue_of x.m) (handed_on c.ranges.b c.from-2.ensures)) c.solve.ensures
