-- `posing::refusal` meets its contract: where m and n are allowed, the questions of a claim are those of marking it on a fresh sheet.
use mathlib.Core.Path.{◌≡◌, refl}
use mathlib.Core.Bool.{true}
use mathlib.Core.List.{[]}
use native.Mathlib.Omega.{arith}
use Rattle.questions.specs.Questions.{allowed_modulus}
use Rattle.questions.proofs.Ladder.{let_in}
use Rattle.ledger.specs.Ledger.{opened}
use Rattle.ledger.specs.Questions.{allowed_unknowns, refusal_of}
use Rattle.setting.proofs.posing.refusal.Goals as goal

pub returns-clause-value : goal.returns-clause-value
unfolding refusal_of
returns-clause-value c =
    let a = c.args in
    let modulus : allowed_modulus a.m ≡ true = let_in 2 c.is_modulus.ensures (omega arith) c.in_ok-ask.ensures in
    let unknowns : allowed_unknowns a.n ≡ true = let_in 3 c.are_unknowns.ensures (omega arith) c.in_ok-ask-2.ensures in
    rw (modulus, unknowns)
    (c.mark_refusal.ensures.value (opened a.m a.n []) (record { opened = refl; modulus = refl; unknowns = refl; held = refl }))
