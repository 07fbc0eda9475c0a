-- `relating::first_superfluous` meets its contract: the system of the relations lies in the front of an array of zeros, and its answer tells the step.
use mathlib.Core.Path.{◌≡◌, refl, ap, ◌∙◌}
use mathlib.Core.List.{List}
use Prim.Native.Nat.{ℕ, ◌+◌, ◌*◌, ◌/◌, ◌≤◌}
use native.Mathlib.Omega.{arith}
use lib.ListN.{length, take, replicate}
use lib.Seq.{length-take-le}
use Rattle.system.specs.Places.{placed}
use Rattle.system.proofs.Fronts.{lent_zeros}
use Rattle.system.proofs.Generators.{vectors-count, steps_few, lines-room, none_found, relations-posed, place_found}
use Rattle.system.proofs.relating.first_superfluous.Goals as goal

-- the lines come back as long as they were lent
long : (n : ℕ) (steps p : List ℕ) → n ≤ 16 → length steps ≤ 16 * n → length p ≡ length (take (n * (length steps / n + 1)) (replicate {A = ℕ} 272 0))
    → length p ≡ n * (length steps / n + 1)
long n steps p n-few few same = same ∙ length-take-le (n * (length steps / n + 1)) (replicate 272 0) (lines-room n steps n-few few)

pub returns-then-k-eq0 : goal.returns-then-k-eq0
returns-then-k-eq0 c =
    let a = c.args in
    none_found a.m a.n a.steps.now c.if-k-eq0.true

pub relations_into-requires : goal.relations_into-requires
relations_into-requires c =
    let a = c.args in
    let steps = a.steps.now in (
      c.requires.2,
      steps_few a.n steps c.requires.4,
      vectors-count a.n steps,
      lent_zeros _ 272 _ refl (lines-room a.n steps c.requires.2 c.requires.4),
    )

pub first_unit-requires : goal.first_unit-requires
first_unit-requires c =
    let a = c.args in
    let lines = c.relations_into in
    let size = long a.n a.steps.now lines.new.lines c.requires.2 c.requires.4 lines.auto.lines in
    relations-posed a.m a.n (length a.steps.now / a.n) lines.new.lines _ size c.requires.0 c.requires.2
    (omega (arith, c.if-k-eq0.false)) (steps_few a.n a.steps.now c.requires.4)
    (lines.ensures.by_index a.m (omega (arith, c.requires.0)) c.requires.3)

pub returns : goal.returns
returns c =
    let a = c.args in
    let lines = c.relations_into in
    let size = long a.n a.steps.now lines.new.lines c.requires.2 c.requires.4 lines.auto.lines in
    c.first_unit.ensures
    ∙ ap placed (place_found a.m a.n (length a.steps.now / a.n) lines.new.lines _ size a.steps.now (omega (arith, c.requires.0)) c.requires.3
    (vectors-count a.n a.steps.now) lines.ensures.lines_after)
