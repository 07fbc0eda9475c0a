-- `Basis::step_into` meets its contract: the pivot 1 has no step, and any other, which is above 1, has the one with m / d in
-- its column.
use mathlib.Core.Path.{◌≡◌, sym, ap, ◌∙◌}
use mathlib.Core.List.{List, []}
use Prim.Native.Nat.{ℕ, ◌/◌}
use lib.ListN.{length}
use Rattle.equations.specs.Answer.{and_then}
use Rattle.elimination.specs.Basis.{pivot}
use Rattle.system.specs.Model.Reading.{rows_in, Laid, read_vector, read_step}
use Rattle.system.proofs.Laid.{laid_none, laid_one}
use Rattle.system.proofs.basis.Basis.step_into.Goals as goal

one-step : (m n i d : ℕ) (B : List (List ℕ)) (old : List ℕ) {out : List ℕ} → d ≡ pivot i B → (d ≡ 1 → ⊥)
    → length old ≡ n → length out ≡ length old → out ≡ read_vector m n B i (m / d)
    → Laid n (and_then (read_step m n B i) []) old out 1
one-step m n i d B old e h room same v =
    laid_one m n i B old (λ p. h (e ∙ p)) room (same ∙ room) (v ∙ ap (λ (k : ℕ). read_vector m n B i (m / k)) e)

pub returns-then-d-eq1 : goal.returns-then-d-eq1
returns-then-d-eq1 c =
    let a = c.args in
    let b = a.self.now in
    let d = c.pivot-d in
    laid_none b.m b.n a.i (rows_in b.n b.numbers.now) a.out.now (sym d.ensures.1 ∙ c.if-d-eq1.true)

pub returns : goal.returns
returns c =
    let a = c.args in
    let b = a.self.now in
    let v = c.vector_into in
    let d = c.pivot-d in
    one-step b.m b.n a.i d.result (rows_in b.n b.numbers.now) a.out.now d.ensures.1 c.if-d-eq1.false
    c.requires.0 v.auto.out v.ensures
