-- `substitution::least` meets its contract: the rest is a residue, so that minus it is 0 or what it lacks of m.
use mathlib.Core.Path.{◌≡◌, sym, ap, ◌∙◌}
use Prim.Native.Nat.{ℕ, ◌-◌, ◌/◌, ◌%◌, ◌<◌}
use native.Mathlib.Nat.{zero-div, div-one, mod-eq_of_lt}
use native.Mathlib.Omega.{arith}
use Rattle.residue.specs.Negative.{negative}
use Rattle.tableau.proofs.Entry.{minus-none}
use Rattle.tableau.proofs.substitution.least.Goals as goal

minus_some : (m r : ℕ) → (r ≡ 0 → ⊥) → r < m → negative m r % m ≡ m - r
unfolding negative
minus_some m r e h = ap (λ (k : ℕ). (m - k) % m) (mod-eq_of_lt h) ∙ mod-eq_of_lt (omega arith)

pub returns-then-rest-eq0 : goal.returns-then-rest-eq0
returns-then-rest-eq0 c =
    let a = c.args in
    let e : a.rest % a.m ≡ 0 = mod-eq_of_lt (omega arith) ∙ omega arith in
    sym (ap (λ (k : ℕ). k / a.d) (minus-none a.m a.rest e) ∙ zero-div a.d)

pub returns-then-d-eq1 : goal.returns-then-d-eq1
returns-then-d-eq1 c =
    let a = c.args in
    let e : a.d ≡ 1 = omega arith in
    sym (ap (λ (k : ℕ). negative a.m a.rest % a.m / k) e ∙ div-one (negative a.m a.rest % a.m)
    ∙ minus_some a.m a.rest (λ z. omega arith) (omega arith))

pub returns-else-d-eq1 : goal.returns-else-d-eq1
returns-else-d-eq1 c =
    let a = c.args in
    sym (ap (λ (k : ℕ). k / a.d) (minus_some a.m a.rest (λ z. omega arith) (omega arith)))
