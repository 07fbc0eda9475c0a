-- `opposite` meets its contract: the residue is taken off m, unless it is 0.
use mathlib.Core.Path.{◌≡◌, sym, ap, ◌∙◌}
use Prim.Native.Nat.{ℕ, ◌-◌, ◌%◌, ◌<◌}
use native.Mathlib.Nat.{zero-mod, sub-zero, mod_self, mod-eq_of_lt}
use native.Mathlib.Omega.{arith}
use Rattle.residue.specs.Negative.{negative}
use Rattle.residue.proofs.modular.opposite.Goals as goal

negative_of_zero : (m a : ℕ) → a ≡ 0 → 0 ≡ negative m a % m
unfolding negative
negative_of_zero m a z =
    sym (ap (λ (k : ℕ). (m - k % m) % m) z ∙ ap (λ (k : ℕ). (m - k) % m) (zero-mod m) ∙ ap (λ (k : ℕ). k % m) (sub-zero m) ∙ mod_self m)

negative_is_difference : (m a : ℕ) → a < m → m - a < m → m - a ≡ negative m a % m
unfolding negative
negative_is_difference m a small h = sym (mod-eq_of_lt h) ∙ ap (λ (k : ℕ). (m - k) % m) (sym (mod-eq_of_lt small))

pub returns-then-a-eq0 : goal.returns-then-a-eq0
returns-then-a-eq0 c =
    let p = c.args in
    (negative_of_zero p.m p.a (omega arith), omega arith)

pub returns-else-a-eq0 : goal.returns-else-a-eq0
returns-else-a-eq0 c =
    let p = c.args in
    (negative_is_difference p.m p.a (omega arith) (omega arith), omega arith)
