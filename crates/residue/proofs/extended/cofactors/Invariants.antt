-- `cofactors` meets its contract. The invariant: the divisor of (x, y) is that of (a, b), and there are two columns, from which
-- the cofactors of (a, b) follow. At the start a division of b by a stands for two of the chain. The measure is y.
use mathlib.Core.Bool.{Bool, not}
use mathlib.Core.Path.{◌≡◌}
use Prim.Native.Nat.{ℕ}
use Rattle.residue.specs.Gcd.{gcd}
use Rattle.residue.specs.Bezout.{cofactors}
use Rattle.residue.proofs.Columns.{Column}
use Rattle.residue.proofs.extended.cofactors.Given as goal

-- the chain of (a, b) has come to (x, y)
abbrev pub Reached : Bool → ℕ → ℕ → ℕ → ℕ → ℕ → ℕ → ℕ → ℕ → ℕ → Type 0
Reached odd m a b x y s s-next t t-next =
    (gcd x y ≡ gcd a b) × Column odd m b (cofactors m a b).s x y s s-next
    × Column (not odd) m a (cofactors m a b).t x y t t-next

abbrev pub invariant-loop-y : goal.invariant-loop-y
invariant-loop-y l = Reached l.odd l.m l.a l.b l.x l.y l.s l.s_next l.t l.t_next

abbrev pub decreases-loop-y : goal.decreases-loop-y
decreases-loop-y l = l.y
