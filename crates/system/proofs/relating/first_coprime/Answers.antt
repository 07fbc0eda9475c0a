-- `relating::first_coprime` meets its contract. The invariant: from place j on the same is found as from the first on.
use mathlib.Core.Path.{sym, ap, ◌∙◌}
use Prim.Native.Nat.{ℕ}
use native.Mathlib.Omega.{arith}
use lib.Dec.{eqb}
use borrow.Author.Tests.{ne_eqb}
use Rattle.elimination.specs.Relations.{coprime_at}
use Rattle.system.specs.Claims.{vectors_of}
use Rattle.system.proofs.Relations.{place_on}
use Rattle.system.proofs.relating.first_coprime.Goals as goal

pub loop-j-preserved : goal.loop-j-preserved
loop-j-preserved c =
    let a = c.args in
    let l = c.loop-j in
    place_on (coprime_at a.m (vectors_of a.k a.vectors.now)) a.k l.j (omega arith)
    (ap (λ (d : ℕ). eqb d 1) (sym c.common_divisor.ensures) ∙ ne_eqb _ 1 c.if-common_divisor-eq1.false)
    ∙ l.invariant
