-- `relating::first_coprime` meets its contract. The invariant: from place j on the same is found as from the first on.
use mathlib.Core.Path.{◌≡◌}
use Prim.Native.Nat.{◌-◌}
use Rattle.equations.specs.Marks.{place_from}
use Rattle.elimination.specs.Relations.{coprime_at}
use Rattle.system.specs.Claims.{vectors_of}
use Rattle.system.proofs.relating.first_coprime.Given as goal

abbrev pub invariant-loop-j : goal.invariant-loop-j
invariant-loop-j l =
    place_from (coprime_at l.m (vectors_of l.k l.vectors)) l.j (l.k - l.j) ≡ place_from (coprime_at l.m (vectors_of l.k l.vectors)) 0 l.k
