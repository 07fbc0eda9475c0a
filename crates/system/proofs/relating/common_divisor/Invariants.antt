-- `relating::common_divisor` meets its contract. The invariant: with the entries of the vectors that are left, the divisor so far has the
-- common divisor of all.
use mathlib.Core.Path.{◌≡◌}
use Rattle.std.specs.Slice.Iter.{chunks_exact_rest, chunks_exact_size}
use Rattle.elimination.specs.Relations.{entries_at, divisor_with}
use Rattle.system.specs.Claims.{vectors_of}
use Rattle.system.proofs.relating.common_divisor.Given as goal

abbrev pub invariant-loop-vector : goal.invariant-loop-vector
invariant-loop-vector l =
    (chunks_exact_size l.vector-iterator ≡ l.k)
    × (divisor_with l.divisor (entries_at l.j (vectors_of l.k (chunks_exact_rest l.vector-iterator)))
    ≡ divisor_with l.m (entries_at l.j (vectors_of l.k l.vectors)))
