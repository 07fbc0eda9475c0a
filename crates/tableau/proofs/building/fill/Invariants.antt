-- `building::fill` meets its contract. The invariant: the rows, with the lines that are left, make the basis of all.
use mathlib.Core.Path.{◌≡◌}
use Prim.Native.Nat.{◌+◌}
use Rattle.std.specs.Iterator.Adapters.{enumerate_source, enumerate_count}
use Rattle.std.specs.Slice.Iter.{chunks_exact_rest, chunks_exact_size}
use Rattle.tableau.proofs.Filled.{Filled}
use Rattle.tableau.proofs.building.fill.Given as goal

abbrev pub invariant-loop-i : goal.invariant-loop-i
invariant-loop-i l =
    let source = enumerate_source l.i-iterator in
    (chunks_exact_size source ≡ l.n + 1)
    × Filled l.plain l.m l.n l.k l.numbers l.basis (chunks_exact_rest source) (enumerate_count l.i-iterator)
