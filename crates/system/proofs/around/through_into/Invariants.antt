-- `around::through_into` meets its contract. The invariant: what was made of the vectors that are off stands in front, and the rest has the
-- others.
use mathlib.Core.Path.{◌≡◌}
use Prim.Native.Nat.{◌+◌, ◌*◌}
use lib.ListN.{length}
use Rattle.std.specs.Iterator.Adapters.{enumerate_source, enumerate_count}
use Rattle.std.specs.Slice.Iter.{chunks_exact_rest, chunks_exact_size}
use Rattle.slices.proofs.Poured.{Poured}
use Rattle.equations.specs.Vectors.{Below}
use Rattle.system.proofs.Through.{rows_through}
use Rattle.system.proofs.around.through_into.Given as goal

abbrev pub invariant-loop-i : goal.invariant-loop-i
invariant-loop-i l =
    let source = enumerate_source l.i-iterator in
    let at = enumerate_count l.i-iterator * (l.n + 1) in
    (chunks_exact_size source ≡ l.n) × (length l.lines ≡ length l.initial.lines) × Below l.m (chunks_exact_rest source)
    × Poured (rows_through l.m l.n l.start) l.vectors l.initial.lines (chunks_exact_rest source) at l.lines
