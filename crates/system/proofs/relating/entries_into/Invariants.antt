-- `relating::entries_into` meets its contract. The invariant: the entries of the first i vectors are written, and the rest has the others.
use mathlib.Core.Path.{◌≡◌}
use Prim.Native.Nat.{◌≤◌}
use lib.ListN.{length}
use Rattle.std.specs.Iterator.Adapters.{enumerate_source, enumerate_count}
use Rattle.std.specs.Slice.Iter.{chunks_exact_rest, chunks_exact_size}
use Rattle.slices.proofs.Copied.{Copied}
use Rattle.elimination.specs.Relations.{entries_at}
use Rattle.system.specs.Claims.{vectors_of}
use Rattle.system.proofs.Entries.{EntriesLeft}
use Rattle.system.proofs.relating.entries_into.Given as goal

abbrev pub invariant-loop-i : goal.invariant-loop-i
invariant-loop-i l =
    let xs = entries_at l.p (vectors_of l.n l.vectors) in
    let i = enumerate_count l.i-iterator in
    let source = enumerate_source l.i-iterator in
    (chunks_exact_size source ≡ l.n) × (length xs ≤ length l.initial.out) × Copied i xs l.initial.out l.out
    × EntriesLeft l.n l.p xs i (chunks_exact_rest source)
