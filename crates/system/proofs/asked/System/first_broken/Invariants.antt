-- `checking::first_broken` meets its contract. The invariant: the rest of the lines, which are residues, finds the line that all of
-- them find.
use mathlib.Core.Path.{◌≡◌}
use Prim.Native.Nat.{◌+◌, ◌≤◌}
use lib.ListN.{length}
use Rattle.std.specs.Iterator.Adapters.{enumerate_source, enumerate_count}
use Rattle.std.specs.Slice.Iter.{chunks_exact_rest, chunks_exact_size}
use Rattle.equations.specs.Vectors.{Below}
use Rattle.system.proofs.Broken.{FirstBroken}
use Rattle.system.proofs.asked.System.first_broken.Given as goal

abbrev pub invariant-loop-index : goal.invariant-loop-index
invariant-loop-index l =
    let index = enumerate_count l.index-iterator in
    let rest = chunks_exact_rest (enumerate_source l.index-iterator) in
    (chunks_exact_size (enumerate_source l.index-iterator) ≡ l.self.n + 1) × (index + length rest ≤ length l.self.lines.now) × FirstBroken l.self.m l.self.n l.self.lines.now l.v index rest × Below l.self.m rest
