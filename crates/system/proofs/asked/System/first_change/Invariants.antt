-- `checking::first_change` meets its contract. The invariants: what is left of the steps, and for its first vector what is left of the lines,
-- finds the pair that the whole finds; all are residues.
use mathlib.Core.Path.{◌≡◌}
use Prim.Native.Nat.{◌+◌, ◌≤◌}
use lib.ListN.{length}
use Rattle.std.specs.Prelude.{None}
use Rattle.std.specs.Iterator.Adapters.{enumerate_source, enumerate_count}
use Rattle.std.specs.Slice.Iter.{chunks_exact_rest, chunks_exact_size}
use Rattle.equations.specs.Vectors.{Below}
use Rattle.system.proofs.Broken.{FirstChanged}
use Rattle.system.proofs.Changes.{FirstChange}
use Rattle.system.proofs.asked.System.first_change.Given as goal

abbrev pub invariant-loop-place : goal.invariant-loop-place
invariant-loop-place l =
    let place = enumerate_count l.place-iterator in
    let left = chunks_exact_rest (enumerate_source l.place-iterator) in
    (chunks_exact_size (enumerate_source l.place-iterator) ≡ l.self.n + 1) × (place + length left ≤ length l.self.lines.now) × (l.found ≡ None)
    × FirstChanged l.self.m l.self.n l.self.lines.now l.step place left × Below l.self.m left

abbrev pub invariant-steps : goal.invariant-steps
invariant-steps l =
    let index = enumerate_count l.index-iterator in
    let rest = chunks_exact_rest (enumerate_source l.index-iterator) in
    (chunks_exact_size (enumerate_source l.index-iterator) ≡ l.self.n) × (index + length rest ≤ length l.steps) × (l.found ≡ None)
    × FirstChange l.self.m l.self.n l.self.lines.now l.steps index rest × Below l.self.m rest
