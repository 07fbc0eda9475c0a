-- `bytes::words` meets its contract. The invariant: the first i words are written.
use mathlib.Core.Path.{◌≡◌}
use lib.ListN.{length}
use Rattle.slices.specs.Over.{over}
use Rattle.tape.specs.Bytes.{words_within}
use Rattle.tape.proofs.bytes.words.Given as goal

abbrev pub invariant-loop-i : goal.invariant-loop-i
invariant-loop-i l = (length l.out ≡ length l.initial.out) × (l.out ≡ over (words_within l.i l.bytes) l.initial.out)
