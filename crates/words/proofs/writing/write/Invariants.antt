-- `writing::write` meets its contract. The invariant: the words of the numbers so far are written, in `at` memory words.
use mathlib.Core.Path.{◌≡◌}
use Prim.Native.Nat.{◌≤◌}
use lib.ListN.{length, take}
use Rattle.slices.specs.Over.{over}
use Rattle.words.specs.Words.{words_of}
use Rattle.words.proofs.writing.write.Given as goal

abbrev pub invariant-loop-number : goal.invariant-loop-number
invariant-loop-number l =
    record {
      room : length l.out ≡ length l.initial.out;
      place : l.at ≡ length (words_of l.kind (take l.number-index l.numbers));
      written : l.out ≡ over (words_of l.kind (take l.number-index l.numbers)) l.initial.out;
      fits : l.at ≤ length l.initial.out;
    }
