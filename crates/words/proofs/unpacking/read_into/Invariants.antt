-- `unpacking::read_into` meets its contract. The invariant: so many words are past as are counted, what is read of them is written, and behind
-- it both slices are as they were.
use mathlib.Core.Path.{◌≡◌}
use Prim.Native.Nat.{◌+◌}
use lib.ListN.{length}
use Rattle.words.specs.declared.unpacking.Word.{Word}
use Rattle.words.specs.Words.{words_in}
use Rattle.words.proofs.Walked.{Reached}
use Rattle.words.proofs.Unpacked.{Unpacked}
use Rattle.words.proofs.unpacking.read_into.Given as goal

abbrev pub invariant-loop-word : goal.invariant-loop-word
invariant-loop-word g l =
    record {
      room : l.count + l.word-iterator.n ≡ length l.initial.kinds;
      past : Reached (words_in l.memory) l.count (words_in l.word-iterator.iter.memory.now);
      kinds : length l.kinds ≡ length l.initial.kinds;
      numbers : length l.numbers ≡ length l.initial.kinds;
      written : (part : Word → Word) → ((w r : Word) → g.F.Fn.post l.read (w, tt) r → r ≡ part w)
          → Unpacked (λ w. (part w).kind) (length l.initial.kinds) l.memory l.initial.kinds l.count l.kinds
          × Unpacked (λ w. (part w).number) (length l.initial.kinds) l.memory l.initial.numbers l.count l.numbers;
    }
