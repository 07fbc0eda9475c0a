-- `reading::take_words` meets its contract: twice as many memory words are enough to see the words.
use mathlib.Core.Path.{◌≡◌, sym, ◌∙◌}
use Prim.Native.Nat.{◌*◌, ◌/◌, min}
use lib.ListN.{length}
use native.Mathlib.Omega.{arith}
use Rattle.words.proofs.Fronts.{front_two, front_length_lem}
use Rattle.tape.specs.Bytes.{words_on}
use Rattle.tape.proofs.Taken.{seen_count, seen_front}
use Rattle.tape.proofs.reading.take_words.Goals as goal

pub returns : goal.returns
returns c =
    let a = c.args in
    let rest = a.rest.now in
    let few : c.min-count.result ≡ min (2 * a.wanted) (length rest / 4) = omega arith in
    let written = c.words.ensures in
    let is = c.front_length.ensures in
    let count = seen_count a.wanted rest a.taken.now few written is in
    record {
      value =
          (count ∙ sym (front_length_lem a.wanted (words_on rest)), omega (arith, count, front_two a.wanted (words_on rest)));
      taken_after = seen_front a.wanted rest a.taken.now few written is;
    }
