-- `reading::first_word` meets its contract: two memory words are enough to see the first word.
use mathlib.Core.Path.{◌≡◌, ◌∙◌}
use Prim.Native.Nat.{◌/◌, min}
use native.Mathlib.Omega.{arith}
use lib.ListN.{length, replicate}
use Rattle.tape.proofs.Taken.{seen_first}
use Rattle.tape.proofs.reading.first_word.Goals as goal

pub returns : goal.returns
returns c =
    let rest = c.args.rest.now in
    let few : c.min-count.result ≡ min 2 (length rest / 4) = omega arith in
    c.first_at-first.ensures.word_value ∙ seen_first rest (replicate 2 0) few c.words.ensures
