-- `classes::first_claim` meets its contract: so many words as the first one says take that much memory.
use mathlib.Core.Path.{sym, ap, ◌∙◌}
use Prim.Native.Nat.{ℕ}
use native.Mathlib.Omega.{arith}
use Rattle.words.specs.Fronts.{front_length, first_word}
use Rattle.words.proofs.Fronts.{front_two, front_length_lem}
use Rattle.ledger.specs.Classes.{claim_words}
use Rattle.asking.proofs.classes.first_claim.Goals as goal

pub returns : goal.returns
returns c =
    let a = c.args in
    let ws = a.words.now in
    let count = c.claim_words-count.ensures.0 ∙ ap (claim_words a.n) c.first_at-first.ensures.word_value in
    let long = c.front_length.ensures ∙ ap (λ (k : ℕ). front_length k ws) count in
    (long ∙ sym (front_length_lem (claim_words a.n (first_word ws)) ws), omega (arith, long, count, c.claim_words-count.ensures.1, front_two (claim_words a.n (first_word ws)) ws))
