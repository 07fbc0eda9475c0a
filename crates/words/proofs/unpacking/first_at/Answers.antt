-- `unpacking::first_at` meets its contract: a memory word of another kind than 13 is a word by itself.
use mathlib.Core.Path.{ap, ◌∙◌}
use Rattle.words.proofs.Words.{kind_of}
use Rattle.words.proofs.Tops.{taken_other}
use Rattle.words.proofs.unpacking.first_at.Goals as goal

pub returns : goal.returns
returns c =
    let a = c.args in
    let word = c.unpack-word.ensures in
    let t = taken_other a.memory.now a.at c.requires (λ e. c.if-word-eq-TOP.false (ap kind_of word ∙ e)) in
    record { word_value = word ∙ t.0; length_value = t.1 }
