-- `bytes::words` meets its contract. The invariant: the first i words are written.
use mathlib.Core.Path.{ap, ◌∙◌}
use Prim.Native.Nat.{◌*◌}
use native.Mathlib.Omega.{arith}
use lib.ListN.{length-set}
use Rattle.slices.proofs.Parts.{lent_is}
use Rattle.tape.specs.Bytes.{word_at}
use Rattle.tape.proofs.OnTape.{words_on_lem}
use Rattle.tape.proofs.bytes.words.Goals as goal

pub loop-i-preserved : goal.loop-i-preserved
loop-i-preserved c =
    let l = c.loop-i in
    let a = c.args in
    let here = 4 * l.i in (
      simp length-set l.invariant.0,
      words_on_lem l.i c.word.result a.bytes.now a.out.now (omega arith)
          (c.word.ensures ∙ ap word_at (lent_is here a.bytes.now)) l.invariant.1,
    )
