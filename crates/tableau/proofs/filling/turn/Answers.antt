-- `filling::turn` meets its contract: behind the last turn all that is lent is the reversed list.
use mathlib.Core.Path.{sym, ◌∙◌}
use mathlib.Core.List.{[]}
use native.Mathlib.Omega.{arith}
use lib.ListN.{length, take}
use lib.Seq.{length-take-le}
use Rattle.std.proofs.lemmas.List.{length-reverse}
use Rattle.slices.proofs.Copied.{copied_all}
use Rattle.slices.proofs.Over.{over-whole}
use Rattle.tableau.proofs.Lines.{turned-reverse}
use Rattle.tableau.proofs.filling.turn.Goals as goal

pub returns : goal.returns
returns c =
    let a = c.args in
    let n = length a.out.now in
    let size = length-reverse (take n a.x.now) ∙ length-take-le n a.x.now c.requires in
    copied_all c.loop-i.i _ a.out.now c.loop-i.invariant (omega (arith, size)) ∙ over-whole _ a.out.now size
    ∙ sym (turned-reverse n a.x.now [])
