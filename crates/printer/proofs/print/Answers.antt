-- The lines of a call are taken off what remains, and written.
use Rattle.std.proofs.Common.{ℕ, List, ◌++◌, sym, ap, ◌∙◌, append_assoc}
use Rattle.std.proofs.KnownBytes.{Appends-trans}
use Rattle.printer.proofs.print.Goals as goal

pub loop-told-preserved : goal.loop-told-preserved
loop-told-preserved g c =
    let told = c.in-Some.told.now in
    let (done, split, before) = c.loop-told.invariant in
    let next = rw c.in-Some.is at c.next_lines.follows.holds-at-none in (
      done ++ told,
      λ fits. split fits ∙ ap (λ (z : List ℕ). done ++ z) next.0 ∙ sym (append_assoc done told _),
      Appends-trans _ _ _ done told before c.in_ok-write_all.ensures.bytes,
    )
