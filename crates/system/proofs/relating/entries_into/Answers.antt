-- `relating::entries_into` meets its contract. The invariant: the entries of the first i vectors are written, and the rest has the others.
use mathlib.Core.Path.{◌∙◌}
use native.Mathlib.Omega.{arith}
use Rattle.slices.proofs.Copied.{copied_more, copied_all}
use Rattle.elimination.specs.Relations.{entries_at}
use Rattle.system.specs.Claims.{vectors_of}
use Rattle.system.proofs.Entries.{left_some, left_entry, left_less, left-none}
use Rattle.system.proofs.relating.entries_into.Goals as goal

pub bounds-out-i : goal.bounds-out-i
bounds-out-i c =
    let a = c.args in
    let l = c.loop-i in
    let steps = c.in-Some.ensures.steps in
    let cut = steps.0.1 in
    let xs = entries_at a.p (vectors_of a.n a.vectors.now) in
    omega (arith, steps.1, l.invariant.1, l.invariant.2.1, left_some a.n a.p (omega arith) xs _ _ l.invariant.3 _ _ cut.0 (cut.1 ∙ l.invariant.0))

pub loop-i-preserved : goal.loop-i-preserved
loop-i-preserved c =
    let a = c.args in
    let l = c.loop-i in
    let steps = c.in-Some.ensures.steps in
    let cut = steps.0.1 in
    let long = cut.1 ∙ l.invariant.0 in
    let xs = entries_at a.p (vectors_of a.n a.vectors.now) in
    let some = left_some a.n a.p (omega arith) xs _ _ l.invariant.3 _ _ cut.0 long in (
      steps.0.0 ∙ l.invariant.0,
      l.invariant.1,
      rw (steps.2, steps.1) (copied_more _ xs a.out.now 0 l.invariant.2 some (omega (arith, some, l.invariant.1)) (left_entry a.n a.p (omega arith) xs _ _ l.invariant.3 _ _ cut.0 long)),
      rw (steps.2) (left_less a.n a.p (omega arith) xs _ _ l.invariant.3 _ _ cut.0 long),
    )

pub returns : goal.returns
returns c =
    let a = c.args in
    let l = c.loop-i in
    let xs = entries_at a.p (vectors_of a.n a.vectors.now) in
    copied_all _ xs a.out.now l.invariant.2
    (left-none a.n a.p (omega arith) xs _ _ l.invariant.3 (omega (arith, c.in-None.ensures.steps.0.1.0, l.invariant.0)) l.invariant.2.0)
