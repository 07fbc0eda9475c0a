-- `text::numbers_into` meets its contract. The invariant: the numbers so far are written, each behind a space, in `at` bytes.
use mathlib.Core.Path.{sym, ap, ◌∙◌}
use mathlib.Core.List.{List, ◌∷◌}
use Prim.Native.Nat.{ℕ}
use native.Mathlib.Omega.{arith}
use lib.ListN.{take, get_or}
use borrow.Author.Rules.{rules}
use Rattle.slices.specs.Over.{over}
use Rattle.slices.proofs.Over.{over-behind}
use Rattle.tape.specs.Text.{decimal, spaced}
use Rattle.tape.proofs.Printed.{spaced_on, spaced-length}
use Rattle.tape.proofs.text.numbers_into.Goals as goal

pub loop-x-preserved : goal.loop-x-preserved
loop-x-preserved c =
    let l = c.loop-x in
    let a = c.args in
    let one = c.spaced_number-at in
    let ns = a.numbers.now in
    let more = spaced-length ns l.x-index (omega arith) in (
      search rules,
      omega (arith, l.invariant.1, one.ensures.value.0),
      omega (arith, l.invariant.2, one.ensures.value.1),
      over-behind l.at (spaced (take l.x-index ns)) (32 ∷ decimal (get_or ns l.x-index 0)) a.out.now (sym l.invariant.1) l.invariant.3
          one.ensures.out_after
          ∙ ap (λ (z : List ℕ). over z a.out.now) (sym (spaced_on ns l.x-index (omega arith))),
    )
