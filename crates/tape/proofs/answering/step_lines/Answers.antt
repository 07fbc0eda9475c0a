-- `answering::step_lines` meets its contract. The invariant: the lines of the first i steps are written, in `at` bytes.
use mathlib.Core.Path.{sym, ap, ◌∙◌}
use mathlib.Core.List.{List, ◌++◌}
use Prim.Native.Nat.{ℕ, ◌+◌, ◌-◌, ◌*◌}
use native.Mathlib.Omega.{arith}
use borrow.Author.Rules.{rules}
use lib.ListN.{length, take, drop, length-take, length-append}
use Rattle.slices.specs.Over.{over}
use Rattle.slices.proofs.Over.{over-behind}
use Rattle.system.specs.Claims.{vectors_within}
use Rattle.tape.specs.Ascii.{bytes_of}
use Rattle.tape.specs.Text.{line_of}
use Rattle.tape.specs.Output.{step_lines}
use Rattle.tape.proofs.Steps.{steps_on, step_part}
use Rattle.tape.proofs.answering.step_lines.Goals as goal

pub loop-i-preserved : goal.loop-i-preserved
loop-i-preserved c =
    let l = c.loop-i in
    let a = c.args in
    let s = a.vectors.now in
    let start = l.i * a.n in
    let line = c.line-at in
    let more = steps_on l.i a.n s in
    let part = step_part start a.n s in
    let done = step_lines (vectors_within l.i a.n s) in
    let few = length-take (start + a.n - start) (drop start s) in
    let longer = ap length more ∙ length-append done (line_of (bytes_of "step") (take a.n (drop start s))) in (
      search rules,
      omega (arith, l.invariant.1, longer, line.ensures.value.0, ap (λ (z : List ℕ). length (line_of (bytes_of "step") z)) part),
      omega (arith, l.invariant.2, line.ensures.value.1, few),
      over-behind l.at done (line_of (bytes_of "step") (take (start + a.n - start) (drop start s))) a.out.now (sym l.invariant.1)
          l.invariant.3 line.ensures.out_after
          ∙ ap (λ (z : List ℕ). over (done ++ line_of (bytes_of "step") z) a.out.now) part
          ∙ ap (λ (z : List ℕ). over z a.out.now) (sym more),
    )
