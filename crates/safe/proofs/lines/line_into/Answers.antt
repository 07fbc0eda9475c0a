-- `lines::line_into` meets its contract. The invariant: the first p coefficients are written, what is behind them as it was.
use mathlib.Core.List.{List, ◌++◌}
use mathlib.Core.Path.{◌≡◌, sym, ap, ap₂, ◌∙◌}
use Prim.Native.Nat.{ℕ, ◌%◌}
use native.Mathlib.Omega.{arith}
use lib.ListN.{take, drop, set}
use Rattle.slices.proofs.Copied.{copied_more}
use Rattle.residue.specs.Negative.{negative}
use Rattle.safe.specs.Model.Lines.{coefficients}
use Rattle.safe.proofs.Laid.{length-coefficients, coefficient_at, line_end}
use Rattle.safe.proofs.lines.line_into.Goals as goal

pub loop-p-preserved : goal.loop-p-preserved
loop-p-preserved c =
    let l = c.loop-p in
    let a = c.args in
    let cs = coefficients a.columns a.i 0 a.n in
    copied_more l.p cs a.line.now 0 l.invariant (omega (arith, length-coefficients a.columns a.i 0 a.n)) (omega arith)
    (c.coefficient.ensures
    ∙ sym (coefficient_at a.columns a.i 0 a.n l.p l.p (omega arith) (omega arith)))

pub returns : goal.returns
returns c =
    let l = c.loop-p in
    let a = c.args in
    let cs = coefficients a.columns a.i 0 a.n in
    let all : l.p ≡ a.n = omega (arith, length-coefficients a.columns a.i 0 a.n) in
    ap₂ (λ (z : List ℕ) (b : ℕ). set z a.n b)
    (l.invariant.2 ∙ ap (λ (k : ℕ). take k cs ++ drop k a.line.now) all) c.right_side.ensures
    ∙ line_end a.n (negative a.m a.x % a.m) cs a.line.now (length-coefficients a.columns a.i 0 a.n)
    (omega arith)
