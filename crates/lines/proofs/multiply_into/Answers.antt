-- `multiply_into` meets its contract: one product more.
use mathlib.Core.Path.{sym}
use mathlib.Core.List.{map}
use Prim.Native.Nat.{ℕ, ◌*◌}
use native.Mathlib.Omega.{arith}
use lib.ListN.{length-map, get_or-map}
use Rattle.slices.proofs.Copied.{copied_none, copied_more, copied_all}
use Rattle.lines.proofs.Stored.{product-below}
use Rattle.lines.proofs.multiply_into.Goals as goal

pub loop-i-init : goal.loop-i-init
loop-i-init c = let a = c.args in copied_none (map (λ (x : ℕ). a.k * x) a.line.now) a.out.now

pub overflow_mul-out : goal.overflow_mul-out
overflow_mul-out c =
    let a = c.args in
    let l = c.loop-i in
    omega (arith, product-below 4294967296 a.k a.line.now l.i c.requires.0 (omega arith))

pub loop-i-preserved : goal.loop-i-preserved
loop-i-preserved c =
    let a = c.args in
    let l = c.loop-i in
    let times : ℕ → ℕ = λ (x : ℕ). a.k * x in
    copied_more l.i (map times a.line.now) a.out.now (times 0) l.invariant (omega (arith, length-map a.line.now times))
    (omega arith) (sym (get_or-map times a.line.now l.i 0))

pub returns : goal.returns
returns c =
    let a = c.args in
    let l = c.loop-i in
    let times : ℕ → ℕ = λ (x : ℕ). a.k * x in
    copied_all l.i (map times a.line.now) a.out.now l.invariant (omega (arith, length-map a.line.now times))
