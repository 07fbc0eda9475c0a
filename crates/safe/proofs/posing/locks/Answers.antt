-- `posing::locks` meets its contract: the product tells which sizes are allowed, as it is 0 where a number is.
use mathlib.Core.Bool.{Bool, true, false, cond, ◌&&◌}
use mathlib.Core.Path.{◌≡◌, refl, sym, ◌∙◌}
use Prim.Native.Nat.{ℕ, zero, suc, ◌*◌}
use native.Mathlib.Nat.{mul-pos}
use native.Mathlib.Omega.{arith}
use borrow.Author.Tests.{lt-ltb, le-leb}
use lib.Dec.{ltb, leb}
use Rattle.std.proofs.Common.{Some, None}
use Rattle.std.specs.Bool.{then_some}
use Rattle.safe.specs.Calls.{allowed_size}
use Rattle.safe.proofs.posing.locks.Goals as goal
use Rattle.safe.proofs.posing.locks.Goals.{then-count-gt0, else-count-gt0}

product_tells : (rows columns : ℕ) → ltb 0 (rows * columns) && leb (rows * columns) 16 ≡ allowed_size rows columns
product_tells zero columns = let none : 0 * columns ≡ 0 = omega arith in rw none
product_tells (suc r) zero = let none : suc r * 0 ≡ 0 = omega arith in rw (none, le-leb 1 (suc r) (omega arith))
product_tells (suc r) (suc k) =
    rw (le-leb 1 (suc r) (omega arith), le-leb 1 (suc k) (omega arith), lt-ltb 0 (suc r * suc k) (mul-pos (omega arith) (omega arith)))

some_if : (b : Bool) (x : ℕ) → then_some b x ≡ cond b (Some x) None
some_if true x = refl
some_if false x = refl

sized : (rows columns count : ℕ) (b : Bool) → count ≡ rows * columns → b ≡ ltb 0 count && leb count 16
    → then_some b count ≡ cond (allowed_size rows columns) (Some (rows * columns)) None
sized rows columns count b product is = some_if b count ∙ rw (is, product, product_tells rows columns)

pub returns : goal.returns
returns c =
    let p = c.args in
    let count = c.in_ok-count.count in
    let b = c.if-count-gt0.then_some in
    c.then_some.ensures
    ∙ sized p.rows p.columns count b c.in_ok-count.ensures.1 (
    elim c.if-count-gt0.branch [
      | then-count-gt0 w ↦ w.then_some-is ∙ sym (rw (lt-ltb 0 count w.if-count-gt0.true))
      | else-count-gt0 w ↦ let none : count ≡ 0 = omega arith in w.then_some-is ∙ rw none
    ])
