-- `gcd` meets its contract. The invariant: the divisor of (x, y) is that of (a, b), and the divisions still to come fill
-- the count up to that of (a, b). The measure is y.
use mathlib.Core.Path.{◌≡◌, sym, ap, ◌∙◌}
use Prim.Native.Nat.{◌<◌}
use native.Mathlib.Omega.{arith}
use Rattle.residue.specs.Chain.{chain_of}
use Rattle.residue.specs.Gcd.{gcd, gcd-zero, gcd-step, divisions, divisions-zero, divisions-step}
use Rattle.residue.proofs.Gcd.{divisions_le}
use Rattle.residue.proofs.Lame.{lame}
use Rattle.residue.proofs.euclid.gcd.Goals as goal

pub overflow_add-count : goal.overflow_add-count
overflow_add-count c =
    let l = c.loop-y in
    let p = c.args in
    omega (arith, divisions-step l.x l.y (omega arith), divisions_le p.a p.b)

pub loop-y-preserved : goal.loop-y-preserved
loop-y-preserved c =
    let l = c.loop-y in
    let p : 0 < l.y = omega arith in
    rw c.divide-division.ensures.1 (sym (gcd-step l.x l.y p) ∙ l.invariant.0, omega (arith, divisions-step l.x l.y p))

pub returns : goal.returns
unfolding chain_of
returns c =
    let l = c.loop-y in
    let e : l.y ≡ 0 = omega arith in
    let a = c.args.a in
    let b = c.args.b in
    let d : l.x ≡ gcd a b = sym (gcd-zero l.x) ∙ ap (gcd l.x) (sym e) ∙ l.invariant.0 in
    let n : l.count ≡ divisions a b = omega (arith, divisions-zero l.x, ap (divisions l.x) e) in
    record { value = rw (d, n); divisions_bound = rw n (lame a b) }
