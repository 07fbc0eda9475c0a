-- `cofactors` meets its contract. The invariant: the divisor of (x, y) is that of (a, b), and there are two columns, from which
-- the cofactors of (a, b) follow. At the start a division of b by a stands for two of the chain. The measure is y.
use mathlib.Core.Bool.{Bool, true, false, not, cond, not-not}
use mathlib.Core.Path.{◌≡◌, refl, sym, ap, subst, ◌∙◌}
use Prim.Native.Nat.{ℕ, zero, suc, ◌+◌, ◌*◌, ◌/◌, ◌%◌, ◌<◌}
use native.Mathlib.Nat.{mod-one, div-one}
use native.Mathlib.Omega.{arith}
use Rattle.residue.specs.Gcd.{gcd, gcd-zero, gcd-step}
use Rattle.residue.specs.Bezout.{cofactors}
use Rattle.residue.specs.Cofactors.{bezout_of}
use Rattle.residue.specs.Negative.{negative}
use Rattle.residue.proofs.Bezout.{cofactors_bezout}
use Rattle.residue.proofs.Columns.{column-first, column_second, column-step, column-given, column_end, column-quotient}
use Rattle.residue.proofs.Congruent.{remainder_is}
use Rattle.residue.proofs.Gcd.{gcd_comm, gcd_positive}
use Rattle.residue.proofs.Inverse.{quotient_is}
use Rattle.residue.proofs.extended.cofactors.Invariants.{Reached}
use Rattle.residue.proofs.extended.cofactors.Goals as goal

reached_first : (m a b : ℕ) → Reached false m a b a b 1 0 0 1
reached_first m a b = (refl, column-first m a b, column_second m a b)

-- (a, b), (b, a), (a, b mod a)
reached_given : (m a b : ℕ) → 0 < m → 0 < a → a < b → Reached false m a b a (b % a) 1 (b / a) 0 1
reached_given m a b pos h small =
    let e : 0 + b / a * 1 ≡ b / a = omega arith in
    let f : 1 + b / a * 0 ≡ 1 = omega arith in (
      sym (gcd-step b a h) ∙ gcd_comm b a,
      rw e at (column-given false pos h small (column-first m a b)),
      rw f at (column-given true pos h small (column_second m a b)),
    )

begins : (m a b quotient rest : ℕ) → 0 < m → 0 < rest → b ≡ rest + quotient * a → (0 < quotient → rest < a)
    → Reached false m a b a rest 1 quotient 0 1
begins m a b zero rest pos some whole less =
    let e : b ≡ rest = omega (arith, whole) in
    rw e (reached_first m a rest)
begins m a b (suc k) rest pos some whole less =
    let small : rest < a = less (omega arith) in
    let r : rest ≡ b % a = remainder_is (suc k) small (sym whole) in
    let q : suc k ≡ b / a = quotient_is b a (suc k) (omega arith) (omega (arith, whole)) (omega (arith, whole)) in
    rw (r, q) (reached_given m a b pos (omega arith) (omega (arith, whole)))

step : {odd : Bool} {m a b x y s s-next t t-next q r : ℕ} → 0 < m → 0 < y → q ≡ x / y → r ≡ x % y
    → Reached odd m a b x y s s-next t t-next
    → Reached (not odd) m a b y r s-next (s + q * s-next) t-next (t + q * t-next)
step {odd} {x = x} {y = y} pos h quotient rest c =
    rw (quotient, rest) (sym (gcd-step x y h) ∙ c.0, column-step odd pos h c.1, column-step (not odd) pos h c.2)

divisor_end : {odd : Bool} {m a b x y u u' v v' : ℕ} → y ≡ 0 → Reached odd m a b x y u u' v v' → x ≡ gcd a b
divisor_end {x = x} last c = sym (gcd-zero x) ∙ ap (gcd x) (sym last) ∙ c.0

quotients_end : {odd : Bool} {m a b x y u u' v v' : ℕ} → 0 < b → y ≡ 0 → Reached odd m a b x y u u' v v'
    → (v' ≡ a / x) × (u' ≡ b / x)
quotients_end {a = a} {b = b} some last c =
    let h = rw (sym (divisor_end last c)) at (gcd_positive a b (omega arith)) in
    (column-quotient h (rw last at c.2), column-quotient h (rw last at c.1))

-- the end of the chain: the columns with their signs are the cofactors
ends : {odd : Bool} {m a b x y u u' v v' d s t q p : ℕ} → 0 < m → y ≡ 0 → Reached odd m a b x y u u' v v'
    → d ≡ x → s ≡ cond odd (negative m u % m) (u % m) → t ≡ cond (not odd) (negative m v % m) (v % m)
    → q ≡ a / d → p ≡ b / d
    → record { divisor = d; s = s; t = t; q = q; p = p } ≡ bezout_of m a b
unfolding bezout_of
ends {odd} {m} {a} {b} {x} {y} {u} {u'} {v} {v'} {d} {s} {t} {q} {p} pos last c ed es et eq ep =
    let z = cofactors_bezout m a b pos in
    let first : s ≡ (cofactors m a b).s = es ∙ sym (column_end odd z.s-small (rw last at c.1)) in
    let second : t ≡ (cofactors m a b).t = et ∙ sym (column_end (not odd) z.t-small (rw last at c.2)) in
    rw (eq, ep, first, second, ed ∙ divisor_end last c)

-- a cofactor's size is handed on with 64 bits
by_size : (minus : Bool) (m : ℕ) {k x r : ℕ} → k ≡ x → r ≡ cond minus (negative m k % m) (k % m)
    → r ≡ cond minus (negative m x % m) (x % m)
by_size minus m {r = r} same = subst (λ (j : ℕ). r ≡ cond minus (negative m j % m) (j % m)) same

pub loop-y-init : goal.loop-y-init
loop-y-init c =
    let p = c.args in
    let r = c.requires in
    begins p.m p.a p.b p.quotient p.rest r.0 r.1 r.2 r.3

pub loop-y-preserved : goal.loop-y-preserved
loop-y-preserved c =
    let d = c.divide-division in
    step (omega arith) (omega arith) d.ensures.0 d.ensures.1 c.loop-y.invariant

-- the division by 1 that is not made
pub returns-then-y-eq1 : goal.returns-then-y-eq1
returns-then-y-eq1 c =
    let p = c.args in
    let l = c.loop-y in
    let pos : 0 < p.m = omega arith in
    let one : l.y ≡ 1 = omega arith in record {
      value = ends pos (ap (λ (k : ℕ). l.x % k) one ∙ mod-one l.x) (step pos (omega arith) refl refl l.invariant) (sym one)
          (by_size (not l.odd) p.m c.wide.ensures c.signed.ensures.0)
          (rw (not-not l.odd) (by_size l.odd p.m c.wide-then-y-eq1.ensures c.signed-then-y-eq1.ensures.0))
          (sym (div-one p.a)) (sym (div-one p.b));
      s_lt_m = (c.signed.ensures.1, c.signed-then-y-eq1.ensures.1);
    }

pub returns-else-y-eq1 : goal.returns-else-y-eq1
returns-else-y-eq1 c =
    let m = c.args.m in
    let l = c.loop-y in
    let last : l.y ≡ 0 = omega arith in
    let whole = quotients_end (omega arith) last l.invariant in record {
      value = ends (omega arith) last l.invariant refl
          (by_size l.odd m c.wide-else-y-eq1.ensures c.signed-else-y-eq1.ensures.0)
          (by_size (not l.odd) m c.wide-else-y-eq1-2.ensures c.signed-else-y-eq1-2.ensures.0) whole.0 whole.1;
      s_lt_m = (c.signed-else-y-eq1.ensures.1, c.signed-else-y-eq1-2.ensures.1);
    }
