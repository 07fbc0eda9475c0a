-- Vectors written one behind the other into a lent list.
--   laid_nothing, laid_zero         none of them
--   laid_none, laid_one             the step of a column with the pivot 1, and with any other
--   laid_cons                       a vector in front of others
--   Left                            what is written and what is left, before a column's turn
--   left-all, left_less, left-none  before the first column, from one to the next, behind the last
--   room, few, room-length          there is place for a step more, and how long this place is
use mathlib.Core.Path.{◌≡◌, refl, sym, ap, ◌∙◌, subst}
use mathlib.Core.List.{List, [], ◌∷◌, ◌++◌, append-nil, append_assoc, flatten}
use mathlib.Core.Option.{Option, none, some}
use Prim.Native.Nat.{ℕ, zero, suc, ◌+◌, ◌-◌, ◌*◌, ◌/◌, ◌<◌, ◌≤◌}
use native.Mathlib.Nat.{zero-mul, one-mul, mul-le-mul}
use native.Mathlib.Omega.{arith}
use lib.ListN.{length, take, drop, length-append}
use borrow.Author.Tests.{eq-eqb, ne_eqb}
use borrow.Rule.Slice.PartMut.{mid_len}
use Rattle.slices.specs.Over.{over}
use Rattle.slices.proofs.Parts.{lent, put_back}
use Rattle.slices.proofs.Over.{over-whole, over-behind, over-within}
use Rattle.equations.specs.Answer.{and_then}
use Rattle.elimination.specs.Basis.{pivot}
use Rattle.system.specs.Model.Reading.{Laid, read_vector, read_step, read_steps}

pub laid_nothing : (n : ℕ) (old : List ℕ) → Laid n [] old old 0
unfolding flatten
laid_nothing n old = record { count = refl; size = sym (zero-mul n); written = refl }

pub laid_zero : (n r : ℕ) (vs : List (List ℕ)) {old out : List ℕ} → r ≡ 0 → Laid n vs old out r → out ≡ old
unfolding flatten
laid_zero n r [] z w = w.written
laid_zero n r (v ∷ vs) z w = absurd (omega (arith, w.count))

module _ (m n i : ℕ) (B : List (List ℕ)) (old : List ℕ) where
  pub laid_none : pivot i B ≡ 1 → Laid n (and_then (read_step m n B i) []) old old 0
  unfolding read_step
  laid_none h = rw (eq-eqb (pivot i B) 1 h) (laid_nothing n old)

  pub laid_one : {out : List ℕ} → (pivot i B ≡ 1 → ⊥) → length old ≡ n → length out ≡ n
      → out ≡ read_vector m n B i (m / pivot i B) → Laid n (and_then (read_step m n B i) []) old out 1
  unfolding read_step flatten
  laid_one {out} h room long v =
      let all : read_vector m n B i (m / pivot i B) ++ [] ≡ out = append-nil _ ∙ sym v in
      rw (ne_eqb (pivot i B) 1 h) (record {
        count = refl;
        size = omega (arith, ap length all, one-mul n);
        written = sym (ap (λ (z : List ℕ). over z old) all ∙ over-whole out old (long ∙ sym room));
      })

pub laid_cons : (n r : ℕ) (v old : List ℕ) (vs : List (List ℕ)) {p : List ℕ} → length v ≡ n
    → Laid n vs (lent n (v ++ drop n old)) p r → Laid n (v ∷ vs) old (put_back n (v ++ drop n old) p) (r + 1)
unfolding flatten
laid_cons n r v old vs long w =
    record {
      count = omega (arith, w.count);
      size = omega (arith, w.size, length-append v (flatten vs));
      written = over-behind n v (flatten vs) old long (ap (λ (k : ℕ). v ++ drop k old) (sym long)) w.written;
    }

-- ---- a column in each turn

flatten_append : (us vs : List (List ℕ)) → flatten (us ++ vs) ≡ flatten us ++ flatten vs
unfolding flatten
flatten_append [] vs = refl
flatten_append (u ∷ us) vs = ap (λ (z : List ℕ). u ++ z) (flatten_append us vs) ∙ sym (append_assoc u (flatten us) (flatten vs))

-- vs is written to a part of e numbers behind us
laid_more : (n c r e : ℕ) (us vs : List (List ℕ)) {old out p : List ℕ} → r * n ≤ e → Laid n us old out c
    → Laid n vs (take e (drop (c * n) out)) p r
    → Laid n (us ++ vs) old (take (c * n) out ++ (p ++ drop e (drop (c * n) out))) (c + r)
laid_more n c r e us vs {old} fits u w =
    let both = flatten_append us vs in
    record {
      count = omega (arith, u.count, w.count, length-append us vs);
      size = omega (arith, ap length both, length-append (flatten us) (flatten vs), u.size, w.size);
      written =
          over-within (c * n) e (flatten us) (flatten vs) old u.size (omega (arith, w.size)) u.written w.written
          ∙ ap (λ (z : List ℕ). over z old) (sym both);
    }

steps_suc : (m n i : ℕ) (B : List (List ℕ)) → 0 < i
    → read_steps m n B i ≡ and_then (read_step m n B (i - 1)) [] ++ read_steps m n B (i - 1)
steps_suc m n zero B h = absurd (omega arith)
steps_suc m n (suc i) B h =
    let e : suc i - 1 ≡ i = omega arith in
    rw e (then_append (read_step m n B i) (read_steps m n B i))
  where
    then_append : (o : Option (List ℕ)) (ss : List (List ℕ)) → and_then o ss ≡ and_then o [] ++ ss
    then_append none ss = refl
    then_append (some v) ss = refl

-- c steps are written, and those of the first i columns are left
pub record Left (m n : ℕ) (B : List (List ℕ)) (old out : List ℕ) (c i : ℕ) : Type 0 where
  pub places : c + i ≤ n
  pub done : List (List ℕ)
  pub all : read_steps m n B n ≡ done ++ read_steps m n B i
  pub laid : Laid n done old out c

pub left-all : (m n : ℕ) (B : List (List ℕ)) (old : List ℕ) → Left m n B old old 0 n
left-all m n B old = record { places = omega arith; done = []; all = refl; laid = laid_nothing n old }

pub left-none : (m n i c : ℕ) (B : List (List ℕ)) {old out : List ℕ} → i ≡ 0 → Left m n B old out c i
    → Laid n (read_steps m n B n) old out c
left-none m n zero c B {old} {out} z l =
    subst (λ (vs : List (List ℕ)). Laid n vs old out c) (sym (l.all ∙ append-nil l.done)) l.laid
left-none m n (suc i) c B z l = absurd (omega arith)

-- p is what a part of n numbers behind c vectors came back as
pub left_less : (m n i c r next : ℕ) (B : List (List ℕ)) {old out p : List ℕ} → 0 < i → r ≤ 1 → next ≡ c + r → Left m n B old out c i
    → Laid n (and_then (read_step m n B (i - 1)) []) (take (c * n + n - c * n) (drop (c * n) out)) p r
    → Left m n B old (take (c * n) out ++ (p ++ drop (c * n + n - c * n) (drop (c * n) out))) next (i - 1)
left_less m n i c r next B pos one sum l w =
    let step = and_then (read_step m n B (i - 1)) [] in
    let fits : r * n ≤ c * n + n - c * n =
    omega (arith, mul-le-mul {n₁ = r} {m₁ = n} {n₂ = 1} {m₂ = n} one (omega arith), one-mul n) in
    record {
      places = omega (arith, l.places, sum);
      done = l.done ++ step;
      all =
          l.all
          ∙ ap (λ (vs : List (List ℕ)). l.done ++ vs) (steps_suc m n i B pos)
          ∙ sym (append_assoc l.done step (read_steps m n B (i - 1)));
      laid = subst (Laid n (l.done ++ step) _ _) (sym sum) (laid_more n c r (c * n + n - c * n) l.done step fits l.laid w);
    }

-- ---- there is room for all of them

-- c vectors of n numbers and one more lie in n·n numbers
pub room : (n c i : ℕ) → c + i ≤ n → 0 < i → c * n + n ≤ n * n
room n c i h g = omega (arith, mul-le-mul {n₁ = c + 1} {m₁ = n} {n₂ = n} {m₂ = n} (omega arith) (omega arith))

pub few : (n : ℕ) → n ≤ 16 → n * n ≤ 256
few n h = mul-le-mul {n₁ = n} {m₁ = n} {n₂ = 16} {m₂ = 16} h h

pub room-length : (n c i : ℕ) (out : List ℕ) → c + i ≤ n → 0 < i → n * n ≤ length out
    → length (take (c * n + n - c * n) (drop (c * n) out)) ≡ n
room-length n c i out h g e = mid_len (c * n) (c * n + n) out (omega (arith, room n c i h g)) ∙ omega arith
