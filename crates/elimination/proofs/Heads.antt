-- What stands at place j in the lines of a set that have zeros before it: the multiples of one number, the set's head
-- there. Two sets have the same lines if they have the same heads and one contains the other.
--   Head            d is the head at place j, where i entries follow it
--   length_led      a line with j zeros in front
--   head_unique     two sets with the same lines have the same head
--   same_heads      the larger of two sets with the same heads is the smaller one
use mathlib.Core.Path.{◌≡◌, ap, ◌∙◌}
use mathlib.Core.List.{List, [], ◌∷◌, ◌++◌}
use Prim.Native.Nat.{ℕ, zero, suc, ◌+◌, ◌*◌, ◌<◌}
use native.Mathlib.Omega.{arith}
use lib.ListN.{length, replicate, length-append, length-replicate}
use Rattle.residue.specs.Congruent.{Congruent}
use Rattle.residue.specs.Divides.{Divides}
use Rattle.residue.specs.Negative.{negative}
use Rattle.residue.proofs.Congruent.{congruent_of_eq, congruent_refl, congruent_sym, congruent_trans, congruent_add, congruent_mul, congruent_absorb}
use Rattle.residue.proofs.Divides.{divides_antisym}
use Rattle.residue.proofs.Negative.{negative_is}
use Rattle.equations.specs.Vectors.{combine}
use Rattle.equations.specs.Equation.{dot}
use Rattle.equations.proofs.Dot.{length-combine, dot-combine}
use Rattle.elimination.proofs.Linear.{Linear, linear_rest}

pub record Head (Q : List ℕ → Type 0) (j i d : ℕ) : Type 0 where
  pub rest : List ℕ
  pub length_rest : length rest ≡ i
  pub member : Q (replicate j 0 ++ (d ∷ rest))
  pub divides : (x : ℕ) (W : List ℕ) → length W ≡ i → Q (replicate j 0 ++ (x ∷ W)) → Divides d x

pub length_led : (j : ℕ) (W : List ℕ) → length (replicate j 0 ++ W) ≡ j + length W
length_led j W = length-append (replicate j 0) W ∙ ap (λ (z : ℕ). z + length W) (length-replicate j 0)

pub head_unique : (Q K : List ℕ → Type 0) (n j i d e : ℕ) → j + suc i ≡ n
    → ((W : List ℕ) → length W ≡ n → Q W → K W) → ((W : List ℕ) → length W ≡ n → K W → Q W)
    → Head Q j i d → Head K j i e → d ≡ e
head_unique Q K n j i d e place into onto h g =
    divides_antisym
    (h.divides e g.rest g.length_rest (onto _ (long e g.rest g.length_rest) g.member))
    (g.divides d h.rest h.length_rest (into _ (long d h.rest h.length_rest) h.member))
  where
    long : (x : ℕ) (W : List ℕ) → length W ≡ i → length (replicate j 0 ++ (x ∷ W)) ≡ n
    long x W lw = length_led j (x ∷ W) ∙ omega arith

-- ---- from the heads to the whole: the entry at the first place can be cleared by the line that has the head there

head_rest : (Q : List ℕ → Type 0) (j i d : ℕ) → Head Q (suc j) i d → Head (λ W. Q (0 ∷ W)) j i d
head_rest Q j i d h = record {
  rest = h.rest;
  length_rest = h.length_rest;
  member = h.member;
  divides = h.divides;
}

module _ (m : ℕ) (pos : 0 < m) (x d l : ℕ) (W r : List ℕ) (len : length W ≡ length r) (multiple : x ≡ d * l) where
  cleared : (X : List ℕ)
      → Congruent m (dot (0 ∷ combine m 1 (negative m l) W r) X) (1 * dot (x ∷ W) X + negative m l * dot (d ∷ r) X)
  cleared [] = congruent_of_eq (omega arith)
  cleared (y ∷ X) =
      congruent_sym
      (congruent_trans {b = 1 * dot W X + negative m l * dot r X + (l + negative m l) * (d * y)}
      (congruent_of_eq (omega (arith, ap (λ (z : ℕ). z * y) multiple)))
      (congruent_trans (congruent_absorb (1 * dot W X + negative m l * dot r X) (d * y) (negative_is m l pos))
      (congruent_trans (congruent_sym (dot-combine m 1 (negative m l) W r X len)) (congruent_of_eq (omega arith)))))

  restored : (X : List ℕ)
      → Congruent m (dot (x ∷ W) X) (1 * dot (0 ∷ combine m 1 (negative m l) W r) X + l * dot (d ∷ r) X)
  restored X =
      congruent_sym
      (congruent_trans (congruent_add (congruent_mul (congruent_refl {a = 1}) (cleared X)) congruent_refl)
      (congruent_trans (congruent_of_eq (omega arith))
      (congruent_absorb (dot (x ∷ W) X) (dot (d ∷ r) X) (negative_is m l pos))))

pub same_heads : (m n : ℕ) (Q K : List ℕ → Type 0) (d : ℕ → ℕ) → 0 < m → Linear m Q → Linear m K
    → ((W : List ℕ) → Q W → K W)
    → ((j i : ℕ) → j + suc i ≡ n → Head Q j i (d j)) → ((j i : ℕ) → j + suc i ≡ n → Head K j i (d j))
    → (h : List ℕ) → length h ≡ n → K h → Q h
same_heads m zero Q K d pos lq lk into hq hk [] len k = lq.null [] (λ X. congruent_refl)
same_heads m zero Q K d pos lq lk into hq hk (x ∷ W) len k = absurd (omega arith)
same_heads m (suc n) Q K d pos lq lk into hq hk [] len k = absurd (omega arith)
same_heads m (suc n) Q K d pos lq lk into hq hk (x ∷ W) len k =
    go (hq 0 n (omega arith)) ((hk 0 n (omega arith)).divides x W (omega arith) k)
    (λ h len k. same_heads m n (λ W. Q (0 ∷ W)) (λ W. K (0 ∷ W)) (λ j. d (suc j)) pos
    (linear_rest m Q lq) (linear_rest m K lk) (λ W. into (0 ∷ W))
    (λ j i place. head_rest Q j i (d (suc j)) (hq (suc j) i (omega arith)))
    (λ j i place. head_rest K j i (d (suc j)) (hk (suc j) i (omega arith))) h len k)
  where
    go : Head Q 0 n (d 0) → Divides (d 0) x → ((h : List ℕ) → length h ≡ n → K (0 ∷ h) → Q (0 ∷ h)) → Q (x ∷ W)
    go h v ih =
        let l = v.quotient in
        let r = h.rest in
        let lw : length W ≡ length r = omega arith in
        let R = combine m 1 (negative m l) W r in
        lq.combined 1 l (0 ∷ R) (d 0 ∷ r) (x ∷ W)
        (ih R (length-combine m 1 (negative m l) W r lw ∙ omega arith)
        (lk.combined 1 (negative m l) (x ∷ W) (d 0 ∷ r) (0 ∷ R) k (into _ h.member)
        (cleared m pos x (d 0) l W r lw v.eq)))
        h.member (restored m pos x (d 0) l W r lw v.eq)
