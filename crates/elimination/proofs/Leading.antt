-- Vectors whose first non-zero entry is at j, and their points: behind the i entries
-- after it stand that entry and zeros.
--   sat_zeros                  a basis is 0 at zeros
--   drop_zeros                 the last of zeros
--   Leading, leading_point     what the point of such a vector is
--   leads_turned               and back
--   colex_drop                 points that differ behind the first i columns
use mathlib.Core.Path.{◌≡◌, refl}
use mathlib.Core.Logic.{inl}
use mathlib.Core.List.{List, [], ◌∷◌, reverse_aux}
use Prim.Native.Nat.{ℕ, zero, suc, ◌+◌, ◌≤◌, ◌<◌}
use native.Mathlib.Nat.{zero-lt-suc}
use native.Mathlib.Omega.{arith}
use lib.ListN.{length, drop, replicate}
use lib.Dec.{T, eqb, eqb→eq, eqb-suc-zero}
use mir.Facts.{and_yes}
use Rattle.residue.proofs.Congruent.{congruent_of_eq}
use Rattle.equations.specs.Answer.{leads_at}
use Rattle.equations.proofs.Dot.{dot_zeros_right}
use Rattle.equations.specs.Vectors.{Below}
use Rattle.elimination.specs.Tableau.{turned}
use Rattle.elimination.proofs.Zeros.{Sat}
use Rattle.elimination.proofs.Substitution.{Colex}
use Rattle.elimination.proofs.Turned.{drop-reverse}

-- ---- zeros

pub sat_zeros : (m : ℕ) (B : List (List ℕ)) (j : ℕ) → length B ≤ j → Sat m B (replicate j 0)
sat_zeros m [] j h = tt
sat_zeros m (r ∷ B) zero h = absurd (omega arith)
sat_zeros m (r ∷ B) (suc j) h = (congruent_of_eq (dot_zeros_right r (suc j)), sat_zeros m B j (omega arith))

pub drop_zeros : (j : ℕ) → drop {A = ℕ} j (replicate (suc j) 0) ≡ 0 ∷ []
drop_zeros zero = refl
drop_zeros (suc j) = drop_zeros j

-- ---- the leading entry

pub record Leading (m i z : ℕ) (Z : List ℕ) : Type 0 where
  pub c : ℕ
  pub positive : 0 < c
  pub below : c < m
  pub point : drop i Z ≡ c ∷ replicate z 0

pub leading_point : (m i j k z : ℕ) (w : List ℕ) → length w ≡ i + suc j → z ≡ j + k → Below m w → T (leads_at j w)
    → Leading m i z (reverse_aux w (replicate k 0))
leading_point m i j k z [] lw zs below t = absurd t
leading_point m i zero k z (zero ∷ v) lw zs below t = absurd t
leading_point m i zero k z (suc x ∷ v) lw zs below t = record {
  c = suc x;
  positive = zero-lt-suc x;
  below = below.0;
  point = let e : z ≡ k = omega arith in rw e (drop-reverse i 0 v (suc x ∷ replicate k 0) (omega arith));
}
leading_point m i (suc j) k z (x ∷ v) lw zs below t =
    let p = and_yes (eqb x 0) (leads_at j v) t in
    rw (eqb→eq x 0 p.0) (leading_point m i j (suc k) z v (omega arith) (omega arith) below.1 p.1)

-- zeros in front shift the place
leads_zeros : (j c z : ℕ) (acc : List ℕ) → z ≡ j + c → T (leads_at c acc)
    → T (leads_at z (turned j (replicate (suc j) 0) acc))
leads_zeros zero c z acc h t = let e : z ≡ c = omega arith in rw e t
leads_zeros (suc j) c z acc h t = leads_zeros j (suc c) z (0 ∷ acc) (omega arith) t

not_zero : (e : ℕ) (acc : List ℕ) → 0 < e → T (leads_at 0 (e ∷ acc))
not_zero zero acc h = absurd (omega arith)
not_zero (suc e) acc h = rw (eqb-suc-zero e) tt

pub leads_turned : (n i j e : ℕ) (Y acc : List ℕ) → n ≡ i + suc j → 0 < e → drop i Y ≡ e ∷ replicate (suc j) 0
    → T (leads_at j (turned n Y acc))
leads_turned zero i j e Y acc h pos is = absurd (omega arith)
leads_turned (suc n) zero j e [] acc h pos is = absurd (let z : ◌≡◌ {A = ℕ} 0 1 = cc in omega arith)
leads_turned (suc n) zero j e (y ∷ Y) acc h pos is =
    let f : n ≡ j = omega arith in let a : y ≡ e = cc in let b : Y ≡ replicate (suc j) 0 = cc in
    rw (f, a, b) (leads_zeros j 0 j (e ∷ acc) (omega arith) (not_zero e acc pos))
leads_turned (suc n) (suc i) j e [] acc h pos is = absurd (let z : ◌≡◌ {A = ℕ} 0 1 = cc in omega arith)
leads_turned (suc n) (suc i) j e (y ∷ Y) acc h pos is = leads_turned n i j e Y (y ∷ acc) (omega arith) pos is

pub colex_drop : (i : ℕ) (U Z : List ℕ) → i ≤ length U → i ≤ length Z → Colex (drop i U) (drop i Z) → Colex U Z
colex_drop zero U Z h g c = c
colex_drop (suc i) [] Z h g c = absurd (omega arith)
colex_drop (suc i) (u ∷ U) [] h g c = absurd (omega arith)
colex_drop (suc i) (u ∷ U) (z ∷ Z) h g c = inl (colex_drop i U Z (omega arith) (omega arith) c)
