-- Back substitution from one entry e in column i: the scratch array of 17 words, and the vector that comes of it.
--   length_seed, seed_front   the array, and its first w words
--   seed_alone, seed_below    what stands in column i
--   kept-front                rows in front of others
--   seed_vector               the vector that is written
use mathlib.Core.Path.{◌≡◌, sym, ap, ap₂, ◌∙◌}
use mathlib.Core.List.{List, [], ◌∷◌, ◌++◌}
use Prim.Native.Nat.{ℕ, zero, suc, pred, ◌+◌, ◌-◌, ◌<◌, ◌≤◌}
use native.Mathlib.Numerals.{add-one}
use native.Mathlib.Omega.{arith}
use lib.ListN.{length, take, drop, set, replicate, length-set}
use lib.Seq.{length-take-le, take-append-add, drop-set-lt}
use Rattle.equations.specs.Vectors.{Below}
use Rattle.equations.proofs.Unit.{take_zeros}
use Rattle.elimination.specs.Substitution.{extend}
use Rattle.elimination.specs.Tableau.{turned}
use Rattle.tableau.specs.Packed.{rows, Kept}
use Rattle.system.specs.Model.Reading.{read_vector}
use Rattle.system.proofs.Rows.{extend-rows, extend_zeros}

abbrev pub seed : ℕ → ℕ → List ℕ
seed i e = set (replicate 17 0) i e

pub length_seed : (i e : ℕ) → length (seed i e) ≡ 17
length_seed i e = length-set (replicate 17 0) i e

pub seed_front : (w i e : ℕ) → w ≤ 17 → length (take w (seed i e)) ≡ w
seed_front w i e h = length-take-le w (seed i e) (omega (arith, length_seed i e))

behind : (w i k n e : ℕ) → n ≡ i + k → n < w → drop i (take (suc n) (set (replicate w 0) i e)) ≡ e ∷ replicate k 0
behind zero i k n e h g = absurd (omega arith)
behind (suc w) zero k n e h g =
    let f : n ≡ k = omega arith in
    rw f (ap {B = List ℕ} (λ z. e ∷ z) (take_zeros k w (omega arith)))
behind (suc w) (suc i) k zero e h g = absurd (omega arith)
behind (suc w) (suc i) k (suc n) e h g = behind w i k n e (omega arith) (omega arith)

pub seed_alone : (i e : ℕ) → i ≤ 16 → drop i (take (i + 1) (seed i e)) ≡ e ∷ []
seed_alone i e h = rw (add-one i) (behind 17 i 0 i e (omega arith) (omega arith))

pub seed_below : (m i e : ℕ) → i ≤ 16 → e < m → Below m (drop i (take (i + 1) (seed i e)))
seed_below m i e h b = rw (seed_alone i e h) (b, tt)

pub kept-front : (m j w l : ℕ) (s : List ℕ) → j ≤ w → Kept m (rows w l s) → Kept m (rows j l s)
kept-front m zero w l s h k = tt
kept-front m (suc j) zero l s h k = absurd (omega arith)
kept-front m (suc j) (suc w) l s h k = (k.0, kept-front m j w (pred l) (drop l s) (omega arith) k.1)

drop_zeros : (k w : ℕ) → drop k (replicate {A = ℕ} w 0) ≡ replicate (w - k) 0
drop_zeros zero w = let e : w - 0 ≡ w = omega arith in rw e
drop_zeros (suc k) zero = let e : 0 - suc k ≡ 0 = omega arith in rw e
drop_zeros (suc k) (suc w) = let e : suc w - suc k ≡ w - k = omega arith in drop_zeros k w ∙ rw e

-- x is what back substitution made of the first i + 1 words
module _ (m n i e : ℕ) (basis x : List ℕ) (h : i ≤ n) (g : n ≤ 16) (long : length x ≡ i + 1) where
  seed_whole : take (n + 1) (x ++ drop (i + 1) (seed i e)) ≡ x ++ replicate (n - i) 0
  seed_whole =
      let k : n + 1 ≡ length x + (n - i) = omega arith in
      ap (λ (k : ℕ). take k (x ++ drop (i + 1) (seed i e))) k
      ∙ take-append-add x (drop (i + 1) (seed i e)) (n - i)
      ∙ ap (λ (z : List ℕ). x ++ take (n - i) z)
      (drop-set-lt (i + 1) (replicate 17 0) i e (omega arith) ∙ drop_zeros (i + 1) 17)
      ∙ ap (λ (z : List ℕ). x ++ z) (take_zeros (n - i) (17 - (i + 1)) (omega arith))

  pub seed_vector :
      x ≡ extend m i (rows i (length (take (i + 1) (seed i e)) + (n - i)) basis) (drop i (take (i + 1) (seed i e)))
      → turned n (take (n + 1) (x ++ drop (i + 1) (seed i e))) [] ≡ read_vector m n (rows (n + 1) (n + 1) basis) i e
  unfolding read_vector
  seed_vector f =
      let a : length (take (i + 1) (seed i e)) + (n - i) ≡ n + 1 = omega (arith, seed_front (i + 1) i e (omega arith)) in
      ap (λ (z : List ℕ). turned n z [])
      (seed_whole
      ∙ ap (λ (z : List ℕ). z ++ replicate (n - i) 0)
      (f ∙ ap₂ (λ (k : ℕ) (T : List ℕ). extend m i (rows i k basis) T) a (seed_alone i e (omega arith)))
      ∙ sym (extend_zeros m i (n - i) (rows i (n + 1) basis) (e ∷ []))
      ∙ extend-rows m i (n + 1) (n + 1) basis (e ∷ replicate (n - i) 0) (omega arith))
