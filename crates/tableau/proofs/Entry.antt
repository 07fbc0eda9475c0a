-- One entry of back substitution.
--   minus-none    minus a multiple of m is 0
--   entry_is      what the code computes is the least entry that makes the row 0
--   entry_below   and a residue
--   entry_none    the entry of a row that holds nothing
--   row-short     the first numbers of a row keep to what the row does
--   fit-short     columns behind the known entries Y do not count
--   extend_split  the first entry, in front of the others
use mathlib.Core.Path.{◌≡◌, refl, sym, ap, ◌∙◌}
use mathlib.Core.List.{List, [], ◌∷◌}
use Prim.Native.Nat.{ℕ, zero, suc, ◌-◌, ◌/◌, ◌%◌, ◌≤◌, ◌<◌}
use native.Mathlib.Nat.{sub-zero, mod-mod, mod_self, mod-lt, zero-mod, zero-div, div-le_self}
use native.Mathlib.Omega.{arith}
use lib.ListN.{length, take, get_or, replicate}
use lib.Seq.{length-take-le}
use Rattle.residue.specs.Negative.{negative}
use Rattle.equations.specs.Equation.{dot}
use Rattle.equations.proofs.Vectors.{below-take}
use Rattle.equations.proofs.Dot.{dot_zeros}
use Rattle.equations.proofs.Unit.{take_zeros}
use Rattle.elimination.specs.Substitution.{place, fit, extend}
use Rattle.tableau.specs.Packed.{RowKept}
use Rattle.slices.proofs.Parts.{lent, lent_is}
use Rattle.tableau.proofs.Sums.{dot-short}

pub minus-none : (m r : ℕ) → r % m ≡ 0 → negative m r % m ≡ 0
unfolding negative
minus-none m r e = ap (λ (k : ℕ). (m - k) % m) e ∙ ap (λ (k : ℕ). k % m) (sub-zero m) ∙ mod_self m

place_is : (m d r q : ℕ) → r ≡ q % m → negative m r % m / d ≡ place m d q
unfolding place negative
place_is m d r q h = rw (h, mod-mod q m)

pub entry_is : (m r v : ℕ) (row y : List ℕ) → 0 < length row → r ≡ dot (lent 1 row) y % m
    → v ≡ negative m r % m / get_or row 0 0 → v ≡ fit m row y
entry_is m r v [] y h e f = absurd (omega arith)
entry_is m r v (d ∷ row) y h e f =
    f ∙ place_is m d r (dot row y) (e ∙ ap (λ (s : List ℕ). dot s y % m) (lent_is 1 (d ∷ row)))

pub entry_below : (m r v d : ℕ) → 0 < m → v ≡ negative m r % m / d → v < m
entry_below m r v d pos e = omega (arith, e, div-le_self (negative m r % m) d, mod-lt (negative m r) pos)

place_none : (m d : ℕ) → place m d 0 ≡ 0
unfolding place
place_none m d = ap (λ (k : ℕ). k / d) (minus-none m 0 (zero-mod m)) ∙ zero-div d

pub entry_none : (m : ℕ) (row y : List ℕ) → RowKept m row → get_or row 0 0 ≡ m → 0 ≡ fit m row y
entry_none m [] y k e = refl
entry_none m (d ∷ row) y k e =
    let z : dot row y ≡ 0 = ap (λ (s : List ℕ). dot s y) (k.3 e) ∙ dot_zeros (length row) y in
    sym (ap (place m d) z ∙ place_none m d)

pub row-short : (m q : ℕ) (R : List ℕ) → q ≤ length R → RowKept m R → RowKept m (take q R)
row-short m zero R h k = tt
row-short m (suc q) [] h k = tt
row-short m (suc q) (d ∷ R) h k = (k.0, k.1, below-take m q R k.2, λ e. zeros (k.3 e))
  where
    fits : q ≤ length R
    fits = omega arith

    zeros : R ≡ replicate (length R) 0 → take q R ≡ replicate (length (take q R)) 0
    zeros e =
        ap (take q) e ∙ take_zeros q (length R) fits ∙ ap (λ (n : ℕ). replicate n 0) (sym (length-take-le q R fits))

pub fit-short : (m l q : ℕ) (b Y : List ℕ) → length Y < q → q ≤ l → fit m (take q b) Y ≡ fit m (take l b) Y
fit-short m l zero b Y g e = absurd (omega arith)
fit-short m zero (suc q) b Y g e = absurd (omega arith)
fit-short m (suc l) (suc q) [] Y g e = refl
fit-short m (suc l) (suc q) (d ∷ b) Y g e = ap (place m d) (dot-short q l b Y (omega arith) (omega arith))

pub extend_split : (m j : ℕ) (r : List ℕ) (B : List (List ℕ)) (T : List ℕ) → 0 < j
    → extend m j (r ∷ B) T ≡ fit m r (extend m (j - 1) B T) ∷ extend m (j - 1) B T
extend_split m zero r B T h = absurd (omega arith)
extend_split m (suc j) r B T h = let e : suc j - 1 ≡ j = omega arith in rw e
