-- What the digits of a number or an unknown make.
--   capped-number, capped-unknown, capped_beyond   what was made is the number, unless that is too long
use mathlib.Core.Path.{◌≡◌, refl}
use mathlib.Core.Bool.{Bool, true, false}
use mathlib.Core.List.{List, [], ◌∷◌}
use mathlib.Core.Logic.{◌⊎◌, inl, inr, ⊎_elim}
use Prim.Native.Nat.{ℕ, ◌+◌, ◌*◌, ◌≤◌, ◌<◌}
use native.Mathlib.Omega.{arith}
use borrow.Author.Tests.{leb-true, ltb-false, le-ltb}
use lib.Dec.{leb, ltb}
use lib.ListN.{length}
use Rattle.grammar.specs.Grammar.{onto, decimal, are_digits}
use Rattle.typed.specs.Model.Contract.{capped_onto}
use Rattle.grammar.proofs.Tests.{both_left, both_right}

digit : (d : ℕ) (ds : List ℕ) → are_digits (d ∷ ds) ≡ true → d ≤ 9
digit d ds a = leb-true d 9 (both_left (leb d 9) (are_digits ds) a)

others : (d : ℕ) (ds : List ℕ) → are_digits (d ∷ ds) ≡ true → are_digits ds ≡ true
others d ds a = both_right (leb d 9) (are_digits ds) a

onto_grows : (v : ℕ) (ds : List ℕ) → v ≤ onto v ds
onto_grows v [] = omega arith
onto_grows v (d ∷ ds) = omega (arith, onto_grows (10 * v + d) ds)

capped_stays : (v : ℕ) (ds : List ℕ) → 100000 ≤ v → 100000 ≤ capped_onto v ds
capped_stays v [] h = h
capped_stays v (d ∷ ds) h = rw (le-ltb v 100000 h) (capped_stays v ds h)

-- the number itself, or both are large
capped_or : (v : ℕ) (ds : List ℕ) → (capped_onto v ds ≡ onto v ds) ⊎ ((100000 ≤ capped_onto v ds) × (100000 ≤ onto v ds))
capped_or v [] = inl refl
capped_or v (d ∷ ds) = by (ltb v 100000) refl (capped_or (10 * v + d) ds)
  where
    same : v * 10 + d ≡ 10 * v + d
    same = omega arith

    by : (b : Bool) → ltb v 100000 ≡ b
        → (capped_onto (10 * v + d) ds ≡ onto (10 * v + d) ds)
        ⊎ ((100000 ≤ capped_onto (10 * v + d) ds) × (100000 ≤ onto (10 * v + d) ds))
        → (capped_onto v (d ∷ ds) ≡ onto v (d ∷ ds)) ⊎ ((100000 ≤ capped_onto v (d ∷ ds)) × (100000 ≤ onto v (d ∷ ds)))
    by true e h = rw (e, same) h
    by false e h =
        let big : 100000 ≤ v = ltb-false v 100000 e in
        rw e (inr (capped_stays v ds big, omega (arith, onto_grows (10 * v + d) ds)))

-- five digits make less than 100,000
five : (ds : List ℕ) → are_digits ds ≡ true → length ds ≤ 5 → decimal ds < 100000
five [] a h = omega arith
five (p ∷ []) a h = omega (arith, digit p [] a)
five (p ∷ q ∷ []) a h = omega (arith, digit p (q ∷ []) a, digit q [] (others p (q ∷ []) a))
five (p ∷ q ∷ r ∷ []) a h =
    let b = others p (q ∷ r ∷ []) a in let c = others q (r ∷ []) b in
    omega (arith, digit p (q ∷ r ∷ []) a, digit q (r ∷ []) b, digit r [] c)
five (p ∷ q ∷ r ∷ x ∷ []) a h =
    let b = others p (q ∷ r ∷ x ∷ []) a in let c = others q (r ∷ x ∷ []) b in let d = others r (x ∷ []) c in
    omega (arith, digit p (q ∷ r ∷ x ∷ []) a, digit q (r ∷ x ∷ []) b, digit r (x ∷ []) c, digit x [] d)
five (p ∷ q ∷ r ∷ x ∷ y ∷ []) a h =
    let b = others p (q ∷ r ∷ x ∷ y ∷ []) a in let c = others q (r ∷ x ∷ y ∷ []) b in let d = others r (x ∷ y ∷ []) c in
    let e = others x (y ∷ []) d in
    omega (
      arith,
      digit p (q ∷ r ∷ x ∷ y ∷ []) a,
      digit q (r ∷ x ∷ y ∷ []) b,
      digit r (x ∷ y ∷ []) c,
      digit x
          (y ∷ []) d,
      digit y [] e,
    )
five (p ∷ q ∷ r ∷ x ∷ y ∷ z ∷ ds) a h = absurd (omega arith)

pub capped-number : (ds : List ℕ) → are_digits ds ≡ true → length ds ≤ 5 → capped_onto 0 ds ≡ decimal ds
capped-number ds a h = ⊎_elim (λ e. e) (λ w. absurd (omega (arith, w.1, five ds a h))) (capped_or 0 ds)

pub capped-unknown : (ds : List ℕ) → capped_onto 0 ds ≤ 16 → capped_onto 0 ds ≡ decimal ds
capped-unknown ds h = ⊎_elim (λ e. e) (λ w. absurd (omega (arith, w.0))) (capped_or 0 ds)

pub capped_beyond : (ds : List ℕ) → 16 < capped_onto 0 ds → 16 < decimal ds
capped_beyond ds h = ⊎_elim (λ e. omega arith) (λ w. omega (arith, w.1)) (capped_or 0 ds)
