-- What is written to the front of a lent list.
--   over-fits    what is written fits
--   over-front   it is what the front holds
--   over_past    past it the list holds what it held,
--   over-long    and it is as long as it was
--   over-whole   what is as long as the list is all that it holds
--   over-one     one element more behind it
--   over_then    two lists, the second into the part behind the first
--   over-behind  the same, where it is known by an equation what the first left
--   over-within  the same, where only e elements behind the first are lent
--   head_then    a head stored, and a list into the part behind it
use mathlib.Core.Path.{◌≡◌, refl, sym, ap, ap₂, ◌∙◌}
use mathlib.Core.List.{List, [], ◌∷◌, ◌++◌, append_assoc, append-nil}
use Prim.Native.Nat.{ℕ, zero, suc, ◌+◌, ◌-◌, ◌<◌, ◌≤◌}
use native.Mathlib.Numerals.{add-one}
use native.Mathlib.Omega.{arith}
use lib.ListN.{length, take, drop, get_or, set, length-append, length-drop, take-append-drop, drop_of_length-le}
use lib.Seq.{drop-cons, set_at, append_snoc, take_at, drop_at, drop-drop, get_or-drop, get_or-append-add}
use Rattle.slices.specs.Over.{over}
use Rattle.slices.proofs.Parts.{lent, put_back, lent_behind, put_behind}

module _ {A : Type 0} where
  pub over-fits : (xs old : List A) {new : List A} → new ≡ over xs old → length xs ≤ length new
  over-fits xs old is = omega (arith, ap length is, length-append xs (drop (length xs) old))

  pub over-front : (n : ℕ) (xs old : List A) {new : List A} → new ≡ over xs old → length xs ≡ n → take n new ≡ xs
  over-front n xs old is h = ap (take n) is ∙ take_at xs (drop (length xs) old) n h

  pub over_past : (xs old : List A) (i : ℕ) (z : A) → length xs ≤ i → get_or (over xs old) i z ≡ get_or old i z
  over_past xs old i z past =
      let there : i ≡ length xs + (i - length xs) = omega arith in
      ap (λ (k : ℕ). get_or (over xs old) k z) there
      ∙ get_or-append-add xs (drop (length xs) old) (i - length xs) z
      ∙ get_or-drop (length xs) old (i - length xs) z
      ∙ ap (λ (k : ℕ). get_or old k z) (sym there)

  pub over-long : (xs old : List A) → length xs ≤ length old → length (over xs old) ≡ length old
  over-long xs old fits = omega (arith, length-append xs (drop (length xs) old), length-drop (length xs) old)

  pub over-whole : (xs old : List A) → length xs ≡ length old → over xs old ≡ xs
  over-whole xs old h = ap (λ (z : List A). xs ++ z) (drop_of_length-le old {i = length xs} (omega arith)) ∙ append-nil xs

  pub over-one : (xs old : List A) (y : A) → length xs < length old
      → set (over xs old) (length xs) y ≡ over (xs ++ (y ∷ [])) old
  over-one xs old y room =
      rw (length-append, add-one, drop-cons old (length xs) y room)
      (set_at xs (get_or old (length xs) y) (drop (suc (length xs)) old) y (length xs) refl
      ∙ sym (append_snoc xs y (drop (suc (length xs)) old)))

  over-over : (xs ys old : List A) → xs ++ over ys (drop (length xs) old) ≡ over (xs ++ ys) old
  over-over xs ys old =
      sym (append_assoc xs ys _)
      ∙ ap (λ (z : List A). (xs ++ ys) ++ z)
      (drop-drop (length ys) (length xs) old ∙ ap (λ (k : ℕ). drop k old) (sym (length-append xs ys)))

  pub over_then : (xs ys old : List A) {part : List A} → part ≡ over ys (lent (length xs) (over xs old))
      → put_back (length xs) (over xs old) part ≡ over (xs ++ ys) old
  over_then xs ys old {part} is =
      put_behind (length xs) xs (drop (length xs) old) part refl
      ∙ ap (λ (z : List A). xs ++ z) (is ∙ ap (over ys) (lent_behind (length xs) xs (drop (length xs) old) refl))
      ∙ over-over xs ys old

  pub over-behind : (l : ℕ) (xs ys old : List A) {whole part : List A} → length xs ≡ l → whole ≡ over xs old
      → part ≡ over ys (lent l whole) → put_back l whole part ≡ over (xs ++ ys) old
  over-behind l xs ys old h g is = rw (← h, g) (over_then xs ys old (is ∙ rw (← h, g)))

  drop-take : (k e : ℕ) (s : List A) → k ≤ e → drop k (take e s) ++ drop e s ≡ drop k s
  drop-take zero e s h = take-append-drop e s
  drop-take (suc k) zero s h = absurd (omega arith)
  drop-take (suc k) (suc e) [] h = refl
  drop-take (suc k) (suc e) (x ∷ s) h = drop-take k e s (omega arith)

  over_part : (e : ℕ) (ys s : List A) → length ys ≤ e → over ys (take e s) ++ drop e s ≡ over ys s
  over_part e ys s h = append_assoc ys _ (drop e s) ∙ ap (λ (z : List A). ys ++ z) (drop-take (length ys) e s h)

  pub over-within : (l e : ℕ) (xs ys old : List A) {whole part : List A} → length xs ≡ l → length ys ≤ e
      → whole ≡ over xs old → part ≡ over ys (take e (drop l whole))
      → take l whole ++ (part ++ drop e (drop l whole)) ≡ over (xs ++ ys) old
  over-within l e xs ys old {whole} {part} h g first is =
      let behind : drop l whole ≡ drop (length xs) old = ap (drop l) first ∙ drop_at xs (drop (length xs) old) l h in
      ap₂ (λ (y z : List A). y ++ z) (over-front l xs old first h)
      (ap (λ (z : List A). z ++ drop e (drop l whole)) is ∙ over_part e ys (drop l whole) g ∙ ap (over ys) behind)
      ∙ over-over xs ys old

  pub head_then : (x : A) (xs old : List A) {part : List A} → 0 < length old → part ≡ over xs (lent 1 (set old 0 x))
      → put_back 1 (set old 0 x) part ≡ over (x ∷ xs) old
  head_then x xs [] some is = absurd (omega arith)
  head_then x xs (y ∷ old) some is = over_then (x ∷ []) xs (y ∷ old) is
