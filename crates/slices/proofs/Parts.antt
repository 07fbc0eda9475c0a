-- Parts of a list as they are written where a slice is lent on and comes back.
--   lent, put_back             the part from l on, and the whole with another list x in its place
--   lent_is, lent_length      what the part is, and how long
--   put_back_is               what the whole is
--   lent_behind, put_behind   the same where a front r of l elements was put in front of d
--   joined-fit                such a front lies in the whole
--   relent_length             and is as long when it is lent again
--   take_taken, drop_taken    no more can be taken off the front, or dropped, than there is
--   parts_suc                 how many parts of c elements a list has, the first one taken off
use mathlib.Core.Path.{◌≡◌, refl, sym, ap, ◌∙◌}
use mathlib.Core.List.{List, [], ◌∷◌, ◌++◌, append-nil}
use Prim.Native.Nat.{ℕ, zero, suc, ◌-◌, ◌/◌, ◌<◌, ◌≤◌}
use native.Mathlib.Nat.{div-eq-sub-div}
use native.Mathlib.Numerals.{add-one}
use native.Mathlib.Omega.{arith}
use lib.ListN.{length, take, drop, length-drop, length-append}
use lib.Seq.{take-length, drop-length, take_at, drop_at, length-take-le}

module _ {A : Type 0} where
  -- ---- from a place on

  abbrev pub lent : ℕ → List A → List A
  lent l s = take (length s - l) (drop l s)

  abbrev pub put_back : ℕ → List A → List A → List A
  put_back l s x = take l s ++ (x ++ drop (length s - l) (drop l s))

  pub lent_is : (l : ℕ) (s : List A) → lent l s ≡ drop l s
  lent_is l s = rw (← length-drop l s) (take-length (drop l s))

  pub lent_length : (l : ℕ) (s : List A) → length (lent l s) ≡ length s - l
  lent_length l s = ap length (lent_is l s) ∙ length-drop l s

  nothing-behind : (l : ℕ) (s : List A) → drop (length s - l) (drop l s) ≡ []
  nothing-behind l s = rw (← length-drop l s) (drop-length (drop l s))

  pub put_back_is : (l : ℕ) (s x : List A) → put_back l s x ≡ take l s ++ x
  put_back_is l s x =
      ap (λ (z : List A). take l s ++ (x ++ z)) (nothing-behind l s) ∙ ap (λ (z : List A). take l s ++ z) (append-nil x)

  pub lent_behind : (l : ℕ) (r d : List A) → length r ≡ l → lent l (r ++ d) ≡ d
  lent_behind l r d h = lent_is l (r ++ d) ∙ drop_at r d l h

  pub put_behind : (l : ℕ) (r d x : List A) → length r ≡ l → put_back l (r ++ d) x ≡ r ++ x
  put_behind l r d x h = put_back_is l (r ++ d) x ∙ ap (λ (z : List A). z ++ x) (take_at r d l h)

  -- ---- up to a place: the first l elements of b are lent, and come back as r

  pub joined-fit : (l : ℕ) (b r : List A) → length r ≡ l → l ≤ length (r ++ drop l b)
  joined-fit l b r h = omega (arith, length-append r (drop l b))

  pub relent_length : (l : ℕ) (b r : List A) → length r ≡ l → length (take l (r ++ drop l b)) ≡ l
  relent_length l b r h = length-take-le l (r ++ drop l b) (joined-fit l b r h)

  -- ---- one part after the other

  pub take_taken : (c : ℕ) (s : List A) → take (length (take c s)) s ≡ take c s
  take_taken zero s = refl
  take_taken (suc c) [] = refl
  take_taken (suc c) (x ∷ s) = ap (λ (z : List A). x ∷ z) (take_taken c s)

  pub drop_taken : (c : ℕ) (s : List A) → drop (length (take c s)) s ≡ drop c s
  drop_taken zero s = refl
  drop_taken (suc c) [] = refl
  drop_taken (suc c) (x ∷ s) = drop_taken c s

  pub parts_suc : (c : ℕ) (s : List A) → 0 < c → c ≤ length s → length s / c ≡ suc (length (drop c s) / c)
  parts_suc c s h g = div-eq-sub-div h g ∙ add-one _ ∙ ap (λ (k : ℕ). suc (k / c)) (sym (length-drop c s))
