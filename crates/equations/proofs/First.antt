-- The first vector that passes a test, said by dictionary order instead of by a list.
--   first-none   no vector of n residues passes: there is no first
--   first_is     v passes and none before it does: v is the first
use mathlib.Core.Path.{◌≡◌, refl, sym, ap, ◌∙◌}
use mathlib.Core.Logic.{◌⊎◌, inl, inr}
use mathlib.Core.List.{List, [], ◌∷◌, ◌++◌, map}
use mathlib.Core.Option.{Option, none, some}
use mathlib.Core.Bool.{Bool, true, false, cond}
use Prim.Native.Nat.{ℕ, zero, suc, ◌+◌, ◌≤◌, ◌<◌, zero-le}
use native.Mathlib.Nat.{eq-or-lt_of_le}
use native.Mathlib.Omega.{arith}
use Rattle.equations.specs.Lists.{first}
use Rattle.equations.specs.Vectors.{Vector, Before, headed, vectors}

-- ---- the first of a list that is put together

abbrev or_else : Option (List ℕ) → Option (List ℕ) → Option (List ℕ)
or_else (some v) o = some v
or_else none o = o

abbrev headed_by : ℕ → Option (List ℕ) → Option (List ℕ)
headed_by x (some v) = some (x ∷ v)
headed_by x none = none

cond_or : (b : Bool) (v : List ℕ) (o o' : Option (List ℕ))
    → or_else (cond b (some v) o) o' ≡ cond b (some v) (or_else o o')
cond_or true v o o' = refl
cond_or false v o o' = refl

cond_headed : (b : Bool) (x : ℕ) (v : List ℕ) (o : Option (List ℕ))
    → headed_by x (cond b (some v) o) ≡ cond b (some (x ∷ v)) (headed_by x o)
cond_headed true x v o = refl
cond_headed false x v o = refl

first-append : (p : List ℕ → Bool) (vs ws : List (List ℕ)) → first p (vs ++ ws) ≡ or_else (first p vs) (first p ws)
first-append p [] ws = refl
first-append p (v ∷ vs) ws =
    ap (cond (p v) (some v)) (first-append p vs ws) ∙ sym (cond_or (p v) v (first p vs) (first p ws))

first-map : (p : List ℕ → Bool) (x : ℕ) (vs : List (List ℕ))
    → first p (map (λ (v : List ℕ). x ∷ v) vs) ≡ headed_by x (first (λ v. p (x ∷ v)) vs)
first-map p x [] = refl
first-map p x (v ∷ vs) =
    ap (cond (p (x ∷ v)) (some (x ∷ v))) (first-map p x vs)
    ∙ sym (cond_headed (p (x ∷ v)) x v (first (λ v. p (x ∷ v)) vs))

first-headed : (p : List ℕ → Bool) (x k : ℕ) (vs : List (List ℕ)) (o : Option (List ℕ)) → first (λ v. p (x ∷ v)) vs ≡ o
    → first p (headed vs x (suc k)) ≡ or_else (headed_by x o) (first p (headed vs (suc x) k))
first-headed p x k vs o h =
    first-append p (map (λ (v : List ℕ). x ∷ v) vs) (headed vs (suc x) k)
    ∙ ap (λ (z : Option (List ℕ)). or_else z (first p (headed vs (suc x) k))) (first-map p x vs ∙ ap (headed_by x) h)

-- ---- over all vectors

none-headed : (p : List ℕ → Bool) (vs : List (List ℕ)) (x k : ℕ)
    → ((y : ℕ) → y < x + k → first (λ v. p (y ∷ v)) vs ≡ none) → first p (headed vs x k) ≡ none
none-headed p vs x zero h = refl
none-headed p vs x (suc k) h =
    first-headed p x k vs none (h x (omega arith)) ∙ none-headed p vs (suc x) k (λ y lt. h y (omega arith))

pub first-none : (m n : ℕ) (p : List ℕ → Bool) → ((w : List ℕ) → Vector m n w → p w ≡ false)
    → first p (vectors m n) ≡ none
first-none m zero p h = ap (λ (b : Bool). cond b (some []) none) (h [] tt)
first-none m (suc n) p h =
    none-headed p (vectors m n) 0 m (λ x lt. first-none m n (λ v. p (x ∷ v)) (λ w vec. h (x ∷ w) (omega arith, vec)))

some_headed : (m n : ℕ) (p : List ℕ → Bool) (x k y : ℕ) (v : List ℕ) → x ≤ y → y < x + k
    → ((z : ℕ) → z < y → first (λ v. p (z ∷ v)) (vectors m n) ≡ none) → first (λ v. p (y ∷ v)) (vectors m n) ≡ some v
    → first p (headed (vectors m n) x k) ≡ some (y ∷ v)
some_headed m n p x zero y v l h before at = absurd (omega arith)
some_headed m n p x (suc k) y v l h before at =
    go (eq-or-lt_of_le l) (λ lt. some_headed m n p (suc x) k y v lt (omega arith) before at)
  where
    go : (x ≡ y) ⊎ (x < y) → (x < y → first p (headed (vectors m n) (suc x) k) ≡ some (y ∷ v))
        → first p (headed (vectors m n) x (suc k)) ≡ some (y ∷ v)
    go (inl e) f = rw e (first-headed p y k (vectors m n) (some v) at)
    go (inr lt) f = first-headed p x k (vectors m n) none (before x lt) ∙ f lt

pub first_is : (m n : ℕ) (p : List ℕ → Bool) (v : List ℕ) → Vector m n v → p v ≡ true
    → ((w : List ℕ) → Vector m n w → Before w v → p w ≡ false) → first p (vectors m n) ≡ some v
first_is m zero p [] vec is_right before = ap (λ (b : Bool). cond b (some []) none) is_right
first_is m zero p (x ∷ v) vec is_right before = absurd vec
first_is m (suc n) p [] vec is_right before = absurd vec
first_is m (suc n) p (x ∷ v) vec is_right before =
    some_headed m n p 0 m x v zero-le (omega arith)
    (λ y lt. first-none m n (λ v. p (y ∷ v)) (λ w wv. before (y ∷ w) (omega arith, wv) (inl lt)))
    (first_is m n (λ v. p (x ∷ v)) v vec.1 is_right (λ w wv lt. before (x ∷ w) (vec.0, wv) (inr (refl, lt))))
