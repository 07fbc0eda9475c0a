-- Tests over a finite list: the first element that passes, whether every one does, whether some one
-- does, how many do, and the place of the first that does not; and a list without one of its elements. Definitions only.
use Rattle.std.specs.Prelude.{List, [], ◌∷◌, ◌++◌, Bool, true, false, cond, ◌&&◌, ◌||◌, ℕ, suc, take, drop}
use Rattle.std.proofs.Math.Option.{Option, none, some}

module _ {A : Type 0} where
  abbrev pub first : (A → Bool) → List A → Option A
  first p [] = none
  first p (x ∷ xs) = cond (p x) (some x) (first p xs)

  abbrev pub every : (A → Bool) → List A → Bool
  every p [] = true
  every p (x ∷ xs) = p x && every p xs

  abbrev pub someone : (A → Bool) → List A → Bool
  someone p [] = false
  someone p (x ∷ xs) = p x || someone p xs

  abbrev pub count : (A → Bool) → List A → ℕ
  count p [] = 0
  count p (x ∷ xs) = cond (p x) (suc (count p xs)) (count p xs)

  -- the place of the first that does not pass, where the first of the list has the place j + 1; 0 where every one passes
  abbrev pub fails_from : (A → Bool) → ℕ → List A → ℕ
  fails_from p j [] = 0
  fails_from p j (x ∷ xs) = cond (p x) (fails_from p (suc j) xs) (suc j)

  -- "steps and equations count from 1"
  abbrev pub fails_at : (A → Bool) → List A → ℕ
  fails_at p xs = fails_from p 0 xs

  -- all but what stands at place j, counted from 0; those behind it close up in order
  abbrev pub without : ℕ → List A → List A
  without j xs = take j xs ++ drop (suc j) xs
