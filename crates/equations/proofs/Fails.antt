-- The place of the first that does not pass.
--   fails-first    where not every one passes, it is the first that does not
--   fails-number   it is known from what stands before
--   fails-none     it is 0 where every one passes, and nowhere else
--   first_gives    what is asked of the first that does not pass is asked of the one that is named
use mathlib.Core.Path.{◌≡◌, refl, ap, ◌∙◌}
use mathlib.Core.Logic.{◌⊎◌, inl, inr}
use mathlib.Core.List.{List, [], ◌∷◌, ◌++◌}
use mathlib.Core.Bool.{Bool, true, false, cond}
use Prim.Native.Nat.{ℕ, suc, ◌+◌}
use native.Mathlib.Omega.{arith}
use lib.ListN.{length}
use lib.Dec.{T, eqb}
use borrow.Author.Tests.{ne_eqb}
use mir.Facts.{and_yes, yes_and}
use Rattle.equations.specs.Lists.{every, fails_from, fails_at}
use Rattle.equations.specs.Reasons.{FirstFails}
use Rattle.equations.proofs.Truth.{true_of, false_of, of_true, of_false, true_or_false}

module _ {A : Type 0} (p : A → Bool) where
  -- the place, where the first of the list has the place j + 1
  fails-number : (j : ℕ) (before : List A) (one : A) (after : List A) → T (every p before) → (T (p one) → ⊥)
      → fails_from p j (before ++ (one ∷ after)) ≡ suc (j + length before)
  fails-number j [] one after pass fails = rw (false_of (p one) fails) (omega arith)
  fails-number j (x ∷ before) one after pass fails =
      let both = and_yes (p x) (every p before) pass in
      rw (true_of (p x) both.0) (fails-number (suc j) before one after both.1 fails ∙ omega arith)

  fails-from : (j : ℕ) (xs : List A) → eqb (fails_from p j xs) 0 ≡ every p xs
  fails-from j [] = refl
  fails-from j (x ∷ xs) = go (true_or_false (p x)) (fails-from (suc j) xs)
    where
      go : (p x ≡ true) ⊎ (p x ≡ false) → eqb (fails_from p (suc j) xs) 0 ≡ every p xs
          → eqb (fails_from p j (x ∷ xs)) 0 ≡ every p (x ∷ xs)
      go (inl e) rest = rw e rest
      go (inr e) rest = rw e (ne_eqb (suc j) 0 (λ z. omega arith))

  pub fails-none : (xs : List A) → eqb (fails_at p xs) 0 ≡ every p xs
  fails-none xs = fails-from 0 xs

  -- the list in three parts
  record Split (xs : List A) : Type 0 where
    before : List A
    one : A
    after : List A
    list : xs ≡ before ++ (one ∷ after)
    pass : T (every p before)
    fails : T (p one) → ⊥

  split : (xs : List A) → (T (every p xs) → ⊥) → Split xs
  split [] f = absurd (f tt)
  split (x ∷ xs) f = go (true_or_false (p x)) (split xs)
    where
      go : (p x ≡ true) ⊎ (p x ≡ false) → ((T (every p xs) → ⊥) → Split xs) → Split (x ∷ xs)
      go (inl e) rest =
          let s = rest (λ t. f (yes_and (p x) (every p xs) (of_true e) t)) in
          record {
            before = x ∷ s.before;
            one = s.one;
            after = s.after;
            list = ap (λ (l : List A). x ∷ l) s.list;
            pass = yes_and (p x) (every p s.before) (of_true e) s.pass;
            fails = s.fails;
          }
      go (inr e) rest = record {
        before = [];
        one = x;
        after = xs;
        list = refl;
        pass = tt;
        fails = of_false e;
      }

  pub fails-first : (xs : List A) → (T (every p xs) → ⊥) → FirstFails p xs (fails_at p xs)
  fails-first xs f =
      let s = split xs f in
      record {
        before = s.before;
        one = s.one;
        after = s.after;
        list = s.list;
        number =
            ap (fails_at p) s.list ∙ fails-number 0 s.before s.one s.after s.pass s.fails ∙ omega arith;
        pass = s.pass;
        fails = s.fails;
      }

module _ {A : Type 0} (p : A → Bool) (asked : A → ℕ) (found : List A → ℕ)
    (next : (x : A) (xs : List A) → found (x ∷ xs) ≡ cond (p x) (found xs) (asked x)) where
  found_of : (before : List A) (one : A) (after : List A) → T (every p before) → (T (p one) → ⊥)
      → found (before ++ (one ∷ after)) ≡ asked one
  found_of [] one after pass fails = next one after ∙ rw (false_of (p one) fails)
  found_of (x ∷ before) one after pass fails =
      let both = and_yes (p x) (every p before) pass in
      next x (before ++ (one ∷ after)) ∙ rw (true_of (p x) both.0) (found_of before one after both.1 fails)

  pub first_gives : (xs : List A) {i : ℕ} (named : FirstFails p xs i) → found xs ≡ asked named.one
  first_gives xs named =
      ap found named.list ∙ found_of named.before named.one named.after named.pass named.fails
