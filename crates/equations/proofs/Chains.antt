-- What a chain that tests its items says, in the words of specs/Lists: whether every item passes.
--   every_from_all    a chain that ends in `all`
--   every_from_fold   one that ends in a `fold` with `&`, which looks at every item
use mathlib.Core.Path.{◌≡◌, refl, sym, ◌∙◌}
use mathlib.Core.List.{List, [], ◌∷◌}
use Rattle.std.specs.Prelude.{Option}
use mathlib.Core.Bool.{Bool, true, false, ◌&&◌, and-false}
use Prim.Native.Nat.{ℕ, zero, suc, ◌<◌}
use native.Mathlib.Omega.{arith}
use lib.ListN.{length}
use denote.Param.Members.{Mut}
use Rattle.std.specs.Bool.{MatchBool}
use Rattle.std.specs.Option.{MatchOption}
use Rattle.std.specs.Fn.{Called}
use Rattle.std.specs.Iterator.{YieldsThen, Drains}
use Rattle.std.specs.List.{FoldsTo, AllWithin, HoldsAt, fold}
use Rattle.std.proofs.lemmas.Iterator.{YieldsList, cases_from_all}
use Rattle.std.proofs.lemmas.Iterator.Consumers.{fold_from_yields_List}
use Rattle.equations.specs.Lists.{every}

module _ {B : Type 0} (test : B → Bool) where
  abbrev Yes : B → Type 0
  Yes x = test x ≡ true

  abbrev No : B → Type 0
  No x = test x ≡ false

  passes : (xs : List B) → AllWithin Yes xs 0 (length xs) → true ≡ every test xs
  passes [] h = refl
  passes (x ∷ xs) h = rw (h 0 x (omega arith) (omega arith)) (passes xs (λ k d low high. h (suc k) d (omega arith) (omega arith)))

  fails : (xs : List B) (k : ℕ) → k < length xs → HoldsAt No xs k → false ≡ every test xs
  fails [] k at h = absurd (omega arith)
  fails (x ∷ xs) zero at h = rw (h x) refl
  fails (x ∷ xs) (suc k) at h = rw (sym (fails xs k (omega arith) h), and-false (test x)) refl

  decided : (r : Bool) (xs : List B) → MatchBool r (AllWithin Yes xs 0 (length xs)) ((k : ℕ) × (k < length xs) × HoldsAt No xs k)
      → r ≡ every test xs
  decided true xs h = passes xs h
  decided false xs (k, at, h) = fails xs k at h

  pub every_from_all : {S A F : Type 0} {steps : S → Option A → S → Type 0} {v : A → B} {g : Mut F (A × Unit {0}) Bool} {s : S} {all : List B}
      (u : S) (f : F) (r : Bool)
      → (xs : List A) × (o : Option A) × (j : F) × YieldsThen steps s xs o u × FoldsTo (λ p x q. Called g p (x, tt) true q) f xs j
      × MatchOption o (r ≡ true) (λ x. (r ≡ false) × ((h : F) × Called g j (x, tt) false h))
      → YieldsList steps v s all
      → ((x : A) (q : F) → Called g f (x, tt) true q → (q ≡ f) × (test (v x) ≡ true))
      → ((x : A) (q : F) → Called g f (x, tt) false q → test (v x) ≡ false)
      → r ≡ every test all
  every_from_all {all = all} u f r ran items passed failed = decided r all (cases_from_all u f r Yes No ran items passed failed)

  folded : (xs : List B) (a : Bool) → fold (λ b x. b && test x) a xs ≡ (a && every test xs)
  folded [] true = refl
  folded [] false = refl
  folded (x ∷ xs) true = folded xs (test x)
  folded (x ∷ xs) false = folded xs false

  pub every_from_fold : {S A F : Type 0} {steps : S → Option A → S → Type 0} {v : A → B} {s : S} {all : List B}
      (g : Mut F (Bool × (A × Unit {0})) Bool) {f : F} (r : Bool)
      → (xs : List A) × (q : F) × Drains steps s xs × FoldsTo {P = F × Bool} (λ a x b. Called g a.0 (a.1, (x, tt)) b.1 b.0) (f, true) xs (q, r)
      → YieldsList steps v s all
      → ((a : Bool) (x : A) (b : Bool) (q : F) → Called g f (a, (x, tt)) b q → (q ≡ f) × (b ≡ (a && test (v x))))
      → r ≡ every test all
  every_from_fold {all = all} g r ran items tested =
      fold_from_yields_List g (λ b x. b && test x) true r ran items tested ∙ folded all true
