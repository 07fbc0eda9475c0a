-- `Basis::free_unknowns` meets its contract: the chain lets through the columns with the pivot m.
use mathlib.Core.Path.{◌≡◌, refl, sym, ap, ◌∙◌}
use mathlib.Core.List.{List, [], ◌∷◌}
use mathlib.Core.Bool.{Bool, true, false, cond}
use Prim.Native.Nat.{ℕ, zero, suc, ◌+◌}
use native.Mathlib.Omega.{arith}
use lib.Dec.{eqb}
use lib.ListN.{length}
use borrow.Author.Rules.{rules}
use borrow.Author.Tests.{tests}
use Rattle.std.specs.List.{filter, range_with_len}
use Rattle.std.proofs.lemmas.Iterator.{YieldsList-from_range}
use Rattle.std.proofs.lemmas.Iterator.Consumers.{YieldsList-from_filter, count_from_yields_List}
use Rattle.elimination.specs.Basis.{pivot}
use Rattle.elimination.specs.Relations.{free_for}
use Rattle.system.specs.Model.Reading.{rows_in}
use Rattle.system.proofs.basis.Basis.free_unknowns.Goals as goal

-- what passes of n numbers from a on; that of one number more
module _ (p : ℕ → Bool) where
  abbrev passing : ℕ → ℕ → ℕ
  passing a n = length (filter p (range_with_len a n))

  in_turn : (x y : Bool) (k : ℕ) → cond x (suc (cond y (suc k) k)) (cond y (suc k) k) ≡ cond y (suc (cond x (suc k) k)) (cond x (suc k) k)
  in_turn true true k = refl
  in_turn true false k = refl
  in_turn false true k = refl
  in_turn false false k = refl

  one : (x : Bool) (a : ℕ) (xs : List ℕ) → length (cond x (a ∷ xs) xs) ≡ cond x (suc (length xs)) (length xs)
  one true a xs = refl
  one false a xs = refl

  passing_more : (a n : ℕ) → passing a (suc n) ≡ cond (p (a + n)) (suc (passing a n)) (passing a n)
  passing_more a zero = let same : a + 0 ≡ a = omega arith in rw same (one (p a) a [])
  passing_more a (suc n) =
      let same : a + 1 + n ≡ a + suc n = omega arith in
      one (p a) a (filter p (range_with_len (a + 1) (suc n))) ∙ ap (λ k. cond (p a) (suc k) k) (passing_more (a + 1) n ∙ rw same refl)
      ∙ in_turn (p a) (p (a + suc n)) (passing (a + 1) n) ∙ sym (ap (λ k. cond (p (a + suc n)) (suc k) k) (one (p a) a (filter p (range_with_len (a + 1) n))))

free_are : (m : ℕ) (B : List (List ℕ)) (n : ℕ) → length (filter (λ i. eqb (pivot i B) m) (range_with_len 0 n)) ≡ free_for m B n
free_are m B zero = refl
free_are m B (suc n) = let same : 0 + n ≡ n = omega arith in passing_more (λ i. eqb (pivot i B) m) 0 n ∙ rw (same, free_are m B n) refl

pub returns : goal.returns
returns c =
    let b = c.args.self.now in
    let counted : c.count.result ≡ free_for b.m (rows_in b.n b.numbers.now) b.n =
    count_from_yields_List _ _ c.count.ensures.ran
    (YieldsList-from_filter _ (λ i. eqb (pivot i (rows_in b.n b.numbers.now)) b.m) (YieldsList-from_range 0 b.n b.n (search rules) (omega arith)) c.filter.ensures.closure (λ x r q k. search (rules, tests)))
    ∙ free_are b.m (rows_in b.n b.numbers.now) b.n in
    (counted, grind arith)
