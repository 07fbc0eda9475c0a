-- The modulus of an equation in words, by its first word.
--   own_nothing, own_by_first   whether it has one of its own
--   own_plain      then the line's modulus is m, and no word stands in front of the equation
--   own_given      or it is that word's number, and the equation stands behind the word
--   behind_own     the equation's words
--   either_so, used_least, used_own   the modulus that residues are taken by
use mathlib.Core.Path.{◌≡◌, refl, sym, ap, ◌∙◌}
use mathlib.Core.Bool.{Bool, true, false, cond, true≢false}
use mathlib.Core.List.{List, [], ◌∷◌}
use Prim.Native.Nat.{ℕ, ◌<◌, ◌≤◌}
use native.Mathlib.Omega.{arith}
use lib.Dec.{T, eqb}
use lib.ListN.{length, drop}
use Rattle.slices.proofs.Parts.{lent, lent_is}
use Rattle.questions.specs.Questions.{allowed_own}
use Rattle.questions.proofs.Questions.{own_least}
use Rattle.equations.proofs.Truth.{of_true}
use Rattle.words.specs.declared.unpacking.Word.{Word}
use Rattle.words.specs.Words.{words_in, own_modulus_kind}
use Rattle.words.specs.Fronts.{first_word, first_length}
use Rattle.words.proofs.Tops.{words_none, words_first}
use Rattle.ledger.specs.Shapes.{number_at, has_own, own_modulus, equation_words}

pub own_nothing : (ws : List ℕ) → length ws ≡ 0 → has_own (words_in ws) ≡ false
own_nothing [] none = ap has_own words_none
own_nothing (w ∷ ws) none = absurd (omega arith)

-- where there is a word
module _ (ws : List ℕ) (some : 0 < length ws) where
  pub own_by_first : has_own (words_in ws) ≡ eqb (first_word ws).kind own_modulus_kind
  own_by_first = ap has_own (words_first ws some)

  number-first : (first_word ws).number ≡ number_at (words_in ws) 0
  number-first = sym (ap (λ (words : List Word). number_at words 0) (words_first ws some))

  rest_first : words_in (drop (first_length ws) ws) ≡ drop 1 (words_in ws)
  rest_first = sym (ap (drop 1) (words_first ws some))

module _ (m : ℕ) (ws : List ℕ) where
  pub own_plain : has_own (words_in ws) ≡ false
      → (m ≡ own_modulus m (words_in ws)) × (◌≡◌ {A = ℕ} 0 (cond (has_own (words_in ws)) (first_length ws) 0))
  own_plain plain = rw plain (refl, refl)

  pub own_given : 0 < length ws → has_own (words_in ws) ≡ true
      → ((first_word ws).number ≡ own_modulus m (words_in ws))
      × (first_length ws ≡ cond (has_own (words_in ws)) (first_length ws) 0)
  own_given some own = rw own (number-first ws some, refl)

-- m in both cases, where one is q, which is m
pub either_so : {m q : ℕ} (allowed : Bool) → m ≡ q → m ≡ cond allowed q m
either_so true same = same
either_so false same = refl

-- the modulus that residues are taken by: 2 at least, and the line's where it is allowed
pub used_least : (m q : ℕ) (allowed : Bool) → allowed ≡ allowed_own m q → 2 ≤ m → 2 ≤ cond allowed q m
used_least m q true is two = own_least m q (of_true (sym is))
used_least m q false is two = two

pub used_own : (m q : ℕ) (allowed : Bool) → T allowed → cond allowed q m ≡ q
used_own m q true t = refl
used_own m q false t = elim t [ ]

pub behind_own : (ws : List ℕ) (k : ℕ) → k ≡ cond (has_own (words_in ws)) (first_length ws) 0
    → words_in (lent k ws) ≡ equation_words (words_in ws)
behind_own ws k is = ap words_in (lent_is k ws ∙ ap (λ (j : ℕ). drop j ws) is) ∙ go (has_own (words_in ws)) refl ws refl
  where
    go : (own : Bool) → has_own (words_in ws) ≡ own → (xs : List ℕ) → ws ≡ xs
        → words_in (drop (cond own (first_length ws) 0) ws) ≡ cond own (drop 1 (words_in ws)) (words_in ws)
    go true own [] none =
        let z : true ≡ false = sym own ∙ own_nothing ws (ap length none) in absurd (true≢false z)
    go true own (w ∷ xs) same = rest_first ws (omega (arith, ap length same))
    go false own xs same = refl
