-- Words that take one memory word or two.
--   carries-number                        the number of a word of kind 13 that is part of another has 4 bits
--   carries_other                         a memory word of another kind carries no top
--   words_pair, words_single, words_one   the words, by what the first two memory words are
--   none_there                            where there is no memory there are no words
--   along                                 induction along the words that lie in memory
--   words_other                           a first memory word of another kind is a word by itself
--   first_pair, first_single, first-last  how much memory the first word takes
--   first_two, first_fits                 two memory words at most, and no more than there are
--   words_first                           the first word and the others
--   taken_other, taken_last, taken_single, taken_pair   the first word from a place on
use mathlib.Core.Path.{◌≡◌, refl, sym, ap, ◌∙◌}
use mathlib.Core.List.{List, [], ◌∷◌}
use mathlib.Core.Bool.{Bool, true, false, ◌&&◌}
use Prim.Native.Nat.{ℕ, suc, ◌+◌, ◌<◌, ◌≤◌}
use native.Mathlib.Numerals.{add-one}
use native.Mathlib.Omega.{arith}
use lib.ListN.{length, drop, get_or, drop_of_length-le}
use lib.Seq.{drop-cons}
use lib.Dec.{eqb, leb}
use borrow.Author.Tests.{ne_eqb, leb-true}
use Rattle.words.specs.declared.unpacking.Word.{Word}
use Rattle.words.specs.Words.{top_kind, takes_top, carries, word_of, joined, words_in}
use Rattle.words.specs.Fronts.{first_of, first_word, first_length}

-- ---- tests

third : (a b c d : Bool) → (a && b && c && d) ≡ true → c ≡ true
third a b true d h = refl
third true true false d h = h
third true false false d h = h
third false b false d h = h

pub carries-number : (w v : ℕ) → carries w v ≡ true → (word_of w).number ≤ 15
unfolding carries
carries-number w v h =
    leb-true (word_of w).number 15
    (third (eqb (word_of w).kind top_kind) (leb 1 (word_of w).number) (leb (word_of w).number 15) (takes_top (word_of v).kind) h)

module _ (w v : ℕ) where
  pub carries_other : ((word_of w).kind ≡ top_kind → ⊥) → carries w v ≡ false
  unfolding carries
  carries_other h = rw (ne_eqb (word_of w).kind top_kind h) refl

-- ---- one memory word or two

module _ (w v : ℕ) (ws : List ℕ) where
  pub words_pair : carries w v ≡ true → words_in (w ∷ v ∷ ws) ≡ joined w v ∷ words_in ws
  unfolding words_in
  words_pair h = rw h refl

  pub words_single : carries w v ≡ false → words_in (w ∷ v ∷ ws) ≡ word_of w ∷ words_in (v ∷ ws)
  unfolding words_in
  words_single h = rw h refl

  pub first_pair : carries w v ≡ true → first_length (w ∷ v ∷ ws) ≡ 2
  unfolding first_length
  first_pair h = rw h refl

  pub first_single : carries w v ≡ false → first_length (w ∷ v ∷ ws) ≡ 1
  unfolding first_length
  first_single h = rw h refl

module _ (P : List ℕ → Type 0) (none : P []) (last : (w : ℕ) → P (w ∷ []))
    (pair : (w v : ℕ) (ws : List ℕ) → carries w v ≡ true → P ws → P (w ∷ v ∷ ws))
    (single : (w v : ℕ) (ws : List ℕ) → carries w v ≡ false → P (v ∷ ws) → P (w ∷ v ∷ ws)) where
  either : (w v : ℕ) (ws : List ℕ) (b : Bool) → carries w v ≡ b → P ws → P (v ∷ ws) → P (w ∷ v ∷ ws)
  either w v ws true h p q = pair w v ws h p
  either w v ws false h p q = single w v ws h q

  pub along : (ws : List ℕ) → P ws
  along [] = none
  along (w ∷ []) = last w
  along (w ∷ v ∷ ws) = either w v ws (carries w v) refl (along ws) (along (v ∷ ws))

pub words_none : words_in [] ≡ []
unfolding words_in
words_none = refl

pub none_there : (ws : List ℕ) → length ws ≡ 0 → words_in ws ≡ []
none_there [] h = words_none
none_there (w ∷ ws) h = absurd (omega arith)

pub words_one : (w : ℕ) → words_in (w ∷ []) ≡ word_of w ∷ []
unfolding words_in
words_one w = refl

pub words_other : (w : ℕ) (ws : List ℕ) → ((word_of w).kind ≡ top_kind → ⊥) → words_in (w ∷ ws) ≡ word_of w ∷ words_in ws
words_other w [] h = words_one w ∙ ap (λ (words : List Word). word_of w ∷ words) (sym words_none)
words_other w (v ∷ ws) h = words_single w v ws (carries_other w v h)

-- ---- the first word

pub first-none : first_length [] ≡ 0
unfolding first_length
first-none = refl

pub first-last : (w : ℕ) → first_length (w ∷ []) ≡ 1
unfolding first_length
first-last w = refl

pub first_other : (w : ℕ) (ws : List ℕ) → ((word_of w).kind ≡ top_kind → ⊥) → first_length (w ∷ ws) ≡ 1
first_other w [] h = first-last w
first_other w (v ∷ ws) h = first_single w v ws (carries_other w v h)

abbrev Sized : List ℕ → Type 0
Sized ws = (first_length ws ≤ 2) × (first_length ws ≤ length ws)

sized : (ws : List ℕ) → Sized ws
sized =
    along Sized (omega (arith, first-none), omega (arith, first-none)) (λ w. (omega (arith, first-last w), omega (arith, first-last w)))
    (λ w v ws h _. let e = first_pair w v ws h in (omega (arith, e), omega (arith, e)))
    (λ w v ws h _. let e = first_single w v ws h in (omega (arith, e), omega (arith, e)))

pub first_two : (ws : List ℕ) → first_length ws ≤ 2
first_two ws = (sized ws).0

pub first_fits : (ws : List ℕ) → first_length ws ≤ length ws
first_fits ws = (sized ws).1

abbrev First : List ℕ → Type 0
First ws = 0 < length ws → words_in ws ≡ first_word ws ∷ words_in (drop (first_length ws) ws)

module _ (w : ℕ) (ws : List ℕ) (n : ℕ) (word : Word) where
  by_length : words_in (w ∷ ws) ≡ word ∷ words_in (drop n (w ∷ ws)) → first_length (w ∷ ws) ≡ n → First (w ∷ ws)
  by_length is long _ =
      is ∙ sym (ap (λ (first : Word). first ∷ words_in (drop (first_length (w ∷ ws)) (w ∷ ws))) (ap first_of is)
      ∙ ap (λ (k : ℕ). word ∷ words_in (drop k (w ∷ ws))) long)

pub words_first : (ws : List ℕ) → First ws
words_first =
    along First (λ h. absurd (omega arith))
    (λ w. by_length w [] 1 (word_of w) (words_one w ∙ ap (λ (words : List Word). word_of w ∷ words) (sym words_none)) (first-last w))
    (λ w v ws h _. by_length w (v ∷ ws) 2 (joined w v) (words_pair w v ws h) (first_pair w v ws h))
    (λ w v ws h _. by_length w (v ∷ ws) 1 (word_of w) (words_single w v ws h) (first_single w v ws h))

-- ---- the first word from a place on

module _ (ws : List ℕ) (i : ℕ) where
  abbrev here : ℕ
  here = get_or ws i 0

  abbrev there : ℕ
  there = get_or ws (i + 1) 0

  abbrev Taken : ℕ → Word → Type 0
  Taken n word = (word ≡ first_word (drop i ws)) × (n ≡ first_length (drop i ws))

  two_there : i + 1 < length ws → drop i ws ≡ here ∷ there ∷ drop (suc (i + 1)) ws
  two_there h =
      drop-cons ws i 0 (omega arith)
      ∙ ap (λ (n : ℕ). here ∷ drop n ws) (sym (add-one i)) ∙ ap (λ (z : List ℕ). here ∷ z) (drop-cons ws (i + 1) 0 h)

  one-there : i < length ws → length ws ≤ i + 1 → drop i ws ≡ here ∷ []
  one-there h g =
      drop-cons ws i 0 h ∙ ap (λ (z : List ℕ). here ∷ z) (drop_of_length-le ws {i = suc i} (omega arith))

  pub taken_other : i < length ws → ((word_of here).kind ≡ top_kind → ⊥) → Taken 1 (word_of here)
  taken_other h other =
      let e = drop-cons ws i 0 h in (
        sym (ap first_word e ∙ ap first_of (words_other here (drop (suc i) ws) other)),
        sym (ap first_length e ∙ first_other here (drop (suc i) ws) other),
      )

  pub taken_last : i < length ws → length ws ≤ i + 1 → Taken 1 (word_of here)
  taken_last h g =
      let e = one-there h g in (
        sym (ap first_word e ∙ ap first_of (words_one here)),
        sym (ap first_length e ∙ first-last here),
      )

  module _ (h : i + 1 < length ws) where
    abbrev rest : List ℕ
    rest = drop (suc (i + 1)) ws

    pub taken_single : carries here there ≡ false → Taken 1 (word_of here)
    taken_single g = (
      sym (ap first_word (two_there h) ∙ ap first_of (words_single here there rest g)),
      sym (ap first_length (two_there h) ∙ first_single here there rest g),
    )

    pub taken_pair : carries here there ≡ true → Taken 2 (joined here there)
    taken_pair g = (
      sym (ap first_word (two_there h) ∙ ap first_of (words_pair here there rest g)),
      sym (ap first_length (two_there h) ∙ first_pair here there rest g),
    )
