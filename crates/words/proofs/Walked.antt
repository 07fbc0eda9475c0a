-- Loops that go over the words in memory.
--   Reached            how far a loop has come
--   reached_none       not far, before the first turn
--   reached_more, reached_on   there is one word more, and it is past
--   reached_part       the word there, by one of its parts
--   reached_end        where no word is left all are past
--   place-fits         the place behind a word
--   front_on, front_end, front-none     memory counted
use mathlib.Core.Path.{◌≡◌, refl, sym, ap, ap₂, ◌∙◌}
use mathlib.Core.List.{List, [], ◌∷◌, map}
use Prim.Native.Nat.{ℕ, zero, suc, ◌+◌, ◌<◌, ◌≤◌}
use native.Mathlib.Numerals.{add-one}
use native.Mathlib.Omega.{arith}
use lib.ListN.{length, drop, get_or, length-drop, drop_of_length-le}
use lib.Seq.{drop-drop}
use Rattle.words.specs.declared.unpacking.Word.{Word}
use Rattle.words.specs.Fronts.{first_length, front_length}
use Rattle.words.proofs.Tops.{first_fits}
use Rattle.words.proofs.Fronts.{front-length-zero, front-length-suc, front-length-none}

-- ---- words counted, a turn for each

-- i words are past, and these are left
abbrev pub Reached : List Word → ℕ → List Word → Type 0
Reached all i left = (i ≤ length all) × (drop i all ≡ left)

pub reached_none : (all : List Word) → Reached all 0 all
reached_none all = (omega arith, refl)

module _ (all : List Word) (i : ℕ) {left next : List Word} {word : Word} (so_far : Reached all i left) (first : left ≡ word ∷ next) where
  here : drop i all ≡ word ∷ next
  here = so_far.1 ∙ first

  pub reached_more : i < length all
  reached_more = omega (arith, ap length here, length-drop i all)

  pub reached_on : Reached all (i + 1) next
  reached_on = (omega (arith, reached_more), sym (drop-drop 1 i all) ∙ ap (drop 1) here)

  pub reached_part : (part : Word → ℕ) → get_or (map part all) i 0 ≡ part word
  reached_part part = first_left part i all here
    where
      first_left : (part : Word → ℕ) (j : ℕ) (words : List Word) → drop j words ≡ word ∷ next → get_or (map part words) j 0 ≡ part word
      first_left part zero words is = ap (λ (z : List Word). get_or (map part z) 0 0) is
      first_left part (suc j) [] is = absurd (omega (arith, ap length is))
      first_left part (suc j) (other ∷ words) is = first_left part j words is

pub reached_end : (all : List Word) (i : ℕ) {left : List Word} → Reached all i left → left ≡ [] → i ≡ length all
reached_end all i so_far none = omega (arith, so_far.0, ap length (so_far.1 ∙ none), length-drop i all)

-- ---- memory counted

module _ (ws : List ℕ) (at : ℕ) (h : at < length ws) {n : ℕ} (e : n ≡ first_length (drop at ws)) where
  next_place : drop (first_length (drop at ws)) (drop at ws) ≡ drop (at + n) ws
  next_place = drop-drop (first_length (drop at ws)) at ws ∙ ap (λ (k : ℕ). drop (at + k) ws) (sym e)

  pub place-fits : at + n ≤ length ws
  place-fits = omega (arith, e, first_fits (drop at ws), length-drop at ws)

  pub front_on : (i k : ℕ) → i ≡ k + 1 → front_length i (drop at ws) ≡ n + front_length k (drop (at + n) ws)
  front_on i k more =
      ap (λ (i : ℕ). front_length i (drop at ws)) (more ∙ add-one k) ∙ front-length-suc k (drop at ws)
      ∙ ap₂ (λ (i : ℕ) (z : List ℕ). i + front_length k z) (sym e) next_place

pub front_end : (k : ℕ) (ws : List ℕ) (at : ℕ) → length ws ≤ at → front_length k (drop at ws) ≡ 0
front_end k ws at h = ap (front_length k) (drop_of_length-le ws {i = at} h) ∙ front-length-none k

pub front-none : (k : ℕ) (ws : List ℕ) → k ≡ 0 → front_length k ws ≡ 0
front-none k ws h = ap (λ (i : ℕ). front_length i ws) h ∙ front-length-zero ws
