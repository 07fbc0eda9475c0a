-- The claims of a class, taken one at a time from the words that remain. `used` memory words are the first claim.
--   claim_used      it takes a memory word at least, and no more than there are
--   claims_taken    it, and the claims behind it
--   claims_end      no words, no claims
--   stray_first     a word that is no head of at most 17 is a claim of one word,
--   stray_alone     which is the word in its memory,
--   stray_shape     and its shape is wrong
use mathlib.Core.Path.{◌≡◌, refl, sym, ap, ap₂, subst, ◌∙◌}
use mathlib.Core.Bool.{Bool, true, false, cond}
use mathlib.Core.List.{List, [], ◌∷◌}
use Prim.Native.Nat.{ℕ, ◌+◌, ◌*◌, ◌<◌, ◌≤◌}
use native.Mathlib.Omega.{arith}
use lib.Dec.{T, eqb, leb, eqb→eq, leb→le}
use lib.ListN.{length, take, drop}
use Rattle.slices.proofs.Parts.{lent, lent_is}
use Rattle.equations.proofs.Truth.{of_true}
use Rattle.words.specs.declared.unpacking.Word.{Word}
use Rattle.words.specs.Words.{words_in, head_kind}
use Rattle.words.specs.Fronts.{first_word, front_length, front, behind}
use Rattle.words.proofs.Tops.{words_first}
use Rattle.words.proofs.Fronts.{front_fits, front_takes, front_length_lem, front_words}
use Rattle.ledger.specs.Shapes.{largest_head, is_claim}
use Rattle.ledger.specs.Classes.{claim_words, first_claim, claims_in, claims_none, claim_takes, claims_first}
use Rattle.ledger.proofs.Shapes.{claim_kind, claim_head}

module _ (n : ℕ) (ws : List ℕ) (some : 0 < length ws) {used : ℕ} (is : used ≡ length (first_claim n ws)) where
  abbrev k : ℕ
  k = claim_words n (first_word ws)

  used_is : used ≡ front_length k ws
  used_is = is ∙ front_length_lem k ws

  pub claim_used : (0 < used) × (used ≤ length ws)
  claim_used = (
    omega (arith, used_is, front_takes k ws (claim_takes n (first_word ws)) some),
    omega (arith, used_is, front_fits k ws),
  )

  pub claims_taken : claims_in n ws ≡ take used ws ∷ claims_in n (lent used ws)
  claims_taken =
      claims_first n ws some
      ∙ ap₂ (λ (first rest : List ℕ). first ∷ claims_in n rest) (ap (λ (j : ℕ). take j ws) (sym used_is))
      (sym (lent_is used ws ∙ ap (λ (j : ℕ). drop j ws) used_is))

pub claims_end : (n : ℕ) (ws : List ℕ) → length ws ≡ 0 → claims_in n ws ≡ []
claims_end n [] none = claims_none n
claims_end n (w ∷ ws) none = absurd (omega arith)

module _ (n : ℕ) (ws : List ℕ) (some : 0 < length ws)
    (stray : ((first_word ws).kind ≡ head_kind) × ((first_word ws).number ≤ largest_head) → ⊥) where
  abbrev first : Word
  first = first_word ws

  one_word : claim_words n first ≡ 1
  one_word = go (eqb first.kind head_kind) (leb first.number largest_head) refl refl
    where
      go : (a b : Bool) → eqb first.kind head_kind ≡ a → leb first.number largest_head ≡ b
          → cond a (cond b (1 + n * first.number) 1) 1 ≡ 1
      go false b is few = refl
      go true false is few = refl
      go true true is few =
          absurd (stray (eqb→eq first.kind head_kind (of_true is), leb→le first.number largest_head (of_true few)))

  pub stray_first : claims_in n ws ≡ front 1 ws ∷ claims_in n (behind 1 ws)
  stray_first = claims_first n ws some ∙ ap (λ (j : ℕ). front j ws ∷ claims_in n (behind j ws)) one_word

  pub stray_alone : words_in (front 1 ws) ≡ first_word ws ∷ []
  stray_alone = front_words 1 ws ∙ ap (take 1) (words_first ws some)

  pub stray_shape : T (is_claim n (words_in (front 1 ws))) → ⊥
  stray_shape shape =
      let alone : T (is_claim n (first ∷ [])) = subst (λ (words : List Word). T (is_claim n words)) stray_alone shape in
      stray (claim_kind n (first ∷ []) alone, claim_head n (first ∷ []) alone)
