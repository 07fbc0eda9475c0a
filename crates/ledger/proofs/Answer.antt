-- The words that answer the lines in an opened ledger.
--   answer_some      where there is a starting vector: it, then the steps
--   answer-none      where there is none: multipliers that refute the lines
--   answer_head      the first word says which
--   room_answered, room_refuted   the room that question 8 asks for then
--   answer-fits      the words fit in it,
--   answer-long      and it is 545 memory words at most
use mathlib.Core.Path.{◌≡◌, refl, sym, ap, ◌∙◌}
use mathlib.Core.Logic.{◌↔◌, ⊎_elim}
use mathlib.Core.List.{List, [], ◌∷◌, ◌++◌, flatten}
use mathlib.Core.Option.{none, some}
use Prim.Native.Nat.{ℕ, suc, ◌+◌, ◌*◌, ◌<◌, ◌≤◌}
use native.Mathlib.Omega.{arith}
use lib.ListN.{length, get_or, length-map}
use lib.Dec.{T}
use Rattle.equations.specs.Line.{Line, Moduli, ShapedLines, line_start, line_steps, line_refutes, scaled_one, scaled}
use Rattle.equations.proofs.Multipliers.{Refutation, refutes_is}
use Rattle.system.specs.Lines.{line_multipliers, line_block}
use Rattle.system.proofs.Lines.{multipliers_refute, line_block_some, line-block-none, line_start_found, line-block-length}
use Rattle.words.specs.Words.{word, words_of, head_kind, entry_kind, multiplier_kind}
use Rattle.ledger.specs.Ledger.{opened}
use Rattle.ledger.specs.Block.{block_words, counts_for, block_room, longest_memory, answer_words, answer_room}
use Rattle.ledger.proofs.Blocks.{room_fits, room-long}

module _ (m n : ℕ) (ls : List Line) where
  answer_is : answer_words (opened m n ls) ≡ block_words (line_block m n ls)
  unfolding answer_words
  answer_is = refl

  room_is : answer_room (opened m n ls) ≡ block_room m (line_block m n ls)
  unfolding answer_room
  room_is = refl

  pub answer_some : (c : List ℕ) → line_start m n ls ≡ some c
      → answer_words (opened m n ls)
      ≡ word head_kind (suc (length (line_steps m n ls))) ∷ words_of entry_kind (c ++ flatten (line_steps m n ls))
  answer_some c h = answer_is ∙ ap block_words (line_block_some m n ls c h)

  module _ (pos : 0 < m) (moduli : Moduli m ls) (shaped : ShapedLines n ls) where
    pub answer-none : line_start m n ls ≡ none
        → (ks : List ℕ) × T (line_refutes m n ls ks)
        × (answer_words (opened m n ls) ≡ word head_kind 0 ∷ words_of multiplier_kind ks)
    answer-none h =
        (line_multipliers m n ls, multipliers_refute m n ls pos moduli shaped h, answer_is ∙ ap block_words (line-block-none m n ls h))

    pub answer_head : (get_or (answer_words (opened m n ls)) 0 0 ≡ word head_kind 0) ↔ (line_start m n ls ≡ none)
    answer_head = (
      (λ e. ⊎_elim (λ h. h) (λ found. absurd (other found.0 found.1 e)) (line_start_found m n ls)),
      λ h. ap (λ (ws : List ℕ). get_or ws 0 0) (answer-none h).2,
    )
      where
        other : (c : List ℕ) → line_start m n ls ≡ some c → get_or (answer_words (opened m n ls)) 0 0 ≡ word head_kind 0 → ⊥
        other c h e =
            let z : word head_kind 0 ≡ word head_kind (suc (length (line_steps m n ls))) =
            sym e ∙ ap (λ (ws : List ℕ). get_or ws 0 0) (answer_some c h) in
            omega arith

    refuted_by : line_start m n ls ≡ none → Refutation m n (scaled m ls) (line_multipliers m n ls)
    unfolding line_refutes
    refuted_by h = (refutes_is m n (scaled m ls) (line_multipliers m n ls)).0 (multipliers_refute m n ls pos moduli shaped h)

    pub room_refuted : line_start m n ls ≡ none → answer_room (opened m n ls) ≡ 1 + length ls * counts_for m
    room_refuted h =
        room_is ∙ ap (block_room m) (line-block-none m n ls h)
        ∙ ap (λ (k : ℕ). 1 + k * counts_for m) ((refuted_by h).one_each ∙ length-map ls (scaled_one m))

    pub room_answered : (c : List ℕ) → line_start m n ls ≡ some c → answer_room (opened m n ls) ≡ length (answer_words (opened m n ls))
    room_answered c h =
        room_is ∙ ap (block_room m) (line_block_some m n ls c h) ∙ sym (ap length (answer_some c h))

    pub answer-fits : length (answer_words (opened m n ls)) ≤ answer_room (opened m n ls)
    answer-fits = ⊎_elim none-fits (λ found. omega (arith, room_answered found.0 found.1)) (line_start_found m n ls)
      where
        none-fits : line_start m n ls ≡ none → length (answer_words (opened m n ls)) ≤ answer_room (opened m n ls)
        none-fits h =
            omega (
              arith,
              room_is ∙ ap (block_room m) (line-block-none m n ls h),
              ap length (answer_is ∙ ap block_words (line-block-none m n ls h)),
              room_fits m 0 (line_multipliers m n ls) (refuted_by h).below,
            )

    pub answer-long : length ls ≤ 16 → n ≤ 16 → answer_room (opened m n ls) ≤ longest_memory
    answer-long equations unknowns =
        go (line_block m n ls) room_is (line-block-length m n ls pos moduli shaped equations unknowns)
      where
        go : (block : List ℕ) → answer_room (opened m n ls) ≡ block_room m block → length block ≤ 273
            → answer_room (opened m n ls) ≤ longest_memory
        go [] is few = omega (arith, is)
        go (k ∷ xs) is few = omega (arith, is, room-long m k xs)
