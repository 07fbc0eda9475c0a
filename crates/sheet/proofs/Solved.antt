-- The block that answers the lines of an opened sheet, and its words.
--   solved_block         its numbers are the block's,
--   solved_whole         and lie in the array
--   solved_words         its words are the ledger's answer,
--   solved_room          the room that question 8 asks for is the answer's,
--   solved_fits          and the words fit in it
--   solved_head          its head is no larger than 17
--   solved_start         a head that is not 0 has a starting vector behind it
--   shown-block          the block that an accepted answer from tape gives
use mathlib.Core.Path.{◌≡◌, refl, sym, ap, subst, ◌∙◌}
use mathlib.Core.List.{List, ◌∷◌}
use Prim.Native.Nat.{ℕ, ◌<◌, ◌≤◌}
use native.Mathlib.Omega.{arith}
use lib.Dec.{T}
use lib.ListN.{length, take, drop, get_or, replicate}
use lib.Seq.{length-take-le}
use Rattle.std.specs.Prelude.{Ok}
use Rattle.slices.proofs.Over.{over-fits}
use Rattle.equations.specs.Vectors.{Below}
use Rattle.system.specs.declared.solving.Answer.{Answer}
use Rattle.equations.specs.Equation.{Equation}
use Rattle.equations.specs.Line.{scaled}
use Rattle.equations.proofs.Scaled.{scaled-shaped}
use Rattle.system.specs.Block.{block_of, answer_from, answer_of}
use Rattle.system.specs.Lines.{line_block}
use Rattle.system.proofs.Lines.{line-block}
use Rattle.system.proofs.Block.{block_head, block_start, block-below}
use Rattle.system.proofs.Written.{answer-block}
use Rattle.ledger.specs.Ledger.{Ledger, unopened, opened, is_opened, modulus_of, unknowns_of, lines_in}
use Rattle.ledger.specs.Shapes.{largest_head}
use Rattle.ledger.specs.Block.{block_words, block_room, answer_words, answer_room}
use Rattle.ledger.specs.Allowed.{Allowed}
use Rattle.ledger.specs.Calls.{answers_from_tape, queries}
use Rattle.ledger.specs.Questions.{refusal_of}
use Rattle.ledger.proofs.Blocks.{room_fits}
use Rattle.sheet.specs.Calls.{shown_of}

abbrev block_in : Ledger → List ℕ
block_in l = line_block (modulus_of l) (unknowns_of l) (lines_in l)

answer_words_lem : (l : Ledger) → T (is_opened l) → answer_words l ≡ block_words (block_in l)
unfolding answer_words
answer_words_lem unopened is = absurd is
answer_words_lem (opened m n ls) is = refl

answer-room : (l : Ledger) → T (is_opened l) → answer_room l ≡ block_room (modulus_of l) (block_in l)
unfolding answer_room
answer-room unopened is = absurd is
answer-room (opened m n ls) is = refl

pub solved_whole : (l : Ledger) (b : Answer) → b ≡ answer_from (line_block (modulus_of l) (unknowns_of l) (lines_in l))
    → b.len ≤ length b.numbers
solved_whole l b made = rw made (over-fits (drop 1 (block_in l)) (replicate 272 0) refl)

module _ (l : Ledger) (allowed : Allowed (modulus_of l) (unknowns_of l) (lines_in l)) (b : Answer)
    (made : b ≡ answer_from (line_block (modulus_of l) (unknowns_of l) (lines_in l))) where
  abbrev m : ℕ
  m = modulus_of l

  abbrev n : ℕ
  n = unknowns_of l

  -- the lines, with both sides times m/q
  abbrev es : List Equation
  es = scaled (modulus_of l) (lines_in l)

  pos : 0 < modulus_of l
  pos = omega (arith, allowed.modulus)

  same : block_in l ≡ block_of m n es
  same = line-block m n pos (lines_in l) allowed.moduli

  solves : b ≡ answer_of m n es
  unfolding answer_of
  solves = made ∙ ap answer_from same

  pub solved_block : b.head ∷ take b.len b.numbers ≡ block_in l
  solved_block = answer-block m n es b solves ∙ sym same

  whole : b.len ≤ length b.numbers
  whole = solved_whole l b made

  head_is : b.head ≡ get_or (block_of m n es) 0 0
  head_is = ap (λ (z : List ℕ). get_or z 0 0) (solved_block ∙ same)

  pub solved_start : 0 < b.head → unknowns_of l ≤ b.len
  solved_start h =
      omega (
        arith,
        ap length (solved_block ∙ same),
        length-take-le b.len b.numbers whole,
        block_start m n es (omega (arith, head_is)),
      )

  pub solved_head : b.head ≤ largest_head
  solved_head = omega (arith, head_is, block_head m n es, allowed.unknowns)

  residues : Below m (take b.len b.numbers)
  residues =
      subst (λ (z : List ℕ). Below m (drop 1 z)) (sym (solved_block ∙ same))
      (block-below m n es pos (scaled-shaped m n (lines_in l) allowed.shaped))

  module _ (is : T (is_opened l)) where
    pub solved_words : block_words (b.head ∷ take b.len b.numbers) ≡ answer_words l
    solved_words = ap block_words solved_block ∙ sym (answer_words_lem l is)

    pub solved_room : block_room (modulus_of l) (b.head ∷ take b.len b.numbers) ≡ answer_room l
    solved_room = ap (block_room (modulus_of l)) solved_block ∙ sym (answer-room l is)

    pub solved_fits : length (block_words (b.head ∷ take b.len b.numbers)) ≤ answer_room l
    solved_fits = omega (arith, solved_room, room_fits m b.head (take b.len b.numbers) residues)

pub shown-block : (l : Ledger) (number : ℕ) → refusal_of l (queries (answers_from_tape number)) ≡ 0
    → shown_of l number ≡ Ok (answer_from (line_block (modulus_of l) (unknowns_of l) (lines_in l)))
unfolding shown_of
shown-block l number accepted = rw accepted
