-- What an answer from tape prints, from the numbers that it shows.
--   refused_shown    one that shows a refusal prints it
--   shown-whole      another has a block whose numbers lie in the array,
--   shown_can        which can be printed,
--   shown-lines      and prints what the call prints
use mathlib.Core.Path.{◌≡◌, sym, ap, ◌∙◌}
use mathlib.Core.List.{List, ◌∷◌}
use Prim.Native.Nat.{ℕ, ◌≤◌, ◌<◌}
use native.Mathlib.Omega.{arith}
use borrow.Author.Tests.{ne_eqb}
use lib.Dec.{T}
use lib.ListN.{length, take, get_or}
use Rattle.std.specs.Prelude.{Ok, Err}
use Rattle.system.specs.declared.solving.Answer.{Answer}
use Rattle.equations.specs.Line.{scaled}
use Rattle.system.specs.Block.{block_of, answer_from}
use Rattle.system.specs.Lines.{line_block}
use Rattle.system.proofs.Block.{block-vectors}
use Rattle.system.proofs.Lines.{line-block, line-block-length}
use Rattle.ledger.specs.Ledger.{Ledger, is_opened, modulus_of, unknowns_of, lines_in}
use Rattle.ledger.specs.Allowed.{Allowed}
use Rattle.ledger.specs.Calls.{answers_from_tape, queries}
use Rattle.ledger.specs.Questions.{refusal_of}
use Rattle.ledger.proofs.Questions.{accepted-yes}
use Rattle.questions.proofs.Results.{gives-ok, gives-err}
use Rattle.sheet.specs.Record.{Sheet, ledger_of}
use Rattle.sheet.specs.Calls.{shown_of}
use Rattle.sheet.proofs.Reading.{reads-allowed}
use Rattle.sheet.proofs.Solved.{solved_block, solved_whole, solved_head}
use Rattle.tape.specs.Output.{refused_line, block_lines, call_lines}
use Rattle.tape.specs.Reader.{lines_on}
use Rattle.tape.specs.Model.Handed.{Block}
use Rattle.tape.proofs.Told.{accepted_told, refused_told}

module _ (s : Sheet) (number : ℕ) where
  abbrev l : Ledger
  l = ledger_of s

  pub refused_shown : {k : ℕ} → Err k ≡ shown_of (ledger_of s) number → refused_line k ≡ lines_on s (queries (answers_from_tape number))
  unfolding shown_of
  refused_shown is =
      let given = gives-err (refusal_of l (queries (answers_from_tape number)))
      (answer_from (line_block (modulus_of l) (unknowns_of l) (lines_in l))) (sym is) in
      refused_told s (queries (answers_from_tape number)) given.0 given.1

  module _ {b : Answer} (is : Ok b ≡ shown_of (ledger_of s) number) where
    given : (refusal_of l (queries (answers_from_tape number)) ≡ 0) × (b ≡ answer_from (line_block (modulus_of l) (unknowns_of l) (lines_in l)))
    unfolding shown_of
    given =
        gives-ok (refusal_of l (queries (answers_from_tape number))) (answer_from (line_block (modulus_of l) (unknowns_of l) (lines_in l))) (sym is)

    accepted : refusal_of l (queries (answers_from_tape number)) ≡ 0
    accepted = given.0

    opened : T (is_opened l)
    opened = (accepted-yes l (queries (answers_from_tape number)) accepted).0

    allowed : Allowed (modulus_of l) (unknowns_of l) (lines_in l)
    allowed = reads-allowed s opened

    made : b ≡ answer_from (line_block (modulus_of l) (unknowns_of l) (lines_in l))
    made = given.1

    pub shown-whole : b.len ≤ length b.numbers
    shown-whole = solved_whole l b made

    positive : 0 < modulus_of l
    positive = omega (arith, allowed.modulus)

    -- the block of the lines with both sides times m/q
    same_block : line_block (modulus_of l) (unknowns_of l) (lines_in l)
        ≡ block_of (modulus_of l) (unknowns_of l) (scaled (modulus_of l) (lines_in l))
    same_block = line-block (modulus_of l) (unknowns_of l) positive (lines_in l) allowed.moduli

    module _ {n : ℕ} (same : n ≡ unknowns_of l) where
      pub shown_can : Block n b.head (take b.len b.numbers)
      shown_can =
          let whole = solved_block l allowed b made in
          let scaled-whole = whole ∙ same_block in
          let head = ap (λ (z : List ℕ). get_or z 0 0) scaled-whole in
          rw same
          (record {
            unknowns = allowed.unknowns;
            short =
                omega (
                  arith,
                  ap length whole,
                  line-block-length (modulus_of l) (unknowns_of l) (lines_in l) positive allowed.moduli allowed.shaped allowed.equations
                      allowed.unknowns,
                );
            largest = solved_head l allowed b made;
            vectors =
                rw head
                (omega (arith, ap length scaled-whole, block-vectors (modulus_of l) (unknowns_of l) (scaled (modulus_of l) (lines_in l))));
          })

      pub shown-lines : block_lines n (b.head ∷ take b.len b.numbers)
          ≡ lines_on s (queries (answers_from_tape number))
      shown-lines =
          ap (λ (k : ℕ). block_lines k (b.head ∷ take b.len b.numbers)) same
          ∙ ap (block_lines (unknowns_of l)) (solved_block l allowed b made) ∙ accepted_told l (queries (answers_from_tape number)) accepted
