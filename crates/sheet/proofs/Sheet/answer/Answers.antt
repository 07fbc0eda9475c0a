-- `Sheet::answer` meets its contract: each way out has the answers to the questions so far, and the last one the block.
use mathlib.Core.Path.{ap, ◌∙◌}
use mathlib.Core.List.{List, ◌∷◌}
use Prim.Native.Nat.{ℕ}
use native.Mathlib.Omega.{arith}
use lib.ListN.{length, take}
use lib.Seq.{length-take-le}
use Rattle.std.specs.Prelude.{Ok, Err}
use Rattle.slices.specs.Over.{over}
use Rattle.questions.specs.Refusals.{by_number}
use Rattle.questions.proofs.Ladder.{let_in, let_in_le, turned_only, turned_no, turned_lt, handed_on}
use Rattle.equations.proofs.Truth.{of_true}
use Rattle.ledger.specs.Block.{block_room}
use Rattle.sheet.specs.Record.{ledger_of}
use Rattle.sheet.proofs.Reading.{reads-allowed}
use Rattle.sheet.proofs.Solved.{solved_whole, solved_words, solved_room, solved_fits, solved_head, solved_start}
use Rattle.sheet.proofs.Answers.{answered_unopened, answered_short, answered_wrote}
use Rattle.sheet.proofs.Sheet.answer.Goals as goal

pub returns-in_err-ask : goal.returns-in_err-ask
returns-in_err-ask c =
    let a = c.args in
    let sees = c.seen-seen.ensures.sees in
    let out = c.from_residual in
    let refusal = c.in_err-ask.field-0.0 in
    let number = turned_only 4 _ refusal c.in_err-ask.ensures in
    let both = answered_unopened (ledger_of a.sheet.now) a.buffer.now (turned_no 4 sees.opened refusal c.in_err-ask.ensures) in
    record { value = ap by_number (handed_on out.result refusal out.ensures.1) ∙ ap Err number ∙ both.0; buffer_after = both.1 }

pub returns-in_err-ask-2 : goal.returns-in_err-ask-2
returns-in_err-ask-2 c =
    let a = c.args in
    let l = ledger_of a.sheet.now in
    let sees = c.seen-seen.ensures.sees in
    let opens = let_in 4 sees.opened (omega arith) c.in_ok-ask.ensures in
    let block = c.block-block in
    let numbers = take block.result.len block.result.numbers in
    let room =
    c.block_room-room.ensures ∙ ap (λ (m : ℕ). block_room m (block.result.head ∷ numbers)) sees.modulus
    ∙ solved_room l (reads-allowed a.sheet.now (of_true opens)) block.result block.ensures (of_true opens) in
    let out = c.from_residual-in_err-ask-2 in
    let refusal = c.in_err-ask-2.field-0.0 in
    let short = turned_lt 8 _ _ refusal c.in_err-ask-2.ensures in
    let both = answered_short l a.buffer.now opens (omega (arith, room, short)) in
    record { value = ap by_number (handed_on out.result refusal out.ensures.1) ∙ ap Err (turned_only 8 _ refusal c.in_err-ask-2.ensures) ∙ both.0; buffer_after = both.1 }

pub write_block-requires : goal.write_block-requires
write_block-requires c =
    let a = c.args in
    let l = ledger_of a.sheet.now in
    let sees = c.seen-seen.ensures.sees in
    let opens = let_in 4 sees.opened (omega arith) c.in_ok-ask.ensures in
    let block = c.block-block in
    let numbers = take block.result.len block.result.numbers in
    let allowed = reads-allowed a.sheet.now (of_true opens) in
    let long = length-take-le block.result.len block.result.numbers (solved_whole l block.result block.ensures) in
    let room =
    c.block_room-room.ensures ∙ ap (λ (m : ℕ). block_room m (block.result.head ∷ numbers)) sees.modulus
    ∙ solved_room l allowed block.result block.ensures (of_true opens) in (
      solved_head l allowed block.result block.ensures,
      (λ some. omega (arith, long, sees.unknowns, solved_start l allowed block.result block.ensures some)),
      omega (arith, room, let_in_le 8 _ _ (omega arith) c.in_ok-ask-2.ensures, solved_fits l allowed block.result block.ensures (of_true opens)),
    )

pub returns : goal.returns
returns c =
    let a = c.args in
    let l = ledger_of a.sheet.now in
    let sees = c.seen-seen.ensures.sees in
    let opens = let_in 4 sees.opened (omega arith) c.in_ok-ask.ensures in
    let block = c.block-block in
    let numbers = take block.result.len block.result.numbers in
    let old = a.buffer.now in
    let allowed = reads-allowed a.sheet.now (of_true opens) in
    let room =
    c.block_room-room.ensures ∙ ap (λ (m : ℕ). block_room m (block.result.head ∷ numbers)) sees.modulus
    ∙ solved_room l allowed block.result block.ensures (of_true opens) in
    let words = solved_words l allowed block.result block.ensures (of_true opens) in
    let wrote = answered_wrote l old opens (omega (arith, room, let_in_le 8 _ _ (omega arith) c.in_ok-ask-2.ensures)) in record { value = ap Ok (c.write_block.ensures.value ∙ ap length words) ∙ wrote.0; buffer_after = c.write_block.ensures.buffer_after ∙ ap (λ (ws : List ℕ). over ws old) words ∙ wrote.1 }
