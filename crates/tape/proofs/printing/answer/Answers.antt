-- `printing::answer` meets its contract: the numbers that the sheet's call shows are printed in lines, or its refusal in one.
use mathlib.Core.Path.{refl, sym}
use borrow.Author.Rules.{rules}
use lib.Seq.{length-take-le}
use Rattle.ledger.specs.Calls.{answers_from_tape, queries}
use Rattle.tape.proofs.Told.{told}
use Rattle.tape.proofs.Answered.{refused_shown, shown-whole, shown_can, shown-lines}
use Rattle.tape.proofs.printing.answer.Goals as goal

pub slice_bounds-numbers-end : goal.slice_bounds-numbers-end
slice_bounds-numbers-end c = shown-whole c.args.sheet.now c.args.number c.in-Ok.ensures

pub slice_bounds-block_lines-end : goal.slice_bounds-block_lines-end
slice_bounds-block_lines-end c =
    let block = c.in-Ok.block in
    sym (length-take-le block.len block.numbers (shown-whole c.args.sheet.now c.args.number c.in-Ok.ensures))

pub block_lines-requires : goal.block_lines-requires
block_lines-requires c =
    (shown_can c.args.sheet.now c.args.number c.in-Ok.ensures c.seen-seen.ensures.sees.unknowns, search rules)

pub returns-in-Ok : goal.returns-in-Ok
returns-in-Ok c =
    let a = c.args in
    let s = a.sheet.now in
    let line = c.block_lines in
    told s (queries (answers_from_tape a.number)) a.out.now refl
    (shown-lines s a.number c.in-Ok.ensures c.seen-seen.ensures.sees.unknowns) line.ensures.value line.ensures.out_after

pub returns-in-Err : goal.returns-in-Err
returns-in-Err c =
    let a = c.args in
    let s = a.sheet.now in
    let line = c.refused in
    told s (queries (answers_from_tape a.number)) a.out.now refl (refused_shown s a.number c.in-Err.ensures) line.ensures.value
    line.ensures.out_after
