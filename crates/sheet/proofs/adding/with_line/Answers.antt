-- `adding::with_line` meets its contract: the line is written behind those that the cells hold, with both sides times m/q, and its modulus
-- behind theirs; there is room for both.
use mathlib.Core.Path.{ap}
use Prim.Native.Nat.{ℕ, ◌+◌}
use borrow.Author.Rules.{rules}
use Rattle.sheet.proofs.Cells.{whole, modulus_positive, lines-within, line-room, line-written}
use Rattle.sheet.proofs.adding.with_line.Goals as goal

pub bounds-sheet-0 : goal.bounds-sheet-0
bounds-sheet-0 c =
    let long = whole c.args.sheet.now c.requires.room.0 in search rules

pub bounds-sheet-2 : goal.bounds-sheet-2
bounds-sheet-2 c =
    let long = whole c.args.sheet.now c.requires.room.0 in search rules

pub bounds-sheet-1 : goal.bounds-sheet-1
bounds-sheet-1 c =
    let long = whole c.args.sheet.now c.requires.room.0 in search rules

pub slice_bounds-scale_into-count : goal.slice_bounds-scale_into-count
slice_bounds-scale_into-count c =
    lines-within c.args.sheet.now c.requires.room.0 c.wide.ensures c.wide-width.ensures

pub slice_bounds-scale_into-start : goal.slice_bounds-scale_into-start
slice_bounds-scale_into-start c = slice_bounds-scale_into-count c

pub scale_into-requires : goal.scale_into-requires
scale_into-requires c =
    let s = c.args.sheet.now in (
      modulus_positive s c.requires.room.0,
      c.requires.residues.0,
      c.requires.residues.1,
      line-room s c.requires.room.0 c.wide.ensures c.wide-width.ensures c.args.q c.args.line.now c.requires.room.2 c.requires.room.1,
    )

pub returns : goal.returns
returns c =
    line-written c.args.sheet.now c.requires.room.0 c.wide.ensures c.wide-width.ensures c.args.q c.args.line.now c.requires.room.2
    c.requires.room.1 (3 + c.wide-own.result) (ap (λ (k : ℕ). 3 + k) c.wide-own.ensures) c.scale_into.ensures
