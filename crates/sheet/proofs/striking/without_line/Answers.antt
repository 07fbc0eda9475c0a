-- `striking::without_line` meets its contract: the lines behind the place are moved up to it, and so are their moduli. Both lie there, since
-- the place does.
use mathlib.Core.Path.{refl, ap}
use Prim.Native.Nat.{ℕ, ◌+◌, ◌-◌}
use native.Mathlib.Omega.{arith}
use Rattle.sheet.proofs.Cells.{held_small, place-within, moving_fits, between_long, own_moving_fits, moved_up}
use Rattle.sheet.proofs.striking.without_line.Goals as goal

pub slice_bounds-move_up-count : goal.slice_bounds-move_up-count
slice_bounds-move_up-count c =
    place-within c.args.sheet.now c.requires.0 c.wide.ensures c.wide-width.ensures c.args.index c.requires.1

pub offset_bounds-sheet-at : goal.offset_bounds-sheet-at
offset_bounds-sheet-at c = omega (arith, slice_bounds-move_up-count c)

pub slice_bounds-move_up-start : goal.slice_bounds-move_up-start
slice_bounds-move_up-start c = slice_bounds-move_up-count c

pub move_up-requires : goal.move_up-requires
move_up-requires c =
    moving_fits c.args.sheet.now c.requires.0 c.wide.ensures c.wide-width.ensures c.args.index c.requires.1

pub slice_bounds-move_up-count-2 : goal.slice_bounds-move_up-count-2
slice_bounds-move_up-count-2 c =
    let s = c.args.sheet.now in
    omega (
      arith,
      c.requires.1,
      held_small s c.requires.0,
      between_long s c.requires.0 c.wide.ensures c.wide-width.ensures c.args.index c.requires.1 c.move_up.ensures,
    )

pub slice_bounds-move_up-start-2 : goal.slice_bounds-move_up-start-2
slice_bounds-move_up-start-2 c = slice_bounds-move_up-count-2 c

pub move_up-requires-2 : goal.move_up-requires-2
move_up-requires-2 c =
    own_moving_fits c.args.sheet.now c.requires.0 c.wide.ensures c.wide-width.ensures c.args.index c.requires.1 c.move_up.ensures
    (3 + c.args.index) (c.wide-2.result - c.args.index - 1) refl (ap (λ (k : ℕ). k - c.args.index - 1) c.wide-2.ensures)

pub returns : goal.returns
returns c =
    let held = c.wide-2 in
    moved_up c.args.sheet.now c.requires.0 c.wide.ensures c.wide-width.ensures c.args.index c.requires.1 c.move_up.ensures
    (3 + c.args.index) (held.result - c.args.index - 1) refl (ap (λ (k : ℕ). k - c.args.index - 1) held.ensures) c.move_up-2.ensures
