-- `keeping::prepare` meets its contract: the basis is there, or the zeros of the memory's front become it.
use mathlib.Core.Path.{sym, ◌∙◌}
use native.Mathlib.Omega.{arith}
use Rattle.system.proofs.Prepared.{ready_size, ready_there, room_within, room-length, room_zeros, prepared}
use Rattle.system.proofs.asked.System.prepare.Goals as goal

pub bounds-rows-0 : goal.bounds-rows-0
bounds-rows-0 c =
    let a = c.args in
    let s = a.self.now in
    omega (arith, ready_size s.m s.n s.lines.now a.rows.now c.requires)

pub slice_bounds-build-end : goal.slice_bounds-build-end
slice_bounds-build-end c =
    let a = c.args in
    let s = a.self.now in
    room_within s.m s.n s.lines.now a.rows.now s.posed.unknowns c.requires c.packed_size-size.result c.packed_size-size.ensures

pub slice_bounds-build-end-then-rows-eq0 : goal.slice_bounds-build-end-then-rows-eq0
slice_bounds-build-end-then-rows-eq0 c =
    let a = c.args in
    let s = a.self.now in
    let size = c.packed_size-size in
    size.ensures
    ∙ sym (room-length s.m s.n s.lines.now a.rows.now s.posed.unknowns c.requires size.result size.ensures)

pub build-requires : goal.build-requires
build-requires c =
    let a = c.args in
    let s = a.self.now in
    let size = c.packed_size-size in
    let posed = s.posed in (
      posed.modulus,
      posed.unknowns,
      omega arith,
      room_zeros s.m s.n s.lines.now a.rows.now posed.unknowns c.requires size.result size.ensures
          c.if-rows-eq0.true,
      posed.residues,
    )

pub returns-then-rows-eq0 : goal.returns-then-rows-eq0
returns-then-rows-eq0 c =
    let a = c.args in
    let s = a.self.now in
    let size = c.packed_size-size in
    let b = c.build in
    prepared s.m s.n s.lines.now a.rows.now s.posed.unknowns c.requires size.result size.ensures b.new.basis
    b.auto.basis b.ensures.basis_after b.ensures.kept s.posed.modulus

pub returns-else-rows-eq0 : goal.returns-else-rows-eq0
returns-else-rows-eq0 c =
    let a = c.args in
    let s = a.self.now in
    ready_there s.m s.n s.lines.now a.rows.now c.requires c.if-rows-eq0.false
