-- `Basis::missing` meets its contract: the front of the array holds the basis of the steps.
use mathlib.Core.Path.{sym, ◌∙◌}
use Prim.Native.Nat.{◌≤◌}
use native.Mathlib.Omega.{arith}
use Rattle.system.proofs.Fronts.{front-within, front_zeros, front_length_lem, front-size, front_fits}
use Rattle.system.proofs.basis.Basis.missing.Goals as goal

pub slice_bounds-rows-end : goal.slice_bounds-rows-end
slice_bounds-rows-end c =
    let n = c.args.self.now.n in
    let few : n ≤ 17 = omega (arith, c.args.self.now.readable.unknowns) in
    let size = c.packed_size-size in
    front-within n size.result few size.ensures

pub slice_bounds-span-end : goal.slice_bounds-span-end
slice_bounds-span-end c =
    let n = c.args.self.now.n in
    let few : n ≤ 17 = omega (arith, c.args.self.now.readable.unknowns) in
    let size = c.packed_size-size in
    size.ensures ∙ sym (front_length_lem n size.result few size.ensures)

pub span-requires : goal.span-requires
span-requires c =
    let n = c.args.self.now.n in
    let few : n ≤ 17 = omega (arith, c.args.self.now.readable.unknowns) in
    let size = c.packed_size-size in
    let pre = c.requires in
    (omega (arith, c.args.self.now.readable.modulus), pre.0, c.args.self.now.readable.unknowns, front_zeros n size.result few size.ensures, pre.1)

pub slice_bounds-rows-end-2 : goal.slice_bounds-rows-end-2
slice_bounds-rows-end-2 c =
    let n = c.args.self.now.n in
    let few : n ≤ 17 = omega (arith, c.args.self.now.readable.unknowns) in
    let size = c.packed_size-size in
    let b = c.span in
    front_fits n size.result few size.ensures b.new.basis b.auto.basis

pub slice_bounds-apart-end : goal.slice_bounds-apart-end
slice_bounds-apart-end c =
    let n = c.args.self.now.n in
    let few : n ≤ 17 = omega (arith, c.args.self.now.readable.unknowns) in
    let size = c.packed_size-size in
    let b = c.span in
    size.ensures ∙ sym (front-size n size.result few size.ensures b.new.basis b.auto.basis)

pub apart-requires : goal.apart-requires
apart-requires c =
    let n = c.args.self.now.n in
    let few : n ≤ 17 = omega (arith, c.args.self.now.readable.unknowns) in
    let size = c.packed_size-size in
    let b = c.span in
    front-size n size.result few size.ensures b.new.basis b.auto.basis
