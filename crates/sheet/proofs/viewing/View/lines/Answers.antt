-- `View::lines` meets its contract: the lines fit the cells.
use Prim.Native.Nat.{◌+◌, ◌*◌, ◌≤◌}
use native.Mathlib.Nat.{mul-le-mul}
use native.Mathlib.Omega.{arith}
use Rattle.sheet.specs.declared.viewing.View.{View}
use Rattle.sheet.proofs.Few.{unknowns-few, equations-few}
use Rattle.sheet.proofs.viewing.View.lines.Goals as goal

few : (v : View) → v.seen.held * (v.seen.unknowns + 1) ≤ 272
few v =
    mul-le-mul {n₁ = v.seen.held} {m₁ = v.seen.unknowns + 1} {n₂ = 16} {m₂ = 17}
    (omega (arith, v.sees.held, equations-few v.sheet.now)) (omega (arith, v.sees.unknowns, unknowns-few v.sheet.now))

pub overflow_add-end : goal.overflow_add-end
overflow_add-end c =
    let v = c.args.self.now in
    omega (arith, v.sees.unknowns, unknowns-few v.sheet.now)

pub overflow_mul-end : goal.overflow_mul-end
overflow_mul-end c = omega (arith, few c.args.self.now)

pub overflow_add-end-2 : goal.overflow_add-end-2
overflow_add-end-2 c = omega (arith, few c.args.self.now)

pub slice_bounds-result-end : goal.slice_bounds-result-end
slice_bounds-result-end c = omega (arith, few c.args.self.now)
