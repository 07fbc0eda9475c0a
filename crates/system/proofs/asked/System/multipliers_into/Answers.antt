-- `runs::multipliers_into` meets its contract: the last k numbers of the tableau are the carried columns of its last row.
use mathlib.Core.Path.{◌≡◌, refl, sym, ap, ◌∙◌}
use mathlib.Core.List.{List, []}
use Prim.Native.Nat.{ℕ, ◌+◌, ◌-◌, ◌/◌, ◌≤◌}
use native.Mathlib.Omega.{arith}
use lib.ListN.{length, take, drop, get_or, replicate, length-replicate}
use Rattle.slices.specs.Over.{over}
use Rattle.slices.proofs.Parts.{lent, lent_is, lent_length}
use Rattle.elimination.specs.Multipliers.{multipliers_of}
use Rattle.elimination.specs.Multipliers.Row.{multipliers-row}
use Rattle.elimination.specs.Tableau.{tableau}
use Rattle.equations.specs.Lines.{equations_of}
use Rattle.tableau.specs.Packed.{rows, triangle}
use Rattle.tableau.proofs.Packed.{triangle-front, triangle_mono}
use Rattle.system.proofs.Fronts.{lent_zeros}
use Rattle.system.proofs.Rows.{carried_rows}
use Rattle.equations.proofs.Lines.{length-equations, equations-few}
use Rattle.system.proofs.asked.System.multipliers_into.Goals as goal

-- b is the basis that was built
module _ (m n k : ℕ) (lines b : List ℕ) (number : k ≡ length lines / (n + 1))
    (size : length b ≡ triangle (n + 1) (n + 1 + k)) where
  fits : k ≤ length b
  fits = omega (arith, triangle-front (n + 1) (n + 1 + k) (omega arith))

  long : length (lent (length b - k) b) ≡ k
  long = omega (arith, lent_length (length b - k) b, fits)

  carried : rows (n + 1) (n + 1 + k) b ≡ tableau m n k (equations_of n lines)
      → lent (length b - k) b ≡ multipliers_of m n (equations_of n lines)
  carried built =
      lent_is (length b - k) b
      ∙ sym (carried_rows n k b size)
      ∙ ap (λ (B : List (List ℕ)). drop 1 (get_or B n [])) built
      ∙ ap (λ (j : ℕ). drop 1 (get_or (tableau m n j (equations_of n lines)) n [])) (number ∙ sym (length-equations n lines))
      ∙ sym (multipliers-row m n (equations_of n lines))

  copied : (old : List ℕ) {out : List ℕ} → rows (n + 1) (n + 1 + k) b ≡ tableau m n k (equations_of n lines)
      → out ≡ over (lent (length b - k) b) old
      → (k ≡ length (multipliers_of m n (equations_of n lines))) × (out ≡ over (multipliers_of m n (equations_of n lines)) old)
  copied old built e = (
    sym long ∙ ap length (carried built),
    e ∙ ap (λ (z : List ℕ). over z old) (carried built),
  )

-- the array has room for k carried columns
within : (n k room : ℕ) → k ≤ 16 → triangle (n + 1) (n + 17) ≤ room → triangle (n + 1) (n + 1 + k) ≤ room
within n k room few enough = omega (arith, triangle_mono (n + 1) (n + 1 + k) (n + 1) (n + 17) (omega arith) (omega arith), enough)

zeros : (n k size room : ℕ) → size ≡ triangle (n + 1) (n + 1 + k) → k ≤ 16 → triangle (n + 1) (n + 17) ≤ room
    → take size (replicate {A = ℕ} room 0) ≡ replicate (triangle (n + 1) (n + 1 + k)) 0
zeros n k size room is few enough = lent_zeros (triangle (n + 1) (n + 1 + k)) room size is (within n k room few enough)

cleared : (n k size room : ℕ) → size ≡ triangle (n + 1) (n + 1 + k) → k ≤ 16 → triangle (n + 1) (n + 17) ≤ room
    → length (take size (replicate {A = ℕ} room 0)) ≡ triangle (n + 1) (n + 1 + k)
cleared n k size room is few enough = ap length (zeros n k size room is few enough) ∙ length-replicate _ 0

pub whole_as_front-basis : goal.whole_as_front-basis
whole_as_front-basis g c =
    let few = equations-few c.args.self.now.n c.args.self.now.lines.now c.args.self.now.posed.equations in
    (omega (arith, c.packed_size-size.ensures, within c.args.self.now.n _ g.row.SIZE few c.requires.0), omega (arith, c.requires.1))

pub build-requires : goal.build-requires
build-requires g c =
    let a = c.args in
    let s = a.self.now in
    let p = s.posed in
    let few = equations-few s.n s.lines.now p.equations in
    (p.modulus, p.unknowns, few, zeros s.n _ c.packed_size-size.result g.row.SIZE c.packed_size-size.ensures few c.requires.0, p.residues)

pub returns-clause-value : goal.returns-clause-value
returns-clause-value g c =
    let a = c.args in
    let s = a.self.now in
    let b = c.build in
    let few = equations-few s.n s.lines.now s.posed.equations in
    (copied s.m s.n _ s.lines.now b.new.basis refl
    (b.auto.basis ∙ cleared s.n _ _ g.row.SIZE c.packed_size-size.ensures few c.requires.0) a.out.now b.ensures.basis_after c.copy.ensures).0

pub returns-clause-out_after : goal.returns-clause-out_after
returns-clause-out_after g c =
    let a = c.args in
    let s = a.self.now in
    let b = c.build in
    let few = equations-few s.n s.lines.now s.posed.equations in
    (copied s.m s.n _ s.lines.now b.new.basis refl
    (b.auto.basis ∙ cleared s.n _ _ g.row.SIZE c.packed_size-size.ensures few c.requires.0) a.out.now b.ensures.basis_after c.copy.ensures).1
