-- `runs::solution_into` meets its contract: the constant's pivot tells whether there is a solution, and then the vectors
-- that are read off the tableau are those of the answer.
use mathlib.Core.Path.{◌≡◌, sym, ap, ◌∙◌, subst}
use mathlib.Core.List.{List}
use Prim.Native.Nat.{ℕ, ◌+◌, ◌≤◌}
use native.Mathlib.Omega.{arith}
use lib.ListN.{length, take, replicate, length-replicate}
use Rattle.elimination.specs.Basis.{pivot}
use Rattle.elimination.specs.Tableau.{tableau}
use Rattle.equations.specs.Lines.{equations_of}
use Rattle.tableau.specs.Packed.{rows}
use Rattle.system.specs.Posed.{Posed}
use Rattle.system.specs.Model.Reading.{Laid, read_vectors, answer_vectors}
use Rattle.system.proofs.Fronts.{lent_zeros}
use Rattle.system.proofs.Laid.{laid_nothing}
use Rattle.equations.proofs.Lines.{equations-shaped}
use Rattle.system.proofs.Answer.{vectors_solved, vectors-none}
use Rattle.system.proofs.asked.System.solution_into.Goals as goal

-- b is the basis that was built
module _ (m n : ℕ) (lines b : List ℕ) (posed : Posed m n lines) where
  module _ (d : ℕ) (old : List ℕ) (built : rows (n + 1) (n + 1 + 0) b ≡ tableau m n 0 (equations_of n lines))
      (read : d ≡ pivot n (rows (n + 1) (n + 1) b)) where
    same : rows (n + 1) (n + 1) b ≡ tableau m n 0 (equations_of n lines)
    same = let e : n + 1 + 0 ≡ n + 1 = omega arith in rw e at built

    unsolved : (d ≡ m → ⊥) → Laid n (answer_vectors m n (equations_of n lines)) old old 0
    unsolved h =
        rw (vectors-none m n 0 (equations_of n lines) (omega (arith, posed.modulus)) (equations-shaped n lines)
        (λ p. h (read ∙ ap (pivot n) same ∙ p)))
        (laid_nothing n old)

    solved : (r : ℕ) {out : List ℕ} → d ≡ m → Laid n (read_vectors m n (rows (n + 1) (n + 1) b)) old out r
        → Laid n (answer_vectors m n (equations_of n lines)) old out r
    solved r {out} h w =
        subst (λ (vs : List (List ℕ)). Laid n vs old out r)
        (ap (read_vectors m n) same
        ∙ vectors_solved m n 0 (equations_of n lines) (omega (arith, posed.modulus)) (equations-shaped n lines)
        (sym (read ∙ ap (pivot n) same) ∙ h)) w

cleared : (size t cap : ℕ) → size ≡ t → t ≤ cap → length (take size (replicate {A = ℕ} cap 0)) ≡ t
cleared size t cap is fits = ap length (lent_zeros t cap size is fits) ∙ length-replicate t 0

pub returns-then-pivot-m : goal.returns-then-pivot-m
returns-then-pivot-m g c =
    let a = c.args in
    let s = a.self.now in
    let b = c.build in
    unsolved s.m s.n s.lines.now b.new.basis s.posed c.pivot.result a.out.now b.ensures.basis_after
    c.pivot.ensures.1 c.if-pivot-m.true

pub returns : goal.returns
returns g c =
    let a = c.args in
    let s = a.self.now in
    let b = c.build in
    let d = c.pivot in
    let v = c.vectors_into in (
      v.ensures.0,
      v.ensures.1,
      solved s.m s.n s.lines.now b.new.basis s.posed d.result a.out.now b.ensures.basis_after
          d.ensures.1 v.result
          c.if-pivot-m.false v.ensures.2,
    )
