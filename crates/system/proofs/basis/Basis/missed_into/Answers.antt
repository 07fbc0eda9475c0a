-- `Basis::missed_into` meets its contract: the step of the place's column is read off, and the start added to it.
use mathlib.Core.Path.{◌≡◌, sym, ap, ◌∙◌}
use mathlib.Core.List.{List}
use Prim.Native.Nat.{ℕ, zero, suc, ◌+◌, ◌-◌, ◌/◌, ◌<◌, ◌≤◌}
use native.Mathlib.Nat.{div-lt_self}
use native.Mathlib.Omega.{arith}
use Rattle.equations.specs.Vectors.{combine}
use Rattle.elimination.specs.Basis.{pivot}
use Rattle.elimination.specs.Missed.{shifted_at}
use Rattle.system.specs.Model.Reading.{rows_in, read_vector}
use Rattle.system.proofs.Rows.{rows-count}
use Rattle.system.proofs.Answer.{step-vector}
use Rattle.system.proofs.Explained.{below-read}
use Rattle.system.proofs.basis.Basis.missed_into.Goals as goal

-- the place from 1
shifted : (m n p : ℕ) (B : List (List ℕ)) (c : List ℕ) → 0 < p → p ≤ n
    → shifted_at m n B c p ≡ combine m 1 1 c (read_vector m n B (n - p) (m / pivot (n - p) B))
shifted m n zero B c some within = absurd (omega arith)
shifted m n (suc j) B c some within =
    ap (combine m 1 1 c) (step-vector m n (n - suc j) j (m / pivot (n - suc j) B) B (omega arith))

pub add_row-requires : goal.add_row-requires
add_row-requires c =
    let a = c.args in
    let b = a.self.now in
    let v = c.vector_into in
    let d = c.pivot-pivot in
    let is = d.ensures.1 in
    let small : b.m / d.result < b.m = div-lt_self (omega (arith, b.readable.modulus)) (omega (arith, c.requires.place_nonzero.2, is)) in (
      omega (arith, v.auto.out),
      c.requires.start_below.1,
      rw v.ensures (below-read b.m b.n (b.n - a.place) (b.m / d.result) (rows_in b.n b.numbers.now)
          (omega (arith, rows-count (b.n + 1) (b.n + 1) b.numbers.now)) (omega arith) small),
    )

pub returns : goal.returns
returns c =
    let a = c.args in
    let b = a.self.now in
    let v = c.vector_into in
    let d = c.pivot-pivot in
    let B = rows_in b.n b.numbers.now in
    c.add_row.ensures
    ∙ ap (combine b.m 1 1 a.start.now)
    (v.ensures ∙ ap (λ (k : ℕ). read_vector b.m b.n B (b.n - a.place) (b.m / k)) (d.ensures.1))
    ∙ sym (shifted b.m b.n a.place B a.start.now c.requires.place_nonzero.0 c.requires.place_nonzero.1)
