-- `Basis::vectors_into` meets its contract: the starting vector stands in front of the steps.
use mathlib.Core.Path.{◌≡◌, ◌∙◌}
use mathlib.Core.List.{List, ◌++◌}
use Prim.Native.Nat.{ℕ, ◌+◌}
use native.Mathlib.Omega.{arith}
use lib.ListN.{length, drop}
use lib.Seq.{length-take-le}
use Rattle.slices.proofs.Parts.{lent, put_back}
use Rattle.system.specs.Model.Reading.{rows_in, Laid, read_vector, read_steps, read_vectors}
use Rattle.system.proofs.Laid.{laid_cons}
use Rattle.system.proofs.basis.Basis.vectors_into.Goals as goal

-- the steps p put behind the starting vector v
start_then_steps : (m n r : ℕ) (B : List (List ℕ)) (v old : List ℕ) {p : List ℕ} → length v ≡ n → v ≡ read_vector m n B n 1
    → Laid n (read_steps m n B n) (lent n (v ++ drop n old)) p r
    → Laid n (read_vectors m n B) old (put_back n (v ++ drop n old) p) (r + 1)
unfolding read_vectors
start_then_steps m n r B v old h e w = rw (← e) (laid_cons n r v old (read_steps m n B n) h w)

pub returns : goal.returns
returns c =
    let a = c.args in
    let b = a.self.now in
    let v = c.start_into in
    let s = c.steps_into-steps in
    let e = v.auto.out ∙ length-take-le b.n a.out.now (omega arith) in (
      omega arith,
      omega (arith, s.ensures.0),
      start_then_steps b.m b.n s.result (rows_in b.n b.numbers.now) v.new.out a.out.now e v.ensures
          s.ensures.1,
    )
