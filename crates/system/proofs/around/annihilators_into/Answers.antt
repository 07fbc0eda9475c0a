-- `around::annihilators_into` meets its contract: the system of the steps lies in the front of an array, and its answer's steps are read off.
use mathlib.Core.Path.{◌≡◌, refl, sym, subst}
use mathlib.Core.List.{List}
use Prim.Native.Nat.{ℕ, ◌+◌, ◌*◌, ◌/◌, ◌≤◌}
use native.Mathlib.Omega.{arith}
use lib.ListN.{length, take, replicate}
use Rattle.equations.specs.Vectors.{Vector}
use Rattle.equations.proofs.Combine.{vector_zeros}
use Rattle.system.specs.Model.Reading.{Laid}
use Rattle.system.proofs.Fronts.{lent_zeros}
use Rattle.system.proofs.Relations.{lines-few}
use Rattle.system.proofs.Generators.{steps_few}
use Rattle.system.proofs.Through.{through-length, level-read, level-posed}
use Rattle.system.proofs.around.annihilators_into.Goals as goal

-- the front of the array that the start is lent from
zeros_lent : (n : ℕ) → n ≤ 16 → take n (replicate {A = ℕ} 16 0) ≡ replicate n 0
zeros_lent n few = lent_zeros n 16 n refl few

-- how many numbers the system has
room : (n : ℕ) (steps : List ℕ) → n ≤ 16 → length steps ≤ 16 * n → length steps / n * (n + 1) ≤ 272
room n steps few short = lines-few (length steps / n) n (steps_few n steps short) few

pub through_into-requires : goal.through_into-requires
through_into-requires c =
    let a = c.args in
    let zeros = take a.n (replicate {A = ℕ} 16 0) in (
      omega (arith, c.requires.0),
      c.requires.1,
      c.requires.2,
      subst (Vector a.m a.n) (sym (zeros_lent a.n c.requires.2)) (vector_zeros a.m a.n (omega (arith, c.requires.0))),
      c.requires.3,
      omega (arith, through-length a.m a.n zeros a.steps.now c.requires.3, room a.n a.steps.now c.requires.2 c.requires.4),
    )

pub generators_into-requires : goal.generators_into-requires
generators_into-requires c =
    let a = c.args in (
      level-posed a.m a.n a.steps.now c.requires.3 _ _ (zeros_lent a.n c.requires.2) c.through_into.ensures
          c.requires.0 c.requires.1 c.requires.2 c.requires.4,
      c.requires.5,
    )

pub returns : goal.returns
returns c =
    let a = c.args in
    let steps = c.generators_into in (
      steps.ensures.0,
      subst (λ (vs : List (List ℕ)). Laid a.n vs a.out.now steps.new.out steps.result)
          (level-read a.m a.n a.steps.now c.requires.3 _ _ (zeros_lent a.n c.requires.2)
          c.through_into.ensures)
          steps.ensures.1,
    )
