-- Document 01's two safes, found by computing the definitions, and what 01 says of the turns in its source, 001.
use mathlib.Core.Bool.{true, false}
use mathlib.Core.List.{List, [], ◌∷◌}
use mathlib.Core.Option.{some}
use mathlib.Core.Path.{◌≡◌, refl}
use Prim.Native.Nat.{ℕ, suc}
use Rattle.equations.specs.Equation.{Equation, solves}
use Rattle.safe.specs.Locks.{after_turns}
use Rattle.safe.specs.Turns.{opens, turns_of}
use Rattle.safe.specs.Model.Lines.{coefficients}

-- "Safe, m=2, `1 1 0 / 0 1 1`: 001 gives turns 1 0 0 0 0 1 as the only ones; 0 1 1 1 1 0 work too and come first."
abbrev pub two_states : List ℕ
two_states = 1 ∷ 1 ∷ 0 ∷ 0 ∷ 1 ∷ 1 ∷ []

pub two_states_first : turns_of 2 2 3 two_states ≡ some (0 ∷ 1 ∷ 1 ∷ 1 ∷ 1 ∷ 0 ∷ [])
unfolding turns_of opens after_turns
two_states_first = refl

-- 001's turns open the safe, and are not the only ones
pub two_states_also : opens 2 3 two_states (1 ∷ 0 ∷ 0 ∷ 0 ∷ 0 ∷ 1 ∷ []) ≡ true
unfolding opens after_turns
two_states_also = refl

-- "Safe, m=3, `2 0 2 2 / 1 2 2 1`: 0 2 2 0 0 2 0 0. 001 writes the equations with the values as right sides; its own turns fit
-- their negatives."
abbrev pub three_states : List ℕ
three_states = 2 ∷ 0 ∷ 2 ∷ 2 ∷ 1 ∷ 2 ∷ 2 ∷ 1 ∷ []

abbrev pub three_turns : List ℕ
three_turns = 0 ∷ 2 ∷ 2 ∷ 0 ∷ 0 ∷ 2 ∷ 0 ∷ 0 ∷ []

pub three_states_first : turns_of 3 2 4 three_states ≡ some three_turns
unfolding turns_of opens after_turns
three_states_first = refl

-- 001's equations, with any right sides: the turns in the row and column of each lock add up to them
abbrev pub with_rights : ℕ → List ℕ → List Equation
with_rights i [] = []
with_rights i (b ∷ rights) = record { coefficients = coefficients 4 i 0 8; right = b } ∷ with_rights (suc i) rights

pub three_states_values : solves 3 (with_rights 0 three_states) three_turns ≡ false
three_states_values = refl

pub three_states_negatives : solves 3 (with_rights 0 (1 ∷ 0 ∷ 1 ∷ 1 ∷ 2 ∷ 1 ∷ 1 ∷ 2 ∷ [])) three_turns ≡ true
three_states_negatives = refl
