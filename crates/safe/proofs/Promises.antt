-- The promises of specs/Promises.antt are kept.
use mathlib.Core.List.{List}
use mathlib.Core.Path.{◌≡◌, sym, ap, ◌∙◌}
use Prim.Native.Nat.{ℕ, ◌+◌, ◌*◌, ◌%◌, ◌<◌}
use native.Mathlib.Omega.{arith}
use lib.ListN.{length, get_or}
use Rattle.equations.proofs.Search.{first_of, first_some, found_none}
use Rattle.safe.specs.Locks.{after_turns}
use Rattle.safe.specs.Turns.{opens, turns_of}
use Rattle.safe.specs.Promises.{sum_at, EachTurned, EachOpened, Wanted, NoneOpens}
use Rattle.safe.proofs.Turning.{length_shifted, after_is, shifted_at_lem, all-zero}

pub each_turned : EachTurned
each_turned m columns i values turns b lt =
    ap (λ (locks : List ℕ). get_or locks i 0) (after_is m columns turns values b)
    ∙ shifted_at_lem m columns 0 turns 0 i i values (omega arith) lt

pub each_opened : EachOpened
unfolding opens
each_opened m columns values turns b = (
  (λ t i lt. sym (at i lt) ∙ (all-zero (after_turns m columns turns values)).0 t i (omega (arith, long))),
  λ f. (all-zero (after_turns m columns turns values)).1 (λ i lt. at i (omega (arith, long)) ∙ f i (omega (arith, long))),
)
  where
    at : (i : ℕ) → i < length values
        → get_or (after_turns m columns turns values) i 0 ≡ (get_or values i 0 + sum_at columns i turns) % m
    at i lt = each_turned m columns i values turns b lt

    long : length (after_turns m columns turns values) ≡ length values
    long = ap length (after_is m columns turns values b) ∙ length_shifted m columns 0 turns 0 values

pub wanted : Wanted
unfolding turns_of
wanted m rows columns values turns = (
  first_some m (rows * columns) (opens m columns values) turns,
  first_of m (rows * columns) (opens m columns values) turns,
)

pub none-opens : NoneOpens
unfolding turns_of
none-opens m rows columns values = found_none m (rows * columns) (opens m columns values)
