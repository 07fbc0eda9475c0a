-- `unpacking::front_length` meets its contract. The invariant: what is counted and what the words left take is what all take.
use mathlib.Core.Path.{◌≡◌}
use Prim.Native.Nat.{◌+◌, ◌-◌, ◌≤◌}
use lib.ListN.{length, drop}
use Rattle.words.specs.Fronts.{front_length}
use Rattle.words.proofs.unpacking.front_length.Given as goal

abbrev pub invariant-loop : goal.invariant-loop
invariant-loop l =
    record {
      place : l.at ≤ length l.memory;
      counted : front_length l.count l.memory ≡ l.at + front_length (l.count - l.counter) (drop l.at l.memory);
    }
