-- `multiply_into` meets its contract. The invariant: the first i products are written, and behind them `out` is as it was.
use mathlib.Core.List.{map}
use Prim.Native.Nat.{ℕ, ◌*◌}
use Rattle.slices.proofs.Copied.{Copied}
use Rattle.lines.proofs.multiply_into.Given as goal

abbrev pub invariant-loop-i : goal.invariant-loop-i
invariant-loop-i l = Copied l.i (map (λ (a : ℕ). l.k * a) l.line) l.initial.out l.out
