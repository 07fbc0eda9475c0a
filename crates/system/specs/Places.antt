-- A place that counts from 1, where 0 stands for none, as the code has it: an option. Definitions only.
use Rattle.std.specs.Prelude.{ℕ, zero, suc, Option, Some, None}

abbrev pub placed : ℕ → Option ℕ
placed zero = None
placed (suc i) = Some (suc i)
