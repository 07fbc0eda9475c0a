-- `making::write_lines` meets its contract. The invariant: the words of the rows so far stand in front, and the others are left.
use mathlib.Core.Path.{◌≡◌}
use Prim.Native.Nat.{◌+◌}
use lib.ListN.{length}
use Rattle.std.specs.Slice.Iter.{chunks_exact_rest, chunks_exact_size}
use Rattle.slices.proofs.Poured.{Poured}
use Rattle.setting.proofs.Written.{rows_memory}
use Rattle.setting.proofs.making.write_lines.Given as goal

abbrev pub invariant-loop-line : goal.invariant-loop-line
invariant-loop-line l =
    record {
      room : length l.out ≡ length l.initial.out;
      width : chunks_exact_size l.line-iterator ≡ l.n + 1;
      poured : Poured (rows_memory l.n) l.lines l.initial.out (chunks_exact_rest l.line-iterator) l.at l.out;
    }
