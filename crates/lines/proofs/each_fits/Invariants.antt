-- `each_fits` meets its contract. The invariant: all lines fit if those fit that are left, and they are whole.
use mathlib.Core.Path.{◌≡◌}
use Prim.Native.Nat.{◌+◌, ◌*◌}
use lib.ListN.{length}
use Rattle.std.specs.Slice.Iter.{iter_rest, chunks_exact_rest, chunks_exact_size}
use Rattle.equations.specs.Lines.{equations_of}
use Rattle.lines.specs.Stored.{all_fit}
use Rattle.lines.proofs.each_fits.Given as goal

abbrev pub invariant-loop-q : goal.invariant-loop-q
invariant-loop-q l =
    record {
      width : chunks_exact_size l.q-iterator.b ≡ l.n + 1;
      whole : length (chunks_exact_rest l.q-iterator.b) ≡ length (iter_rest l.q-iterator.a) * (l.n + 1);
      left : all_fit l.m l.moduli (equations_of l.n l.numbers) ≡ all_fit l.m (iter_rest l.q-iterator.a) (equations_of l.n (chunks_exact_rest l.q-iterator.b));
    }
