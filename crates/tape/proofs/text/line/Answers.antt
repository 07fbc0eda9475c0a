-- `text::line` meets its contract: the name, the numbers in the part behind it, and the byte that ends a line.
use mathlib.Core.Path.{refl}
use Prim.Native.Nat.{◌+◌}
use native.Mathlib.Omega.{arith}
use lib.ListN.{length}
use Rattle.slices.proofs.Over.{over-behind}
use Rattle.tape.specs.Text.{spaced}
use Rattle.tape.proofs.Printed.{line-length, line-written}
use Rattle.tape.proofs.text.line.Goals as goal

pub returns : goal.returns
returns c =
    let a = c.args in
    let copied = c.copy in
    let numbers = c.numbers_into-written in
    let name = a.name.now in
    let ns = a.numbers.now in
    record {
      value = (omega (arith, line-length name ns, numbers.ensures.value.0), omega (arith, numbers.ensures.value.1));
      out_after = line-written name ns (length name + numbers.result) a.out.now (omega (arith, numbers.ensures.value.0))
          (omega (arith, numbers.ensures.value.1))
          (over-behind (length name) name (spaced ns) a.out.now refl copied.ensures numbers.ensures.out_after);
    }
