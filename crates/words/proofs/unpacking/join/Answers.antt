-- `unpacking::join` meets its contract: the top has 4 bits, so that the whole number has 32.
use mathlib.Core.Path.{ap}
use native.Mathlib.Omega.{arith}
use Rattle.words.proofs.Words.{number_of}
use Rattle.words.proofs.Tops.{carries-number}
use Rattle.words.proofs.unpacking.join.Goals as goal

pub overflow_mul-result : goal.overflow_mul-result
overflow_mul-result c =
    let a = c.args in
    omega (arith, ap number_of c.unpack-top.ensures, carries-number a.first a.second c.requires)

pub overflow_add-result : goal.overflow_add-result
overflow_add-result c =
    let a = c.args in
    omega (
      arith,
      ap number_of c.unpack-top.ensures,
      ap number_of c.unpack-low.ensures,
      carries-number a.first a.second c.requires,
    )
