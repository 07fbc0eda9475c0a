-- `making::write_line` meets its contract: the right side is written behind the coefficients.
use mathlib.Core.Path.{sym}
use native.Mathlib.Omega.{arith}
use Rattle.setting.proofs.Written.{line-length, line-written}
use Rattle.setting.proofs.making.write_line.Goals as goal

pub returns : goal.returns
returns c =
    let line = c.args.line.now in
    let first = c.write-coefficients in
    let second = c.write in record { value = omega (arith, line-length c.args.n line c.requires.1, first.ensures.value, second.ensures.value); out_after = line-written c.args.n line c.requires.1 first.result c.args.out.now (sym first.ensures.value) first.ensures.out_after second.ensures.out_after }
