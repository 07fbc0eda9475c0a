-- `text::decimal_into` meets its contract. The measure is the number.
use mathlib.Core.Path.{sym, ap}
use Prim.Native.Nat.{◌≤◌}
use native.Mathlib.Omega.{arith}
use lib.ListN.{length}
use borrow.Author.Rules.{rules}
use Rattle.tape.specs.Text.{decimal-small}
use Rattle.tape.proofs.Printed.{decimal-length, decimal_some, decimal-first, decimal-next}
use Rattle.tape.proofs.text.+decimal_into.Goals as goal

pub bounds-out-0 : goal.bounds-out-0
bounds-out-0 t c = omega (arith, decimal_some c.args.x)

pub returns-then-x-lt10 : goal.returns-then-x-lt10
returns-then-x-lt10 t c =
    let a = c.args in
    let some = decimal_some a.x in
    record {
      value = sym (ap length (decimal-small a.x (omega arith)));
      out_after = decimal-first a.x c.digit.result a.out.now (omega arith) c.digit.ensures (omega arith);
    }

pub decimal_into-at-requires : goal.decimal_into-at-requires
decimal_into-at-requires t c =
    (search rules, omega (arith, decimal-length c.args.x (omega arith) c.divide-tens.ensures.0))

pub bounds-out-at : goal.bounds-out-at
bounds-out-at t c =
    omega (arith, c.decimal_into-at.ensures.value, decimal-length c.args.x (omega arith) c.divide-tens.ensures.0)

pub returns : goal.returns
returns t c =
    let d = c.divide-tens in
    let a = c.args in
    let front = c.decimal_into-at in
    let more : 10 ≤ a.x = omega arith in
    record {
      value = omega (arith, front.ensures.value, decimal-length a.x more d.ensures.0);
      out_after =
          decimal-next a.x d.result.quotient d.result.remainder c.digit-2.result front.result a.out.now more d.ensures.0
          d.ensures.1 c.digit-2.ensures front.ensures.value (omega arith) front.ensures.out_after;
    }
