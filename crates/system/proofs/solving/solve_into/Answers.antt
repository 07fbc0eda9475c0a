-- `solving::solve_into` meets its contract: either the vectors that were written are the block, or there are none, so that
-- nothing was written before the multipliers, and these are.
use mathlib.Core.Path.{refl}
use Rattle.equations.specs.Lines.{equations_of}
use Rattle.system.proofs.Written.{written_solved, written_refuted}
use Rattle.system.proofs.solving.solve_into.Goals as goal

pub returns-in_default : goal.returns-in_default
returns-in_default c =
    let a = c.args in
    let es = equations_of a.n a.lines.now in
    let r = c.refutation-len in
    let both = written_refuted a.m a.n es 0 r.result a.numbers.now refl c.in_default.ensures r.ensures.value r.ensures.numbers_after in record { value = both.0; numbers_after = both.1 }

pub returns : goal.returns
returns c =
    let a = c.args in
    let es = equations_of a.n a.lines.now in
    let s = c.in-Some in
    let both = written_solved a.m a.n es s.vectors a.numbers.now s.ensures.0 s.ensures.2 in record { value = both.0; numbers_after = both.1 }
