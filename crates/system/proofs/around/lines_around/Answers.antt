-- `around::lines_around` meets its contract: the generators that were written are read as vectors again.
use native.Mathlib.Omega.{arith}
use Rattle.system.specs.Claims.{vectors_of}
use Rattle.system.proofs.Through.{around_below, around_room, around_written}
use Rattle.system.proofs.around.lines_around.Goals as goal

pub through_into-requires : goal.through_into-requires
through_into-requires c =
    let a = c.args in
    let g = c.annihilators_into-count in
    let ss = vectors_of a.n a.steps.now in (
      omega (arith, c.requires.0),
      c.requires.1,
      c.requires.2,
      c.requires.3,
      around_below a.m a.n ss g.result c.requires.1 g.ensures.1,
      omega (arith, around_room a.m a.n ss g.result c.requires.1 g.ensures.1 a.start.now, c.requires.6),
    )

pub returns : goal.returns
returns c =
    let a = c.args in
    let g = c.annihilators_into-count in
    let ss = vectors_of a.n a.steps.now in record { value = g.ensures.1.count; lines_after = around_written a.m a.n ss g.result c.requires.1 g.ensures.1 a.start.now a.lines.now c.through_into.ensures }
