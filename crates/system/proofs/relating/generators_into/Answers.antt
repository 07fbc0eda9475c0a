-- `relating::generators_into` meets its contract: the basis of the lines is built in zeros, and the steps are read off it.
use mathlib.Core.Path.{subst}
use mathlib.Core.List.{List}
use Prim.Native.Nat.{ℕ}
use Rattle.system.specs.Ready.{zeros_ready}
use Rattle.system.specs.Model.Reading.{Laid}
use Rattle.system.proofs.Prepared.{prepared_front}
use Rattle.system.proofs.Generators.{steps_read}
use Rattle.system.proofs.relating.generators_into.Goals as goal

pub prepare-requires : goal.prepare-requires
prepare-requires c =
    zeros_ready c.args.m c.args.k c.args.lines.now

pub returns : goal.returns
returns c =
    let a = c.args in
    let size = c.packed_size-size in
    let steps = c.steps_into in
    let based = prepared_front a.m a.k a.lines.now _ c.prepare.ensures size.result size.ensures in (
      steps.ensures.0,
      subst (λ (vs : List (List ℕ)). Laid a.k vs a.out.now steps.new.out steps.result)
          (steps_read a.m a.k a.lines.now _ c.requires.0 based) steps.ensures.1,
    )
