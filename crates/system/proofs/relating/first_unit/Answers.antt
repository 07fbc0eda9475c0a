-- `relating::first_unit` meets its contract: the generators that were written are read as vectors again.
use mathlib.Core.Path.{ap, ◌∙◌}
use mathlib.Core.List.{List}
use Prim.Native.Nat.{ℕ}
use Rattle.equations.specs.Lines.{equations_of}
use Rattle.equations.specs.Answer.{steps_of}
use Rattle.equations.specs.Marks.{place_from}
use Rattle.equations.proofs.Listed.{steps_vectors}
use Rattle.elimination.specs.Relations.{coprime_at}
use Rattle.system.specs.Places.{placed}
use Rattle.system.proofs.Generators.{laid_vectors}
use Rattle.system.proofs.relating.first_unit.Goals as goal

pub returns : goal.returns
returns c =
    let a = c.args in
    let es = equations_of a.k a.lines.now in
    c.first_coprime.ensures
    ∙ ap (λ (gs : List (List ℕ)). placed (place_from (coprime_at a.m gs) 0 a.k))
    (laid_vectors a.m a.k c.generators_into-count.result (steps_of a.m a.k es) c.requires.has_unknowns
    (steps_vectors a.m a.k es) c.generators_into-count.ensures.1)
