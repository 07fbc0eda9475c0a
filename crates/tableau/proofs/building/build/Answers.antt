-- `building::build` meets its contract: lines that are not plain are those of the equations.
use mathlib.Core.Path.{ap, ◌∙◌}
use Prim.Native.Nat.{◌+◌}
use Rattle.elimination.specs.Basis.{basis}
use Rattle.elimination.specs.Tableau.{tableau}
use Rattle.tableau.proofs.Lines.{lines-equations}
use Rattle.tableau.proofs.building.build.Goals as goal

pub returns : goal.returns
unfolding tableau
returns c =
    let a = c.args in
    let f = c.fill in record { basis_after = f.ensures.basis_after ∙ ap (basis a.m (a.n + 1) a.k) (lines-equations a.m a.n a.k a.lines.now); kept = f.ensures.kept }
