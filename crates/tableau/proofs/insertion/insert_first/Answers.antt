-- `insertion::insert_first` meets its contract: a combination with a row of zeros has the line's part only.
use mathlib.Core.Path.{refl}
use native.Mathlib.Omega.{arith}
use Rattle.equations.proofs.Vectors.{below_at}
use Rattle.tableau.proofs.Column.{column-first, column_used_up, not_both}
use Rattle.tableau.proofs.insertion.insert_first.Goals as goal

pub returns-then-g-eq1 : goal.returns-then-g-eq1
returns-then-g-eq1 c =
    let a = c.args in
    let f = c.cofactors-c in
    let k = c.multiple in record {
      inserted = λ e. not_both refl e;
      used_up = λ _. column_used_up a.modulus.m f.result a.row.now a.line.now k.new.row
          c.requires.row_nonzero.0 c.requires.row_nonzero.1 c.requires.row_nonzero.2 c.requires.row_nonzero.3 c.requires.row_value.0 c.requires.row_value.1
          (below_at a.modulus.m 0 a.line.now c.requires.row_nonzero.3 (omega arith)) f.ensures.value (omega arith) k.ensures;
    }

pub returns : goal.returns
returns c =
    let a = c.args in
    let f = c.cofactors-c in
    let k = c.multiple in
    let n = c.negate in
    let l = c.scale in record {
      inserted = λ _. column-first a.modulus.m f.result n.result a.row.now a.line.now k.new.row l.new.line
          c.requires.row_nonzero.0 c.requires.row_nonzero.1 c.requires.row_nonzero.2 c.requires.row_nonzero.3 c.requires.row_value.0 c.requires.row_value.1
          (below_at a.modulus.m 0 a.line.now c.requires.row_nonzero.3 (omega arith)) f.ensures.value n.ensures.0 k.ensures
          l.ensures;
      used_up = λ e. not_both e refl;
    }
