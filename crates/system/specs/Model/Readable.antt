-- That a basis can be read has at most one proof, so that a value can carry it.
use Rattle.std.specs.Prelude.{List, ℕ, [], ◌∷◌}
use Rattle.std.specs.Coded.{×_prop, Unit-prop}
use denote.Struct.Props.{props}
use Rattle.tableau.specs.Packed.{RowKept, Kept}
use Rattle.system.specs.Model.Asked.{below_once}
use Rattle.system.specs.Model.Reading.{rows_in, Readable}

row_once : (m : ℕ) (r : List ℕ) → IsProp (RowKept m r)
row_once m [] = Unit-prop
row_once m (d ∷ r) = hlevel (below_once m r, props)

kept_once : (m : ℕ) (B : List (List ℕ)) → IsProp (Kept m B)
kept_once m [] = Unit-prop
kept_once m (r ∷ B) = ×_prop (row_once m r) (kept_once m B)

pub readable_once : (m n : ℕ) (s : List ℕ) → IsProp (Readable m n s)
readable_once m n s = hlevel (kept_once m (rows_in n s), props)
