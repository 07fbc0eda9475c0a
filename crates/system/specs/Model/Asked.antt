-- That a system is well posed has at most one proof, so that a value can carry it.
use Rattle.std.specs.Prelude.{List, ℕ, [], ◌∷◌}
use Rattle.std.specs.Coded.{×_prop, Unit-prop, le_prop}
use denote.Struct.Props.{props}
use Rattle.equations.specs.Vectors.{Below}
use Rattle.system.specs.Posed.{Posed}

pub below_once : (m : ℕ) (v : List ℕ) → IsProp (Below m v)
below_once m [] = Unit-prop
below_once m (x ∷ v) = ×_prop le_prop (below_once m v)

pub posed_once : (m n : ℕ) (lines : List ℕ) → IsProp (Posed m n lines)
posed_once m n lines = hlevel (below_once m lines, props)
