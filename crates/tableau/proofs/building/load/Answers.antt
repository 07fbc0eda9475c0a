-- `building::load` meets its contract: the numbers alone, or the unknowns, the constant and the carried columns, one behind
-- the other.
use mathlib.Core.Path.{ap, ◌∙◌}
use mathlib.Core.List.{[]}
use Prim.Native.Nat.{ℕ}
use native.Mathlib.Omega.{arith}
use lib.Seq.{length-take-le}
use Rattle.elimination.specs.Tableau.{turned}
use Rattle.tableau.proofs.Lines.{load_is, loaded_equation}
use Rattle.tableau.proofs.building.load.Goals as goal

pub returns-else-plain : goal.returns-else-plain
returns-else-plain c =
    let a = c.args in
    let f = length-take-le a.n a.out.now (omega arith) in
    let t = c.turn in
    let v = c.negate in
    let u = c.unit_vector in
    let e = load_is a.n a.k v.result a.out.now t.new.out c.requires.1 (t.auto.out ∙ f)
    a.m a.i a.numbers.now u.new.out
    (t.ensures ∙ ap (λ (j : ℕ). turned j a.numbers.now []) f) v.ensures.0 u.ensures in
    let both = loaded_equation a.plain a.m a.n a.k a.i a.numbers.now _ c.requires.0 c.requires.3
    c.if-plain.false e in record { out_after = both.0; below = both.1 }
