-- What a typed equation says of a vector: its two sides are the same number mod m there. Definitions only.
use Rattle.std.specs.Prelude.{List, ℕ, ℤ, pos, neg_ℤ, ◌+ℤ◌, ◌-ℤ◌, ◌*ℤ◌, get_or}
use Rattle.residue.specs.Whole.{CongruentWhole}
use Rattle.grammar.specs.Tree.{Tree, number, unknown, minus, sum, difference, product, Sides}

-- the whole number that a tree is at v, as in the textbook; nothing is reduced here
abbrev pub value : List ℕ → Tree → ℤ
value v (number k) = pos k
value v (unknown j) = pos (get_or v j 0)
value v (minus t) = neg_ℤ (value v t)
value v (sum a b) = value v a +ℤ value v b
value v (difference a b) = value v a -ℤ value v b
value v (product a b) = value v a *ℤ value v b

-- it "holds mod m" at the vector v
abbrev pub HoldsMod : ℕ → Sides → List ℕ → Type 0
HoldsMod m e v = CongruentWhole m (value v e.left) (value v e.right)
