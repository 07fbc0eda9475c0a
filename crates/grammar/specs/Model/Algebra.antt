-- Values of trees of any kind, a model: the reader gives a tree's value in an algebra, and the tree itself in that of the trees.
use Rattle.std.specs.Prelude.{ℕ}
use Rattle.grammar.specs.Tree.{Tree, number, unknown, minus, sum, difference, product}

-- the operations of trees, on any kind of value
pub record Algebra (A : Type 0) : Type 0 where
  pub number : ℕ → A
  pub unknown : ℕ → A
  pub minus : A → A
  pub sum : A → A → A
  pub difference : A → A → A
  pub product : A → A → A

-- a tree's value, by the operations of its nodes
abbrev pub fold : {A : Type 0} → Algebra A → Tree → A
fold g (number k) = g.number k
fold g (unknown j) = g.unknown j
fold g (minus t) = g.minus (fold g t)
fold g (sum a b) = g.sum (fold g a) (fold g b)
fold g (difference a b) = g.difference (fold g a) (fold g b)
fold g (product a b) = g.product (fold g a) (fold g b)
