-- Reading without trees, a model: the reader in the algebra of linear forms gives at once what the questions ask, and the equation
-- that is added.
use Rattle.std.specs.Prelude.{true, not, ◌&&◌, ℕ, suc, ◌+◌, ◌*◌, ◌%◌, max, take, replicate, ltb}
use Rattle.equations.specs.Vectors.{unit, combine}
use Rattle.equations.specs.Equation.{Equation}
use Rattle.typed.specs.declared.forms.Form.{Form}
use Rattle.grammar.specs.Tree.{Tree, number, unknown, minus, sum, difference, product}
use Rattle.grammar.specs.Model.Algebra.{Algebra}
use Rattle.grammar.specs.Linear.{minus_one, linear, constant, coefficients}

-- the number of the last of its unknowns, 0 where it has none
abbrev pub largest : Tree → ℕ
largest (number k) = 0
largest (unknown j) = suc j
largest (minus t) = largest t
largest (sum a b) = max (largest a) (largest b)
largest (difference a b) = max (largest a) (largest b)
largest (product a b) = max (largest a) (largest b)

-- the form of 0
abbrev pub zero_form : ℕ → Form
zero_form w = record { coefficients = replicate w 0; constant = 0; largest = 0; linear = true }

abbrev pub number_form : ℕ → ℕ → ℕ → Form
number_form m w k = record { coefficients = replicate w 0; constant = k % m; largest = 0; linear = true }

abbrev pub unknown_form : ℕ → ℕ → Form
unknown_form w j = record { coefficients = unit w j; constant = 0; largest = suc j; linear = true }

-- a + t·b: the sum for t = 1, the difference for t = m - 1
abbrev pub added_form : ℕ → ℕ → Form → Form → Form
added_form m t a b = record {
  coefficients = combine m 1 t a.coefficients b.coefficients;
  constant = (a.constant + t * b.constant) % m;
  largest = max a.largest b.largest;
  linear = a.linear && b.linear;
}

abbrev pub product_form : ℕ → Form → Form → Form
product_form m a b = record {
  coefficients = combine m a.constant b.constant b.coefficients a.coefficients;
  constant = a.constant * b.constant % m;
  largest = max a.largest b.largest;
  linear = (a.linear && b.linear) && not (ltb 0 a.largest && ltb 0 b.largest);
}

-- the algebra of forms of w coefficients
abbrev pub forms : ℕ → ℕ → Algebra Form
forms m w = record {
  number = number_form m w;
  unknown = unknown_form w;
  minus = added_form m (minus_one m) (zero_form w);
  sum = added_form m 1;
  difference = added_form m (minus_one m);
  product = product_form m;
}

-- a tree's form
abbrev pub form_of : ℕ → ℕ → Tree → Form
form_of m w t = record {
  coefficients = coefficients m w t;
  constant = constant m t;
  largest = largest t;
  linear = linear t;
}

-- the equation of two sides in n unknowns
abbrev pub forms_equation : ℕ → ℕ → Form → Form → Equation
forms_equation m n a b = record {
  coefficients = combine m 1 (minus_one m) (take n a.coefficients) (take n b.coefficients);
  right = (b.constant + minus_one m * a.constant) % m;
}
