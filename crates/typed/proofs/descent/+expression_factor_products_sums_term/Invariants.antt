-- The measure of each reader is four times the bytes left, and 3 for an expression, 2 for a term, 1 for the others: it falls from each to
-- those that it calls. The loops of `sums` and `products` keep that whatever reads on from where they are reads all that follows, and that
-- no more is left than there was.
use Rattle.std.specs.Prelude.{Option}
use Rattle.std.specs.Borrow.{Bor}
use Rattle.std.proofs.Common.{ℕ, List, ◌+◌, ◌*◌, ◌≤◌, length}
use Rattle.typed.specs.declared.forms.Form.{Form}
use Rattle.typed.specs.Model.Contract.{Sums, Products}
use Rattle.typed.proofs.descent.+expression_factor_products_sums_term.Given as goal

abbrev pub decreases-expression : goal.decreases-expression
decreases-expression l = 4 * length l.text.now + 3

abbrev pub decreases-factor : goal.decreases-factor
decreases-factor l = 4 * length l.text.now + 1

abbrev pub decreases-products : goal.decreases-products
decreases-products l = 4 * length l.text.now + 1

abbrev pub decreases-sums : goal.decreases-sums
decreases-sums l = 4 * length l.text.now + 1

abbrev pub decreases-term : goal.decreases-term
decreases-term l = 4 * length l.text.now + 2

abbrev pub invariant-sums-loop-sign : goal.invariant-sums-loop-sign
invariant-sums-loop-sign l =
    record {
      left : length l.rest ≤ length l.text;
      on : (q : Option (Form × Bor (List ℕ))) → Sums l.rest l.m l.a q → Sums l.text l.m l.fn.a q;
    }

abbrev pub decreases-sums-loop-sign : goal.decreases-sums-loop-sign
decreases-sums-loop-sign l = length l.rest

abbrev pub invariant-products-loop-rest : goal.invariant-products-loop-rest
invariant-products-loop-rest l =
    record {
      left : length l.rest ≤ length l.text;
      on : (q : Option (Form × Bor (List ℕ))) → Products l.rest l.m l.a q → Products l.text l.m l.fn.a q;
    }

abbrev pub decreases-products-loop-rest : goal.decreases-products-loop-rest
decreases-products-loop-rest l = length l.rest
