-- `combine_by` meets its contract: residues of up to 31 bits make a sum of up to 32, and for larger ones what is left of each product
-- may be added in place of the products.
use mathlib.Core.Path.{◌∙◌}
use Rattle.residue.proofs.Congruent.{congruent_add}
use Rattle.residue.proofs.modular.combine_by.Goals as goal

pub returns-else-m-le2147483648 : goal.returns-else-m-le2147483648
returns-else-m-le2147483648 c =
    let sum = congruent_add (record { same = c.left_over.ensures.0 }) (record { same = c.left_over-else-m-le2147483648.ensures.0 }) in
    (c.reduce_once.ensures.0 ∙ c.reduce_by_twice.ensures.0 ∙ sum.same, c.reduce_once.ensures.1)
