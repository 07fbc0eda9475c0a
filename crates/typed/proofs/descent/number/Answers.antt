-- `number` meets its contract: where 1 to 5 digits stand in front, they are the number.
use native.Mathlib.Omega.{arith}
use Rattle.typed.proofs.Readers.{number_good}
use Rattle.typed.proofs.descent.number.Goals as goal

pub returns-clause-value : goal.returns-clause-value
returns-clause-value c =
    number_good c.args.text.now c.args.m c.digits_of-d.result c.digits_of-d.ensures _ _ (omega arith) (omega arith)
    c.number_form.ensures c.past_spaces.ensures.text_value
