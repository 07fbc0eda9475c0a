-- `unknown` meets its contract: each way out is one law of proofs/Readers.antt.
use mathlib.Core.Path.{◌∙◌}
use native.Mathlib.Omega.{arith}
use Rattle.typed.proofs.Readers.{unknown-none, unknown_beyond, unknown_good}
use Rattle.typed.proofs.descent.unknown.Goals as goal

pub returns-then-d-lt1-clause-value : goal.returns-then-d-lt1-clause-value
returns-then-d-lt1-clause-value c = λ m.
    unknown-none c.args.text.now m c.digits_of-d.result c.digits_of-d.ensures (omega arith)

pub returns-then-d-gt16-clause-value : goal.returns-then-d-gt16-clause-value
returns-then-d-gt16-clause-value c = λ m.
    unknown_beyond c.args.text.now m c.digits_of-d.result c.digits_of-d.ensures (omega arith)

pub returns-clause-value : goal.returns-clause-value
returns-clause-value c = λ m.
    unknown_good c.args.text.now m c.digits_of-d.result c.digits_of-d.ensures _ _
    (λ e. c.if-peek-eq48.false (c.peek.ensures ∙ e)) (omega arith) (omega arith) c.unknown_form.ensures
    c.past_spaces.ensures.text_value
