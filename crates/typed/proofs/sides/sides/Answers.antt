-- `sides` meets its contract: each way out is one law of proofs/Whole.antt.
use mathlib.Core.Path.{sym, ◌∙◌}
use Rattle.std.proofs.Common.{arith}
use Rattle.std.proofs.lemmas.Bool.Decides.{nat_tests}
use Rattle.typed.proofs.Whole.{left-none, no_equals, right-none, right_more, both_sides}
use Rattle.typed.proofs.sides.sides.Goals as goal

pub returns-in_err-left : goal.returns-in_err-left
returns-in_err-left c =
    rw c.from_residual.ensures
    (left-none c.args.text.now c.args.m c.past_spaces.result.now c.past_spaces.ensures.text_value c.in_err-left.ensures.expression)

pub returns-then-peek-ne61 : goal.returns-then-peek-ne61
returns-then-peek-ne61 c =
    let l = c.in_ok-left in
    no_equals c.args.text.now c.args.m c.past_spaces.result.now c.past_spaces.ensures.text_value l.left l.rest
    l.ensures.expression (λ e. c.if-peek-ne61.true (c.peek.ensures ∙ e))

pub returns-in_err-right : goal.returns-in_err-right
returns-in_err-right c =
    let l = c.in_ok-left in
    rw c.from_residual-in_err-right.ensures
    (right-none c.args.text.now c.args.m c.past_spaces.result.now c.past_spaces.ensures.text_value l.left l.rest
    l.ensures.expression (sym c.peek.ensures ∙ c.if-peek-ne61.false) c.past_sign.result.now c.past_sign.ensures.text_value
    c.in_err-right.ensures.expression)

pub returns-then-not-is_empty : goal.returns-then-not-is_empty
returns-then-not-is_empty c =
    let l = c.in_ok-left in
    let r = c.in_ok-right in
    right_more c.args.text.now c.args.m c.past_spaces.result.now c.past_spaces.ensures.text_value l.left l.rest
    l.ensures.expression (sym c.peek.ensures ∙ c.if-peek-ne61.false) c.past_sign.result.now c.past_sign.ensures.text_value
    r.right r.rest r.ensures.expression (grind (arith, nat_tests))

pub returns : goal.returns
returns c =
    let l = c.in_ok-left in
    let r = c.in_ok-right in
    both_sides c.args.text.now c.args.m c.past_spaces.result.now c.past_spaces.ensures.text_value l.left l.rest
    l.ensures.expression (sym c.peek.ensures ∙ c.if-peek-ne61.false) c.past_sign.result.now c.past_sign.ensures.text_value
    r.right r.rest r.ensures.expression (grind (arith, nat_tests))
