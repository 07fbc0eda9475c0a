-- The readers of an expression, a term and a factor meet their contracts together, since the measure falls from each to those that it
-- calls. Each way out is one law of proofs/Readers.antt.
use mathlib.Core.Path.{◌≡◌, sym, ap, ◌∙◌}
use Prim.Native.Nat.{ℕ, ◌<◌}
use native.Mathlib.Omega.{arith}
use lib.ListN.{length}
use Rattle.std.specs.Prelude.{Some, None}
use Rattle.std.proofs.lemmas.Bool.Decides.{nat_tests}
use Rattle.grammar.specs.Grammar.{largest_unknown}
use Rattle.grammar.specs.Model.Reader.{next, is_sign, joined}
use Rattle.typed.specs.declared.forms.Form.{Form}
use Rattle.typed.specs.Model.Forms.{forms}
use Rattle.typed.proofs.Texts.{inside, sign-inside, first-next, rest-tail, past_first}
use Rattle.typed.proofs.Readers.{expression-none, expression_good, term-none, term_good, sums_end, sums-none, sums_good, products_end, products-none, products_good, bracket-none, bracket_good, minus-none, minus_good, factor-unknown, factor-number}
use Rattle.typed.proofs.descent.+expression_factor_products_sums_term.Goals as goal
use Rattle.typed.proofs.descent.+expression_factor_products_sums_term.Goals.{factor-in_default-via-then-text-lt1, factor-in_default-via-else-text-lt1+in_default-1}

-- ---- `expression`: a term, and what follows it

pub expression-returns-in_err-a-clause-expression : goal.expression-returns-in_err-a-clause-expression
expression-returns-in_err-a-clause-expression t c =
    rw c.from_residual.ensures (expression-none c.args.text.now c.args.m c.in_err-a.ensures.term)

pub expression-returns-clause-expression : goal.expression-returns-clause-expression
expression-returns-clause-expression t c =
    let r = c.in_ok-a in
    expression_good c.args.text.now c.args.m r.a r.rest r.ensures.onwards c.sums.result r.ensures.term c.sums.ensures.sums

-- ---- `term`: a factor, and what follows it

pub term-returns-in_err-a-clause-term : goal.term-returns-in_err-a-clause-term
term-returns-in_err-a-clause-term t c =
    rw c.from_residual.ensures (term-none c.args.text.now c.args.m c.in_err-a.ensures.factor)

pub term-returns-clause-term : goal.term-returns-clause-term
term-returns-clause-term t c =
    let r = c.in_ok-a in
    term_good c.args.text.now c.args.m r.a r.rest r.ensures.onwards c.products.result r.ensures.factor c.products.ensures.products

-- ---- `sums`: a sign and a term, any number of times

pub sums-returns-in_err-b-clause-sums : goal.sums-returns-in_err-b-clause-sums
sums-returns-in_err-b-clause-sums t c =
    let l = c.loop-sign in
    let p = c.past_sign in
    let sign = sym (ap is_sign c.peek.ensures) ∙ sym c.is_sign.ensures ∙ c.loop-sign-test.true in
    rw c.from_residual.ensures
    (l.invariant.on None (sums-none l.rest.now c.args.m p.result.now p.ensures.text_value
    (omega (arith, p.ensures.left, sign-inside l.rest.now sign)) l.a sign c.in_err-b.ensures.term))

pub sums-loop-sign-preserved : goal.sums-loop-sign-preserved
sums-loop-sign-preserved t c =
    let m = c.args.m in
    let l = c.loop-sign in
    let p = c.past_sign in
    let r = c.in_ok-b in
    let sign = sym (ap is_sign c.peek.ensures) ∙ sym c.is_sign.ensures ∙ c.loop-sign-test.true in record {
      left = omega (arith, r.ensures.onwards, p.ensures.left, l.invariant.left);
      on = λ q k. l.invariant.on q
          (sums_good l.rest.now m p.result.now p.ensures.text_value (omega (arith, p.ensures.left, sign-inside l.rest.now sign)) l.a r.b
          c.joined-a.result r.behind r.ensures.onwards q sign r.ensures.term
          (c.joined-a.ensures ∙ ap (λ (sign : ℕ). joined (forms m largest_unknown) sign l.a r.b) c.peek-sign.ensures) k);
    }

pub sums-returns-clause-sums : goal.sums-returns-clause-sums
sums-returns-clause-sums t c =
    let l = c.loop-sign in
    l.invariant.on (Some (l.a, l.rest)) (sums_end l.rest.now c.args.m l.a
    (sym (ap is_sign c.peek.ensures) ∙ sym c.is_sign.ensures ∙ c.loop-sign-test.false))

-- ---- `products`: a star and a factor, any number of times

pub products-returns-in_err-b-clause-products : goal.products-returns-in_err-b-clause-products
products-returns-in_err-b-clause-products t c =
    let l = c.loop-rest in
    let p = c.past_sign in
    let star = sym c.peek.ensures ∙ c.loop-rest-test.true in
    rw c.from_residual.ensures
    (l.invariant.on None (products-none l.rest.now c.args.m p.result.now p.ensures.text_value
    (omega (arith, p.ensures.left, inside l.rest.now 41 star)) l.a star c.in_err-b.ensures.factor))

pub products-loop-rest-preserved : goal.products-loop-rest-preserved
products-loop-rest-preserved t c =
    let m = c.args.m in
    let l = c.loop-rest in
    let p = c.past_sign in
    let r = c.in_ok-b in
    let star = sym c.peek.ensures ∙ c.loop-rest-test.true in record {
      left = omega (arith, r.ensures.onwards, p.ensures.left, l.invariant.left);
      on = λ q k. l.invariant.on q
          (products_good l.rest.now m p.result.now p.ensures.text_value (omega (arith, p.ensures.left, inside l.rest.now 41 star)) l.a r.b
          c.multiplied-a.result r.behind r.ensures.onwards q star r.ensures.factor c.multiplied-a.ensures k);
    }

pub products-returns-clause-products : goal.products-returns-clause-products
products-returns-clause-products t c =
    let l = c.loop-rest in
    l.invariant.on (Some (l.a, l.rest))
    (products_end l.rest.now c.args.m l.a (λ e. c.loop-rest-test.false (c.peek.ensures ∙ e)))

-- ---- `factor`: a bracketed expression, a minus before a factor, an unknown, or a number

pub factor-returns-in_err-form-in-40-clause-factor : goal.factor-returns-in_err-form-in-40-clause-factor
factor-returns-in_err-form-in-40-clause-factor t c =
    let a = c.args in
    let p = c.past_spaces in
    let past = past_first a.text.now p.result.now c.in-40.len_at_least p.ensures.left p.ensures.text_value in
    rw c.from_residual.ensures
    (bracket-none a.text.now a.m p.result.now past.0 past.1 (omega (arith, first-next a.text.now)) c.in_err-form-in-40.ensures.expression)

pub factor-returns-in_ok-form-in-40-clause-factor : goal.factor-returns-in_ok-form-in-40-clause-factor
factor-returns-in_ok-form-in-40-clause-factor t c =
    let a = c.args in
    let p = c.past_spaces in
    let r = c.in_ok-form-in-40 in
    let past = past_first a.text.now p.result.now c.in-40.len_at_least p.ensures.left p.ensures.text_value in
    bracket_good a.text.now a.m p.result.now past.0 past.1 r.form r.rest c.close.result (omega (arith, first-next a.text.now))
    r.ensures.expression (c.close.ensures.value a.m)

pub factor-returns-in_err-form-in-45-clause-factor : goal.factor-returns-in_err-form-in-45-clause-factor
factor-returns-in_err-form-in-45-clause-factor t c =
    let a = c.args in
    let p = c.past_spaces-in-45 in
    let past = past_first a.text.now p.result.now c.in-45.len_at_least p.ensures.left p.ensures.text_value in
    rw c.from_residual-in_err-form-in-45.ensures
    (minus-none a.text.now a.m p.result.now past.0 past.1 (omega (arith, first-next a.text.now)) c.in_err-form-in-45.ensures.factor)

pub factor-returns-in_ok-form-in-45-clause-factor : goal.factor-returns-in_ok-form-in-45-clause-factor
factor-returns-in_ok-form-in-45-clause-factor t c =
    let a = c.args in
    let p = c.past_spaces-in-45 in
    let r = c.in_ok-form-in-45 in
    let past = past_first a.text.now p.result.now c.in-45.len_at_least p.ensures.left p.ensures.text_value in
    minus_good a.text.now a.m p.result.now past.0 past.1 c.joined.result r.form r.rest (omega (arith, first-next a.text.now))
    r.ensures.factor (c.joined.ensures ∙ ap (λ (zero : Form). joined (forms a.m largest_unknown) 45 zero r.form) c.zero.ensures)

pub factor-returns-in-120-clause-factor : goal.factor-returns-in-120-clause-factor
factor-returns-in-120-clause-factor t c =
    let a = c.args in
    factor-unknown a.text.now a.m c.unknown.result (omega (arith, first-next a.text.now))
    (rw rest-tail at (c.unknown.ensures.value a.m))

pub factor-returns-in_default-clause-factor : goal.factor-returns-in_default-clause-factor
factor-returns-in_default-clause-factor t c =
    let text = c.args.text.now in
    let other : (next text ≡ 40 → ⊥) × (next text ≡ 45 → ⊥) × (next text ≡ 120 → ⊥) =
    elim c.in_default.branch [
      | factor-in_default-via-then-text-lt1 w ↦
          let none : length text < 1 = grind (arith, nat_tests) in
          (λ e. omega (arith, inside text 39 e), λ e. omega (arith, inside text 44 e), λ e. omega (arith, inside text 119 e))
      | factor-in_default-via-else-text-lt1+in_default-1 w ↦
          (λ e. omega (arith, first-next text), λ e. omega (arith, first-next text), λ e. omega (arith, first-next text))
    ] in
    factor-number text c.args.m c.number.result other.0 other.1 other.2 c.number.ensures.value
