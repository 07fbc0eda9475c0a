-- `equation::read` meets its contract: it asks the questions in their order, each of the forms of both sides.
use mathlib.Core.Path.{◌≡◌, sym, ◌∙◌}
use mathlib.Core.Bool.{true, ◌&&◌}
use native.Mathlib.Omega.{arith}
use lib.Dec.{leb}
use Rattle.std.specs.Prelude.{Some}
use Rattle.std.proofs.lemmas.Bool.Decides.{nat_tests}
use Rattle.questions.proofs.Ladder.{let_in, turned_by, answered, refused_is}
use Rattle.grammar.specs.Texts.{typed_of, is_typed, is_within}
use Rattle.typed.proofs.Whole.{typed_is, within_is, linear_is, line_is}
use Rattle.typed.proofs.equation.read.Goals as goal

pub returns-in_err-ask-clause-refusal_value : goal.returns-in_err-ask-clause-refusal_value
returns-in_err-ask-clause-refusal_value c =
    let x = c.args in
    let text = x.text.now in
    let t = c.in_ok-a in
    let found : c.typed_sides.result ≡ Some (t.a, t.b) = grind arith in
    let forms = sym found ∙ c.typed_sides.ensures in
    let few : c.if-a-n.within ≡ (leb t.a.largest x.n && leb t.b.largest x.n) = grind (arith, nat_tests) in
    let out = c.from_residual-in_err-ask in
    let typed : is_typed text ≡ true = sym (typed_is x.m x.n t.a t.b (typed_of text) forms) in
    refused_is out.result _ out.ensures.1
    (rw typed (turned_by 12 (few ∙ within_is x.m x.n t.a t.b (typed_of text) forms) _ _ c.in_err-ask.ensures))

pub returns-in_err-ask-2-clause-refusal_value : goal.returns-in_err-ask-2-clause-refusal_value
returns-in_err-ask-2-clause-refusal_value c =
    let x = c.args in
    let text = x.text.now in
    let t = c.in_ok-a in
    let found : c.typed_sides.result ≡ Some (t.a, t.b) = grind arith in
    let forms = sym found ∙ c.typed_sides.ensures in
    let few : c.if-a-n.within ≡ (leb t.a.largest x.n && leb t.b.largest x.n) = grind (arith, nat_tests) in
    let flat : c.if-a.ask ≡ (t.a.linear && t.b.linear) = grind (arith, nat_tests) in
    let out = c.from_residual-in_err-ask-2 in
    let typed : is_typed text ≡ true = sym (typed_is x.m x.n t.a t.b (typed_of text) forms) in
    let inside : is_within x.n text ≡ true = let_in 12 (few ∙ within_is x.m x.n t.a t.b (typed_of text) forms) (omega arith) c.in_ok-ask.ensures in
    refused_is out.result _ out.ensures.1
    (rw (typed, inside) (turned_by 13 (flat ∙ linear_is x.m x.n t.a t.b (typed_of text) forms) _ _ c.in_err-ask-2.ensures))

pub returns : goal.returns
returns c =
    let x = c.args in
    let text = x.text.now in
    let t = c.in_ok-a in
    let found : c.typed_sides.result ≡ Some (t.a, t.b) = grind arith in
    let forms = sym found ∙ c.typed_sides.ensures in
    let few : c.if-a-n.within ≡ (leb t.a.largest x.n && leb t.b.largest x.n) = grind (arith, nat_tests) in
    let flat : c.if-a.ask ≡ (t.a.linear && t.b.linear) = grind (arith, nat_tests) in
    let typed : is_typed text ≡ true = sym (typed_is x.m x.n t.a t.b (typed_of text) forms) in
    let inside : is_within x.n text ≡ true = let_in 12 (few ∙ within_is x.m x.n t.a t.b (typed_of text) forms) (omega arith) c.in_ok-ask.ensures in
    record {
      refusal_value = rw (typed, inside) (answered 13 (flat ∙ linear_is x.m x.n t.a t.b (typed_of text) forms) c.in_ok-ask-2.ensures);
      line_value = c.line_of.ensures ∙ line_is x.m x.n t.a t.b (omega arith) (typed_of text) forms;
    }
