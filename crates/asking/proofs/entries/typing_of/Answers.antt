-- `entries::typing_of` meets its contract: 4 is asked first, 5 last, and what stands between them the reader asks.
use mathlib.Core.Path.{◌≡◌, ap, ◌∙◌}
use mathlib.Core.Bool.{true}
use mathlib.Core.List.{[], ◌∷◌}
use Prim.Native.Nat.{ℕ}
use native.Mathlib.Omega.{arith}
use lib.Dec.{ltb}
use lib.ListN.{length}
use Rattle.std.proofs.lemmas.Result.{IfOk-from_err}
use Rattle.questions.specs.Questions.{asks}
use Rattle.questions.proofs.Ladder.{let_in, turned_by, answered, turned_among, let_in_all, refused_is}
use Rattle.ledger.specs.Ledger.{is_opened, lines_in, most_equations}
use Rattle.ledger.specs.Questions.{refusal_of}
use Rattle.asking.proofs.Asked.{of_text, by_unknowns}
use Rattle.asking.proofs.entries.typing_of.Goals as goal

pub returns-in_err-ask : goal.returns-in_err-ask
unfolding refusal_of
returns-in_err-ask c =
    let out = c.from_residual in record {
      refusal_value = (λ l sees. refused_is out.result _ out.ensures.1 (turned_by 4 sees.opened _ _ c.in_err-ask.ensures));
      line_value = IfOk-from_err out.result _ out.ensures.0;
    }

pub returns-in_err-line : goal.returns-in_err-line
unfolding refusal_of
returns-in_err-line c =
    let out = c.from_residual-in_err-line in
    let text = c.args.text.now in record {
      refusal_value = (λ l sees.
          let opened : is_opened l ≡ true = let_in 4 sees.opened (omega arith) c.in_ok-ask.ensures in
          let last = asks 5 (ltb (length (lines_in l)) most_equations) ∷ [] in
          refused_is out.result _ out.ensures.1
          (rw opened (turned_among _ (of_text text _) last (c.in_err-line.ensures.refusal_value ∙ by_unknowns text sees))));
      line_value = IfOk-from_err out.result _ out.ensures.0;
    }

pub returns-in_err-ask-2 : goal.returns-in_err-ask-2
unfolding refusal_of
returns-in_err-ask-2 c =
    let out = c.from_residual-in_err-ask-2 in
    let text = c.args.text.now in record {
      refusal_value = (λ l sees.
          let opened : is_opened l ≡ true = let_in 4 sees.opened (omega arith) c.in_ok-ask.ensures in
          let last = asks 5 (ltb (length (lines_in l)) most_equations) ∷ [] in
          refused_is out.result _ out.ensures.1
          (rw opened
          (turned_by 5 (ap (λ (k : ℕ). ltb k most_equations) sees.held) _ _ c.in_err-ask-2.ensures
          ∙ let_in_all (of_text text _) last tt (c.in_ok-line.ensures.refusal_value ∙ by_unknowns text sees))));
      line_value = IfOk-from_err out.result _ out.ensures.0;
    }

pub returns : goal.returns
unfolding refusal_of
returns c =
    let text = c.args.text.now in record {
      refusal_value = (λ l sees.
          let opened : is_opened l ≡ true = let_in 4 sees.opened (omega arith) c.in_ok-ask.ensures in
          let last = asks 5 (ltb (length (lines_in l)) most_equations) ∷ [] in
          rw opened
          (answered 5 (ap (λ (k : ℕ). ltb k most_equations) sees.held) c.in_ok-ask-2.ensures
          ∙ let_in_all (of_text text _) last tt (c.in_ok-line.ensures.refusal_value ∙ by_unknowns text sees)));
      line_value = c.in_ok-line.ensures.line_value;
    }
