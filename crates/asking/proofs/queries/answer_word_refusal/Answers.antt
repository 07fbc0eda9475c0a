-- `queries::answer_word_refusal` meets its contract: it asks the questions in their order, of what is seen and of the word's number.
use mathlib.Core.Path.{◌≡◌, refl}
use mathlib.Core.Bool.{true}
use native.Mathlib.Omega.{arith}
use Rattle.questions.proofs.Ladder.{let_in, turned_by, answered, refused_is}
use Rattle.ledger.specs.Ledger.{is_opened}
use Rattle.ledger.specs.Questions.{refusal_of}
use Rattle.asking.proofs.queries.answer_word_refusal.Goals as goal

pub returns-in_err-ask : goal.returns-in_err-ask
unfolding refusal_of
returns-in_err-ask c =
    λ l sees. refused_is c.from_residual.result _ c.from_residual.ensures.1 (turned_by 4 sees.opened _ _ c.in_err-ask.ensures)

pub returns : goal.returns
unfolding refusal_of
returns c =
    λ l sees.
    let opened : is_opened l ≡ true = let_in 4 sees.opened (omega arith) c.in_ok-ask.ensures in
    rw opened (answered 1 refl c.ask-2.ensures)
