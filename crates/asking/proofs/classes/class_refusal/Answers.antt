-- `classes::class_refusal` meets its contract: it asks the questions in their order, of what is seen and of the number of claims.
use mathlib.Core.Path.{◌≡◌}
use mathlib.Core.Bool.{true}
use native.Mathlib.Omega.{arith}
use lib.Dec.{leb}
use lib.ListN.{length}
use Rattle.questions.proofs.Ladder.{let_in, turned_by, answered, refused_is}
use Rattle.ledger.specs.Ledger.{is_opened, unknowns_of}
use Rattle.ledger.specs.Classes.{most_claims, claims_in}
use Rattle.ledger.specs.Questions.{refusal_of}
use Rattle.asking.proofs.Classed.{few_asked, room_asked}
use Rattle.asking.proofs.classes.class_refusal.Goals as goal

pub returns-in_err-ask : goal.returns-in_err-ask
unfolding refusal_of
returns-in_err-ask c =
    λ l ws marks sees counted lent.
    refused_is c.from_residual.result _ c.from_residual.ensures.1 (turned_by 4 sees.opened _ _ c.in_err-ask.ensures)

pub returns-in_err-ask-2 : goal.returns-in_err-ask-2
unfolding refusal_of
returns-in_err-ask-2 c =
    λ l ws marks sees counted lent.
    let opened : is_opened l ≡ true = let_in 4 sees.opened (omega arith) c.in_ok-ask.ensures in
    let out = c.from_residual-in_err-ask-2 in
    refused_is out.result _ out.ensures.1 (rw opened (turned_by 14 (few_asked ws sees counted) _ _ c.in_err-ask-2.ensures))

pub returns : goal.returns
unfolding refusal_of
returns c =
    λ l ws marks sees counted lent.
    let opened : is_opened l ≡ true = let_in 4 sees.opened (omega arith) c.in_ok-ask.ensures in
    let few : leb (length (claims_in (unknowns_of l) ws)) most_claims ≡ true =
    let_in 14 (few_asked ws sees counted) (omega arith) c.in_ok-ask-2.ensures in
    rw (opened, few) (answered 8 (room_asked ws sees counted few marks lent) c.ask-3.ensures)
