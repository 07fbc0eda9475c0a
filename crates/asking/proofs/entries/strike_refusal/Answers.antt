-- `entries::strike_refusal` meets its contract: it asks the questions in their order, each of what is seen or of the place.
use mathlib.Core.Path.{◌≡◌, ap}
use mathlib.Core.Bool.{true}
use Prim.Native.Nat.{ℕ}
use native.Mathlib.Omega.{arith}
use lib.Dec.{leb, ltb}
use lib.ListN.{length}
use Rattle.questions.proofs.Ladder.{let_in, turned_by, answered, refused_is}
use Rattle.ledger.specs.Ledger.{is_opened, lines_in}
use Rattle.ledger.specs.Questions.{refusal_of}
use Rattle.asking.proofs.entries.strike_refusal.Goals as goal

pub returns-in_err-ask : goal.returns-in_err-ask
unfolding refusal_of
returns-in_err-ask c =
    λ l sees. refused_is c.from_residual.result _ c.from_residual.ensures.1 (turned_by 4 sees.opened _ _ c.in_err-ask.ensures)

pub returns-in_err-ask-2 : goal.returns-in_err-ask-2
unfolding refusal_of
returns-in_err-ask-2 c =
    λ l sees.
    let opened : is_opened l ≡ true = let_in 4 sees.opened (omega arith) c.in_ok-ask.ensures in
    let out = c.from_residual-in_err-ask-2 in
    refused_is out.result _ out.ensures.1 (rw opened (turned_by 7 (ap (λ (k : ℕ). ltb 0 k) sees.held) _ _ c.in_err-ask-2.ensures))

pub returns : goal.returns
unfolding refusal_of
returns c =
    λ l sees.
    let opened : is_opened l ≡ true = let_in 4 sees.opened (omega arith) c.in_ok-ask.ensures in
    let some : ltb 0 (length (lines_in l)) ≡ true = let_in 7 (ap (λ (k : ℕ). ltb 0 k) sees.held) (omega arith) c.in_ok-ask-2.ensures in
    rw (opened, some) (answered 16 (ap (leb c.args.place) sees.held) c.ask-3.ensures)
