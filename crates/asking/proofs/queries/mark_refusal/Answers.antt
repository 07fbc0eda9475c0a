-- `queries::mark_refusal` meets its contract: it asks the questions in their order, each of what is seen. With room for one word
-- more than a claim has, the kinds and the head tell the shape; where it is right, the numbers of all words are seen.
use mathlib.Core.Path.{◌≡◌, ap, ap₂, ◌∙◌}
use mathlib.Core.Bool.{true}
use mathlib.Core.List.{List}
use Prim.Native.Nat.{ℕ}
use native.Mathlib.Omega.{arith}
use lib.ListN.{drop}
use Rattle.questions.proofs.Ladder.{let_in, turned_by, answered, refused_is}
use Rattle.equations.specs.Multipliers.{all_below}
use Rattle.equations.proofs.Truth.{of_true}
use Rattle.words.specs.Words.{words_in, tops_fit}
use Rattle.words.proofs.Words.{number_of}
use Rattle.words.proofs.Unpacked.{parts_seen}
use Rattle.ledger.specs.Ledger.{is_opened, unknowns_of}
use Rattle.ledger.specs.Questions.{refusal_of}
use Rattle.ledger.specs.Shapes.{is_claim}
use Rattle.ledger.proofs.Shapes.{claim_fits}
use Rattle.asking.specs.Sees.{claim_room}
use Rattle.asking.proofs.ClaimSeen.{claim_seen}
use Rattle.asking.proofs.queries.mark_refusal.Goals as goal

pub returns-in_err-ask : goal.returns-in_err-ask
unfolding refusal_of
returns-in_err-ask c = record {
  value = (λ l sees. refused_is c.from_residual.result _ c.from_residual.ensures.1 (turned_by 4 sees.opened _ _ c.in_err-ask.ensures));
  numbers_after = c.unpack_into-count.ensures.numbers_after;
}

pub returns-in_err-ask-2 : goal.returns-in_err-ask-2
unfolding refusal_of
returns-in_err-ask-2 c =
    let out = c.from_residual-in_err-ask-2 in record {
      value = (λ l sees.
          let opened : is_opened l ≡ true = let_in 4 sees.opened (omega arith) c.in_ok-ask.ensures in
          refused_is out.result _ out.ensures.1 (rw opened (turned_by 17 c.tops_fit.ensures _ _ c.in_err-ask-2.ensures)));
      numbers_after = c.unpack_into-count.ensures.numbers_after;
    }

pub returns-in_err-ask-3 : goal.returns-in_err-ask-3
unfolding refusal_of
returns-in_err-ask-3 c =
    let u = c.unpack_into-count in
    let out = c.from_residual-in_err-ask-3 in
    let seen = c.args.seen in
    let ws = c.args.words.now in
    let claim = claim_seen seen.unknowns c.requires.0 ws _ _ u.ensures.value u.ensures.kinds_after u.ensures.numbers_after in record {
      value = (λ l sees.
          let opened : is_opened l ≡ true = let_in 4 sees.opened (omega arith) c.in_ok-ask.ensures in
          let tops : tops_fit (words_in ws) ≡ true = let_in 17 c.tops_fit.ensures (omega arith) c.in_ok-ask-2.ensures in
          let shape = c.is_claim-claim.ensures ∙ claim ∙ ap (λ (n : ℕ). is_claim n (words_in ws)) sees.unknowns in
          refused_is out.result _ out.ensures.1 (rw (opened, tops) (turned_by 1 shape _ _ c.in_err-ask-3.ensures)));
      numbers_after = u.ensures.numbers_after;
    }

pub returns : goal.returns
unfolding refusal_of
returns c =
    let u = c.unpack_into-count in
    let seen = c.args.seen in
    let ws = c.args.words.now in
    let claim = claim_seen seen.unknowns c.requires.0 ws _ _ u.ensures.value u.ensures.kinds_after u.ensures.numbers_after in record {
      value = (λ l sees.
          let opened : is_opened l ≡ true = let_in 4 sees.opened (omega arith) c.in_ok-ask.ensures in
          let tops : tops_fit (words_in ws) ≡ true = let_in 17 c.tops_fit.ensures (omega arith) c.in_ok-ask-2.ensures in
          let shape : is_claim (unknowns_of l) (words_in ws) ≡ true =
          let_in 1 (c.is_claim-claim.ensures ∙ claim ∙ ap (λ (n : ℕ). is_claim n (words_in ws)) sees.unknowns) (omega arith) c.in_ok-ask-3.ensures in
          let few = claim_fits (unknowns_of l) (words_in ws) (of_true shape) (omega (arith, c.requires.0, sees.unknowns)) in
          rw (opened, tops, shape)
          (answered 6
          (c.entries_below-below.ensures
          ∙ ap₂ (λ (m : ℕ) (xs : List ℕ). all_below m (drop 1 xs)) sees.modulus
          (parts_seen number_of claim_room ws _ u.ensures.numbers_after u.ensures.value (omega (arith, few))))
          c.ask-4.ensures));
      numbers_after = u.ensures.numbers_after;
    }
