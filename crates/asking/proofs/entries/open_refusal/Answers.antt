-- `entries::open_refusal` meets its contract: it asks the questions in their order. With room for one word more than an opening
-- has, the kinds tell the shape; where it is right, the numbers of both words are seen.
use mathlib.Core.Path.{◌≡◌, ap, ◌∙◌}
use mathlib.Core.Bool.{true}
use mathlib.Core.List.{List, [], ◌∷◌}
use Prim.Native.Nat.{ℕ, ◌<◌}
use native.Mathlib.Omega.{arith}
use lib.ListN.{take, get_or}
use Rattle.slices.specs.Over.{over}
use Rattle.questions.specs.Questions.{allowed_modulus}
use Rattle.questions.proofs.Ladder.{let_in, turned_by, answered, refused_is}
use Rattle.words.specs.Words.{words_in, numbers_of, modulus_kind, unknowns_kind}
use Rattle.words.proofs.Words.{kind_of, number_of}
use Rattle.words.proofs.Unpacked.{kinds_seen, part_seen}
use Rattle.ledger.specs.Questions.{allowed_unknowns, refusal_of}
use Rattle.ledger.specs.Shapes.{number_at, is_opening}
use Rattle.ledger.proofs.Shapes.{opening_length}
use Rattle.asking.specs.Sees.{opening_room}
use Rattle.asking.proofs.entries.open_refusal.Goals as goal

-- the number of a word of an opening is the one that is seen
seen : (ws old : List ℕ) {new : List ℕ} → new ≡ over (take opening_room (numbers_of (words_in ws))) old → is_opening (words_in ws) ≡ true
    → (k : ℕ) → k < 2 → get_or new k 0 ≡ number_at (words_in ws) k
seen ws old after opening k small =
    part_seen number_of opening_room ws old after k (omega arith) (omega (arith, opening_length (words_in ws) opening))

pub returns-in_err-ask : goal.returns-in_err-ask
unfolding refusal_of
returns-in_err-ask c = record {
  value = refused_is c.from_residual.result _ c.from_residual.ensures.1 (turned_by 17 c.tops_fit.ensures _ _ c.in_err-ask.ensures);
  numbers_after = c.unpack_into-count.ensures.numbers_after;
}

pub returns-in_err-ask-2 : goal.returns-in_err-ask-2
unfolding refusal_of
returns-in_err-ask-2 c =
    let u = c.unpack_into-count in
    let out = c.from_residual-in_err-ask-2 in
    let tops = let_in 17 c.tops_fit.ensures (omega arith) c.in_ok-ask.ensures in
    let kinds =
    kinds_seen kind_of opening_room c.args.words.now _ u.ensures.kinds_after u.ensures.value (modulus_kind ∷ unknowns_kind ∷ []) (omega arith) in record {
      value = refused_is out.result _ out.ensures.1 (rw tops (turned_by 1 (c.is_opening.ensures ∙ kinds) _ _ c.in_err-ask-2.ensures));
      numbers_after = u.ensures.numbers_after;
    }

pub returns-in_err-ask-3 : goal.returns-in_err-ask-3
unfolding refusal_of
returns-in_err-ask-3 c =
    let u = c.unpack_into-count in
    let out = c.from_residual-in_err-ask-3 in
    let ws = c.args.words.now in
    let tops = let_in 17 c.tops_fit.ensures (omega arith) c.in_ok-ask.ensures in
    let kinds = kinds_seen kind_of opening_room ws _ u.ensures.kinds_after u.ensures.value (modulus_kind ∷ unknowns_kind ∷ []) (omega arith) in
    let shape : is_opening (words_in ws) ≡ true = let_in 1 (c.is_opening.ensures ∙ kinds) (omega arith) c.in_ok-ask-2.ensures in
    let modulus = c.is_modulus.ensures ∙ ap allowed_modulus (seen ws _ u.ensures.numbers_after shape 0 (omega arith)) in record {
      value = refused_is out.result _ out.ensures.1 (rw (tops, shape) (turned_by 2 modulus _ _ c.in_err-ask-3.ensures));
      numbers_after = u.ensures.numbers_after;
    }

pub returns : goal.returns
unfolding refusal_of
returns c =
    let u = c.unpack_into-count in
    let ws = c.args.words.now in
    let tops = let_in 17 c.tops_fit.ensures (omega arith) c.in_ok-ask.ensures in
    let kinds = kinds_seen kind_of opening_room ws _ u.ensures.kinds_after u.ensures.value (modulus_kind ∷ unknowns_kind ∷ []) (omega arith) in
    let shape : is_opening (words_in ws) ≡ true = let_in 1 (c.is_opening.ensures ∙ kinds) (omega arith) c.in_ok-ask-2.ensures in
    let number = seen ws _ u.ensures.numbers_after shape in
    let modulus : allowed_modulus (number_at (words_in ws) 0) ≡ true =
    let_in 2 (c.is_modulus.ensures ∙ ap allowed_modulus (number 0 (omega arith))) (omega arith) c.in_ok-ask-3.ensures in record {
      value = rw (tops, shape, modulus) (answered 3 (c.are_unknowns.ensures ∙ ap allowed_unknowns (number 1 (omega arith))) c.ask-4.ensures);
      numbers_after = u.ensures.numbers_after;
    }
