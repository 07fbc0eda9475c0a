-- `adding::adding_of` meets its contract: 4 is asked first, and then 17 of all words; with room for one word more than an equation has, the kinds behind a
-- modulus of its own tell the shape, 15 is asked of this modulus, and 5 last.
use mathlib.Core.Path.{◌≡◌, refl, ap, ◌∙◌}
use mathlib.Core.Bool.{Bool, true, cond}
use mathlib.Core.List.{List, [], ◌∷◌, ◌++◌}
use Prim.Native.Nat.{ℕ, ◌≤◌, min}
use native.Mathlib.Omega.{arith}
use lib.Dec.{ltb}
use lib.ListN.{length, take, replicate}
use Rattle.std.proofs.lemmas.Result.{IfOk-from_err}
use Rattle.slices.specs.Over.{over}
use Rattle.slices.proofs.Parts.{lent}
use Rattle.questions.specs.Questions.{allowed_own}
use Rattle.questions.proofs.Ladder.{number_some, let_in, turned_by, answered, refused_is}
use Rattle.equations.specs.Vectors.{same_vector}
use Rattle.equations.proofs.Truth.{of_true, true_of}
use Rattle.words.specs.declared.unpacking.Word.{Word}
use Rattle.words.specs.Words.{words_in, tops_fit, coefficient_kind, right_kind}
use Rattle.words.specs.Signs.{plain_kinds_of, residues_of}
use Rattle.words.proofs.Words.{plain_kind_of}
use Rattle.words.proofs.Unpacked.{kinds_seen}
use Rattle.ledger.specs.Ledger.{Ledger, is_opened, modulus_of, unknowns_of, most_unknowns, most_equations}
use Rattle.ledger.specs.Questions.{refusal_of}
use Rattle.ledger.specs.Shapes.{is_equation, own_modulus, equation_words}
use Rattle.ledger.proofs.Shapes.{equation_kinds}
use Rattle.asking.specs.declared.Seen.{Seen}
use Rattle.asking.specs.Sees.{Sees, equation_room, used_modulus}
use Rattle.asking.proofs.Owned.{used_own, behind_own}
use Rattle.asking.proofs.adding.adding_of.Goals as goal

-- ---- what is seen of the words, on plain values

module _ (seen : Seen) (ws : List ℕ) {allowed : Bool} {q : ℕ} (allowed_is : allowed ≡ allowed_own seen.modulus (own_modulus seen.modulus (words_in ws)))
    (q_is : q ≡ cond allowed (own_modulus seen.modulus (words_in ws)) seen.modulus) where
  used_is : q ≡ used_modulus seen.modulus (words_in ws)
  used_is = q_is ∙ ap (λ (b : Bool). cond b (own_modulus seen.modulus (words_in ws)) seen.modulus) allowed_is

  -- the line holds the residues by this modulus
  line_is : (behind : ℕ) → words_in (lent behind ws) ≡ equation_words (words_in ws) → (old : List ℕ) {new : List ℕ}
      → new ≡ over (take equation_room (residues_of q (words_in (lent behind ws)))) old
      → new ≡ over (take equation_room (residues_of (used_modulus seen.modulus (words_in ws)) (equation_words (words_in ws)))) old
  line_is behind words old after =
      after ∙ ap (λ (vs : List Word). over (take equation_room (residues_of q vs)) old) words
      ∙ ap (λ (k : ℕ). over (take equation_room (residues_of k (equation_words (words_in ws)))) old) used_is

-- the shape that the kinds tell is that of the equation's words
shape_is : (seen : Seen) (ws : List ℕ) (behind : ℕ) → seen.unknowns ≤ most_unknowns → words_in (lent behind ws) ≡ equation_words (words_in ws)
    → {count : ℕ} (old : List ℕ) {new : List ℕ} {shape : Bool}
    → new ≡ over (take equation_room (plain_kinds_of (words_in (lent behind ws)))) old → count ≡ min equation_room (length (words_in (lent behind ws)))
    → shape ≡ same_vector (take count new) (replicate seen.unknowns coefficient_kind ++ (right_kind ∷ []))
    → (l : Ledger) → Sees l seen → shape ≡ is_equation (unknowns_of l) (equation_words (words_in ws))
shape_is seen ws behind few words old kinds count shape l sees =
    shape
    ∙ kinds_seen plain_kind_of equation_room (lent behind ws) old kinds count (replicate seen.unknowns coefficient_kind ++ (right_kind ∷ []))
    (omega (arith, equation_kinds seen.unknowns))
    ∙ ap (is_equation seen.unknowns) words
    ∙ ap (λ (n : ℕ). is_equation n (equation_words (words_in ws))) sees.unknowns

-- the question of the modulus
divides_is : (seen : Seen) (ws : List ℕ) {allowed : Bool} → allowed ≡ allowed_own seen.modulus (own_modulus seen.modulus (words_in ws))
    → (l : Ledger) → Sees l seen → allowed ≡ allowed_own (modulus_of l) (own_modulus (modulus_of l) (words_in ws))
divides_is seen ws is l sees = is ∙ ap (λ (m : ℕ). allowed_own m (own_modulus m (words_in ws))) sees.modulus

-- ---- the answers

pub returns-in_err-ask : goal.returns-in_err-ask
unfolding refusal_of
returns-in_err-ask c =
    let out = c.from_residual in record {
      refusal_value = (λ l sees. refused_is out.result _ out.ensures.1 (turned_by 4 sees.opened _ _ c.in_err-ask.ensures));
      modulus_value = IfOk-from_err out.result _ out.ensures.0;
      line_after = λ opened.
          let no = turned_by 4 (true_of c.args.seen.opened opened) _ 0 c.in_err-ask.ensures in
          absurd (omega (arith, no, number_some c.in_err-ask.field-0.0));
    }

pub returns-in_err-ask-2 : goal.returns-in_err-ask-2
unfolding refusal_of
returns-in_err-ask-2 c =
    let u = c.residues_into-count in
    let own = c.own_of-own in
    let seen = c.args.seen in
    let ws = c.args.words.now in
    let words = behind_own ws own.result.behind own.ensures.behind_value.0 in
    let out = c.from_residual-in_err-ask-2 in record {
      refusal_value = (λ l sees.
          let opened : is_opened l ≡ true = let_in 4 sees.opened (omega arith) c.in_ok-ask.ensures in
          refused_is out.result _ out.ensures.1 (rw opened (turned_by 17 c.tops_fit.ensures _ _ c.in_err-ask-2.ensures)));
      modulus_value = IfOk-from_err out.result _ out.ensures.0;
      line_after = λ yes. line_is seen ws own.ensures.allowed_value own.ensures.modulus_value _ words _ u.ensures.residues_after;
    }

pub returns-in_err-ask-3 : goal.returns-in_err-ask-3
unfolding refusal_of
returns-in_err-ask-3 c =
    let u = c.residues_into-count in
    let own = c.own_of-own in
    let seen = c.args.seen in
    let ws = c.args.words.now in
    let words = behind_own ws own.result.behind own.ensures.behind_value.0 in
    let out = c.from_residual-in_err-ask-3 in record {
      refusal_value = (λ l sees.
          let opened : is_opened l ≡ true = let_in 4 sees.opened (omega arith) c.in_ok-ask.ensures in
          let tops : tops_fit (words_in ws) ≡ true = let_in 17 c.tops_fit.ensures (omega arith) c.in_ok-ask-2.ensures in
          refused_is out.result _ out.ensures.1
          (rw (opened, tops)
          (turned_by 1 (shape_is seen ws _ c.requires.0 words _ u.ensures.kinds_after u.ensures.value c.is_equation.ensures l sees) _ _ c.in_err-ask-3.ensures)));
      modulus_value = IfOk-from_err out.result _ out.ensures.0;
      line_after = λ yes. line_is seen ws own.ensures.allowed_value own.ensures.modulus_value _ words _ u.ensures.residues_after;
    }

pub returns-in_err-ask-4 : goal.returns-in_err-ask-4
unfolding refusal_of
returns-in_err-ask-4 c =
    let u = c.residues_into-count in
    let own = c.own_of-own in
    let seen = c.args.seen in
    let ws = c.args.words.now in
    let words = behind_own ws own.result.behind own.ensures.behind_value.0 in
    let out = c.from_residual-in_err-ask-4 in record {
      refusal_value = (λ l sees.
          let opened : is_opened l ≡ true = let_in 4 sees.opened (omega arith) c.in_ok-ask.ensures in
          let tops : tops_fit (words_in ws) ≡ true = let_in 17 c.tops_fit.ensures (omega arith) c.in_ok-ask-2.ensures in
          let shape : is_equation (unknowns_of l) (equation_words (words_in ws)) ≡ true =
          let_in 1 (shape_is seen ws _ c.requires.0 words _ u.ensures.kinds_after u.ensures.value c.is_equation.ensures l sees) (omega arith)
          c.in_ok-ask-3.ensures in
          refused_is out.result _ out.ensures.1
          (rw (opened, tops, shape) (turned_by 15 (divides_is seen ws own.ensures.allowed_value l sees) _ _ c.in_err-ask-4.ensures)));
      modulus_value = IfOk-from_err out.result _ out.ensures.0;
      line_after = λ yes. line_is seen ws own.ensures.allowed_value own.ensures.modulus_value _ words _ u.ensures.residues_after;
    }

pub returns-in_err-ask-5 : goal.returns-in_err-ask-5
unfolding refusal_of
returns-in_err-ask-5 c =
    let u = c.residues_into-count in
    let own = c.own_of-own in
    let seen = c.args.seen in
    let ws = c.args.words.now in
    let words = behind_own ws own.result.behind own.ensures.behind_value.0 in
    let out = c.from_residual-in_err-ask-5 in record {
      refusal_value = (λ l sees.
          let opened : is_opened l ≡ true = let_in 4 sees.opened (omega arith) c.in_ok-ask.ensures in
          let tops : tops_fit (words_in ws) ≡ true = let_in 17 c.tops_fit.ensures (omega arith) c.in_ok-ask-2.ensures in
          let shape : is_equation (unknowns_of l) (equation_words (words_in ws)) ≡ true =
          let_in 1 (shape_is seen ws _ c.requires.0 words _ u.ensures.kinds_after u.ensures.value c.is_equation.ensures l sees) (omega arith)
          c.in_ok-ask-3.ensures in
          let divides : allowed_own (modulus_of l) (own_modulus (modulus_of l) (words_in ws)) ≡ true =
          let_in 15 (divides_is seen ws own.ensures.allowed_value l sees) (omega arith) c.in_ok-ask-4.ensures in
          refused_is out.result _ out.ensures.1
          (rw (opened, tops, shape, divides) (turned_by 5 (ap (λ (k : ℕ). ltb k most_equations) sees.held) _ _ c.in_err-ask-5.ensures)));
      modulus_value = IfOk-from_err out.result _ out.ensures.0;
      line_after = λ yes. line_is seen ws own.ensures.allowed_value own.ensures.modulus_value _ words _ u.ensures.residues_after;
    }

pub returns : goal.returns
unfolding refusal_of
returns c =
    let u = c.residues_into-count in
    let own = c.own_of-own in
    let seen = c.args.seen in
    let ws = c.args.words.now in
    let words = behind_own ws own.result.behind own.ensures.behind_value.0 in
    let allowed : own.result.allowed ≡ true = let_in 15 refl (omega arith) c.in_ok-ask-4.ensures in record {
      refusal_value = (λ l sees.
          let opened : is_opened l ≡ true = let_in 4 sees.opened (omega arith) c.in_ok-ask.ensures in
          let tops : tops_fit (words_in ws) ≡ true = let_in 17 c.tops_fit.ensures (omega arith) c.in_ok-ask-2.ensures in
          let shape : is_equation (unknowns_of l) (equation_words (words_in ws)) ≡ true =
          let_in 1 (shape_is seen ws _ c.requires.0 words _ u.ensures.kinds_after u.ensures.value c.is_equation.ensures l sees) (omega arith)
          c.in_ok-ask-3.ensures in
          let divides : allowed_own (modulus_of l) (own_modulus (modulus_of l) (words_in ws)) ≡ true =
          let_in 15 (divides_is seen ws own.ensures.allowed_value l sees) (omega arith) c.in_ok-ask-4.ensures in
          rw (opened, tops, shape, divides) (answered 5 (ap (λ (k : ℕ). ltb k most_equations) sees.held) c.in_ok-ask-5.ensures));
      modulus_value = own.ensures.modulus_value ∙ used_own seen.modulus _ own.result.allowed (of_true allowed);
      line_after = λ yes. line_is seen ws own.ensures.allowed_value own.ensures.modulus_value _ words _ u.ensures.residues_after;
    }
