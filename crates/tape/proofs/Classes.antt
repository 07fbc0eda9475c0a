-- The claims of a class on tape, `class_marks`: where each begins with a head, the calls are the marks of these claims.
use mathlib.Core.Path.{◌≡◌, refl, sym, ap, subst, ◌∙◌}
use mathlib.Core.List.{List, [], ◌∷◌, map}
use Prim.Native.Nat.{ℕ, zero, suc, ◌≤◌, ◌<◌}
use native.Mathlib.Nat.{le_refl}
use native.Mathlib.Omega.{arith}
use lib.Dec.{T, eqb→eq}
use lib.ListN.{length, take, length-drop}
use mir.Facts.{and_yes}
use Rattle.equations.specs.Lists.{every}
use Rattle.words.specs.declared.unpacking.Word.{Word}
use Rattle.words.specs.Words.{words_in, head_kind}
use Rattle.words.specs.Fronts.{first_of, first_word, front_length, front_some}
use Rattle.words.proofs.Fronts.{front_words}
use Rattle.ledger.specs.Ledger.{Ledger, unknowns_of}
use Rattle.ledger.specs.Classes.{claim_words, first_claim, behind_claim, claims_in, claims_none, claim_takes, claims_first}
use Rattle.ledger.specs.Calls.{Call, marks, queries}
use Rattle.ledger.specs.History.{enter}
use Rattle.tape.specs.FirstCall.{first_call, behind_first}
use Rattle.tape.specs.Calls.{calls_on, calls-none, calls-first}
use Rattle.tape.specs.Promises.{has_head}

module _ (l : Ledger) where
  abbrev n : ℕ
  n = unknowns_of l

  abbrev marked : List (List ℕ) → List Call
  marked claims = map (λ (claim : List ℕ). queries (marks claim)) claims

  -- a first word of kind 5 picks a mark, of as many words as the class has for it
  head_first : (ws : List ℕ) → (first_word ws).kind ≡ head_kind
      → (first_call l ws ≡ queries (marks (first_claim n ws))) × (behind_first l ws ≡ behind_claim n ws)
  unfolding first_call behind_first
  head_first ws is = (rw is, rw is)

  -- a claim begins with the word that stood there
  same_first : (k : ℕ) (words : List Word) → 0 < k → first_of (take k words) ≡ first_of words
  same_first zero words some = absurd (omega arith)
  same_first (suc k) [] some = refl
  same_first (suc k) (w ∷ words) some = refl

  same_head : (ws : List ℕ) → first_word (first_claim n ws) ≡ first_word ws
  same_head ws =
      let k = claim_words n (first_word ws) in
      ap first_of (front_words k ws) ∙ same_first k (words_in ws) (claim_takes n (first_word ws))

  step : (ws : List ℕ) → 0 < length ws → (first_word ws).kind ≡ head_kind
      → calls_on l ws ≡ queries (marks (first_claim n ws)) ∷ calls_on l (behind_claim n ws)
  unfolding enter
  step ws some is =
      let first = head_first ws is in
      calls-first l ws some
      ∙ ap (λ (c : Call). c ∷ calls_on (enter l c) (behind_first l ws)) first.0
      ∙ ap (λ (rest : List ℕ). queries (marks (first_claim n ws)) ∷ calls_on l rest) first.1

  no_claims : calls_on l [] ≡ marked (claims_in n [])
  no_claims = calls-none l ∙ sym (ap marked (claims_none n))

  within : (f : ℕ) (ws : List ℕ) → length ws ≤ f → T (every has_head (claims_in n ws)) → calls_on l ws ≡ marked (claims_in n ws)
  within zero [] h heads = no_claims
  within zero (w ∷ ws) h heads = absurd (omega arith)
  within (suc f) [] h heads = no_claims
  within (suc f) (w ∷ ws) h heads =
      let all = claims_first n (w ∷ ws) (omega arith) in
      let both =
      and_yes (has_head (first_claim n (w ∷ ws))) (every has_head (claims_in n (behind_claim n (w ∷ ws))))
      (subst (λ (claims : List (List ℕ)). T (every has_head claims)) all heads) in
      let is = ap (λ (first : Word). first.kind) (sym (same_head (w ∷ ws))) ∙ eqb→eq _ head_kind both.0 in
      let k = claim_words n (first_word (w ∷ ws)) in
      let fewer : length (behind_claim n (w ∷ ws)) ≤ f =
      omega (
        arith,
        length-drop (front_length k (w ∷ ws)) (w ∷ ws),
        front_some k w ws (claim_takes n (first_word (w ∷ ws))),
      ) in
      step (w ∷ ws) (omega arith) is
      ∙ ap (λ (calls : List Call). queries (marks (first_claim n (w ∷ ws))) ∷ calls) (within f (behind_claim n (w ∷ ws)) fewer both.1)
      ∙ sym (ap marked all)

  pub class_marks : (ws : List ℕ) → T (every has_head (claims_in (unknowns_of l) ws))
      → calls_on l ws ≡ map (λ (claim : List ℕ). queries (marks claim)) (claims_in (unknowns_of l) ws)
  class_marks ws heads = within (length ws) ws (le_refl (length ws)) heads
