-- A mark is right: what demand 3 says of it.
--   marked-accepted    an accepted claim gets its mark,
--   mark-accepted, mark_refused   and what is said tells whether it is accepted, or why not
--   well_accepted      a well-formed claim is accepted
--   claim_tells        what shows the three marks apart tells whether the claim describes the solutions of the ledger's lines, and whether
--                      a step is superfluous
--   right-mark         so it is marked
--   own_mark           an answer's own words, where there is a solution, pass or are long
use mathlib.Core.Path.{◌≡◌, refl}
use mathlib.Core.Logic.{◌↔◌}
use mathlib.Core.List.{List}
use mathlib.Core.Option.{some}
use Prim.Native.Nat.{ℕ, ◌<◌, ◌≤◌}
use native.Mathlib.Omega.{arith}
use lib.Dec.{T}
use Rattle.std.specs.Prelude.{Result, Ok, Err}
use Rattle.questions.specs.Questions.{largest_modulus}
use Rattle.questions.proofs.Results.{gives-ok, gives-err}
use Rattle.equations.specs.declared.Mark.{Mark}
use Rattle.equations.specs.Line.{Line, Moduli, line_start, line_is_right, line_mark}
use Rattle.equations.specs.Multipliers.{all_below}
use Rattle.equations.proofs.Truth.{true_of}
use Rattle.equations.proofs.Marks.{Apart, mark_tells}
use Rattle.equations.proofs.LineAnswer.{line_right_described}
use Rattle.equations.proofs.LinePromises.{line_own_answer}
use Rattle.system.proofs.Claims.{claim_described}
use Rattle.words.specs.Words.{words_in}
use Rattle.ledger.specs.Ledger.{Ledger, opened}
use Rattle.ledger.specs.Shapes.{is_claim, entries_of, claim_from}
use Rattle.ledger.specs.Block.{answer_words}
use Rattle.ledger.specs.Marking.{claim_mark}
use Rattle.ledger.specs.Calls.{marks, queries}
use Rattle.ledger.specs.Questions.{refusal_of}
use Rattle.ledger.proofs.Shapes.{claimed}
use Rattle.ledger.proofs.Refusals.{marks-accepted}
use Rattle.ledger.proofs.Own.{own_shape, own_entries, own_claim}
use Rattle.sheet.specs.Calls.{marked_of}
use Rattle.sheet.specs.Promises.{WellFormed, DescribesSolutions, RightMark, OwnMark}

pub marked-accepted : (l : Ledger) (ws : List ℕ) → refusal_of l (queries (marks ws)) ≡ 0 → marked_of l ws ≡ Ok (claim_mark l ws)
unfolding marked_of
marked-accepted l ws accepted = rw accepted

module _ (l : Ledger) (ws : List ℕ) where
  abbrev asked : ℕ
  asked = refusal_of l (queries (marks ws))

  pub mark-accepted : {mark : Mark} → marked_of l ws ≡ Ok mark → refusal_of l (queries (marks ws)) ≡ 0
  unfolding marked_of
  mark-accepted is = (gives-ok asked (claim_mark l ws) is).0

  pub mark_refused : {k : ℕ} → marked_of l ws ≡ Err k → (refusal_of l (queries (marks ws)) ≡ k) × (k ≡ 0 → ⊥)
  unfolding marked_of
  mark_refused is = gives-err asked (claim_mark l ws) is

gets_apart : Apart {A = Result Mark ℕ} Ok
gets_apart = record {
  pass_fail = λ same. let z : ◌≡◌ {A = ℕ} 0 1 = cc in omega arith;
  long_fail = λ same. let z : ◌≡◌ {A = ℕ} 0 1 = cc in omega arith;
  pass-long = λ same. let z : ◌≡◌ {A = ℕ} 0 1 = cc in omega arith;
}

module _ (m n : ℕ) (ls : List Line) where
  pub well_accepted : (ws : List ℕ) → WellFormed m n ws → refusal_of (opened m n ls) (queries (marks ws)) ≡ 0
  well_accepted ws well =
      marks-accepted (opened m n ls) refl ws (true_of (is_claim n (words_in ws)) well.0)
      (true_of (all_below m (entries_of (words_in ws))) well.1)

  well_described : 0 < m → (ws : List ℕ) → WellFormed m n ws
      → T (line_is_right m n ls (claim_from n (words_in ws))) ↔ DescribesSolutions m n ls (claim_from n (words_in ws))
  well_described pos ws well =
      line_right_described m n ls (claim_from n (words_in ws))
      (claim_described m n (entries_of (words_in ws)) pos (claimed n (words_in ws) well.0 m well.1))

  -- of a well-formed claim
  pub claim_tells : 0 < m → (ws : List ℕ) → WellFormed m n ws → {A : Type 0} (shown : Mark → A) → Apart shown
      → RightMark shown m n ls (claim_from n (words_in ws)) (shown (claim_mark (opened m n ls) ws))
  unfolding line_mark
  claim_tells pos ws well shown apart =
      let claim = claim_from n (words_in ws) in
      mark_tells shown apart m n claim (line_is_right m n ls claim) (well_described pos ws well)

  pub right-mark : 0 < m → (ws : List ℕ) → WellFormed m n ws
      → RightMark Ok m n ls (claim_from n (words_in ws)) (marked_of (opened m n ls) ws)
  right-mark pos ws well =
      rw (marked-accepted (opened m n ls) ws (well_accepted ws well)) (claim_tells pos ws well Ok gets_apart)

  pub own_mark : 0 < m → Moduli m ls → m ≤ largest_modulus → 0 < n → n ≤ 16 → (c : List ℕ) → line_start m n ls ≡ some c
      → OwnMark (marked_of (opened m n ls) (answer_words (opened m n ls)))
  own_mark pos moduli largest one unknowns c start =
      let words = answer_words (opened m n ls) in
      let well : WellFormed m n words =
      (own_shape m n pos ls moduli largest c start unknowns, own_entries m n pos ls moduli largest c start unknowns) in
      (right-mark pos words well).right.1
      ((well_described pos words well).0
      (rw (own_claim m n pos ls moduli largest c start unknowns one) ((line_own_answer m n ls pos moduli).0 c start)))
