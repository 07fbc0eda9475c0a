-- What a mark and a reason say.
--   marked_refused         of a refused claim
--   entries_claimed        of an accepted one, whose entries are those of a well-formed claim,
--   marked_as              by the mark of its entries,
--   explained_as           and by their reason
use mathlib.Core.Path.{◌≡◌, sym, ap, ap₂, ◌∙◌}
use mathlib.Core.List.{List}
use Prim.Native.Nat.{ℕ}
use native.Mathlib.Omega.{arith}
use borrow.Author.Tests.{ne_eqb}
use lib.ListN.{length}
use Rattle.std.specs.Prelude.{Result, Ok, Err}
use Rattle.slices.specs.Over.{over}
use Rattle.equations.specs.declared.Mark.{Mark}
use Rattle.equations.specs.Equation.{Equation}
use Rattle.equations.specs.Claim.{Claim}
use Rattle.equations.specs.Marks.{mark_of}
use Rattle.equations.specs.Reasons.{reason_of}
use Rattle.equations.specs.Line.{line_mark, scaled}
use Rattle.equations.specs.LineReasons.{line_reason}
use Rattle.equations.proofs.LineAnswer.{line-mark}
use Rattle.equations.proofs.LineReasons.{line-reason}
use Rattle.system.specs.declared.explaining.Finding.{Finding}
use Rattle.system.specs.Claims.{claim_of, Claimed}
use Rattle.system.specs.Reasons.{shown_with, finding_of}
use Rattle.system.specs.Lines.{line_shown}
use Rattle.system.proofs.Lines.{line-shown}
use Rattle.words.specs.Words.{words_in}
use Rattle.ledger.specs.Ledger.{Ledger, modulus_of, unknowns_of, lines_in}
use Rattle.ledger.specs.Allowed.{Allowed}
use Rattle.ledger.specs.Shapes.{entries_of}
use Rattle.ledger.specs.Calls.{marks, queries}
use Rattle.ledger.specs.Questions.{refusal_of}
use Rattle.asking.specs.declared.Seen.{Seen}
use Rattle.asking.specs.Sees.{Sees}
use Rattle.ledger.proofs.Shapes.{claimed}
use Rattle.ledger.proofs.Questions.{accepted-yes}
use Rattle.equations.specs.declared.Reason.{Reason}
use Rattle.sheet.specs.Calls.{marked_of}
use Rattle.sheet.specs.View.{explained_of, explained_numbers}

pub marked_refused : (l : Ledger) (ws : List ℕ) (k : ℕ) → refusal_of l (queries (marks ws)) ≡ k → (k ≡ 0 → ⊥) → Err k ≡ marked_of l ws
unfolding marked_of
marked_refused l ws k refused h = rw (refused, ne_eqb k 0 h)

-- an accepted claim, by its entries
module _ (l : Ledger) (ws : List ℕ) (accepted : refusal_of l (queries (marks ws)) ≡ 0) {see : Seen} (sees : Sees l see) {entries : List ℕ}
    (are : entries ≡ entries_of (words_in ws)) where
  abbrev m : ℕ
  m = modulus_of l

  abbrev n : ℕ
  n = unknowns_of l

  abbrev read : Claim
  read = claim_of (unknowns_of l) (entries_of (words_in ws))

  pub entries_claimed : Claimed see.modulus see.unknowns entries
  entries_claimed =
      let yes = accepted-yes l (queries (marks ws)) accepted in
      rw (are, sees.modulus, sees.unknowns) (claimed n (words_in ws) yes.1.1.0 m yes.1.1.1.0)

  -- es are the lines, with both sides times m/q
  module _ (allowed : Allowed (modulus_of l) (unknowns_of l) (lines_in l)) (es : List Equation) (same-es : es ≡ scaled (modulus_of l) (lines_in l)) where
    pub marked_as : (result : Mark) → result ≡ mark_of see.modulus see.unknowns es (claim_of see.unknowns entries) → Ok result ≡ marked_of l ws
    unfolding marked_of
    marked_as result is =
        let decided : result ≡ line_mark m n (lines_in l) read =
        is
        ∙ (rw (are, same-es, sees.modulus, sees.unknowns)
        (sym (line-mark m n (omega (arith, allowed.modulus)) (lines_in l) allowed.moduli read))) in
        rw (accepted, decided)

    found-reason : reason_of m n (scaled m (lines_in l)) read ≡ line_reason m n (lines_in l) read
    found-reason = sym (line-reason m (omega (arith, allowed.modulus)) (lines_in l) allowed.moduli n read)

    found-shown : shown_with m n (scaled m (lines_in l)) read ≡ line_shown m n (lines_in l) read
    found-shown = sym (line-shown m n (omega (arith, allowed.modulus)) (lines_in l) allowed.moduli read)

    abbrev found_ok : Reason → ℕ → Result Finding ℕ
    found_ok r k = Ok (record { reason = r; len = k })

    pub explained_as : (found : Finding) (before : List ℕ) {shown : List ℕ}
        → found ≡ finding_of see.modulus see.unknowns es (claim_of see.unknowns entries)
        → shown ≡ over (shown_with see.modulus see.unknowns es (claim_of see.unknowns entries)) before
        → (Ok found ≡ explained_of l ws) × (shown ≡ over (explained_numbers l ws) before)
    unfolding explained_of explained_numbers finding_of
    explained_as found before {shown} is written =
        let same : found ≡ finding_of m n (scaled m (lines_in l)) read =
        is ∙ rw (are, same-es, sees.modulus, sees.unknowns) in
        let lies : shown ≡ over (shown_with m n (scaled m (lines_in l)) read) before =
        written ∙ rw (are, same-es, sees.modulus, sees.unknowns) in
        rw accepted (
          ap Ok same ∙ ap₂ found_ok found-reason (ap length found-shown),
          lies ∙ ap (λ (xs : List ℕ). over xs before) found-shown,
        )
