-- What document 02 says of a reason, S-5 and S-8.
--   right-reason    the reason of a well-formed claim goes with its mark, and is true
--   same_refusal    what marking turns away is turned away with the same number
use mathlib.Core.Path.{◌≡◌, refl, sym, ap, subst, ◌∙◌}
use mathlib.Core.List.{List}
use Prim.Native.Nat.{ℕ, ◌*◌, ◌<◌, ◌≤◌}
use native.Mathlib.Omega.{arith}
use lib.ListN.{length}
use Rattle.std.specs.Prelude.{Ok, Err}
use Rattle.slices.specs.Over.{over}
use Rattle.equations.specs.declared.Reason.{Reason}
use Rattle.equations.specs.Reasons.{mark_beside}
use Rattle.equations.specs.Line.{Line}
use Rattle.system.proofs.Claims.{claim_formed}
use Rattle.system.proofs.Lines.{same-line-verdict}
use Rattle.words.specs.Words.{words_in, words_of}
use Rattle.ledger.specs.Ledger.{Ledger, opened}
use Rattle.ledger.specs.Allowed.{Allowed}
use Rattle.ledger.specs.Shapes.{entries_of, claim_from}
use Rattle.ledger.specs.Block.{counts_for}
use Rattle.ledger.specs.Marking.{claim_reason, reason_numbers, shown_kind}
use Rattle.ledger.specs.Calls.{marks, queries}
use Rattle.ledger.specs.Questions.{refusal_of}
use Rattle.ledger.proofs.Shapes.{claimed}
use Rattle.sheet.specs.Record.{Sheet, ledger_of}
use Rattle.sheet.specs.Calls.{marked_of, reasoned_of, shown_after}
use Rattle.sheet.specs.Promises.{WellFormed, RightReason}
use Rattle.sheet.proofs.Marks.{marked-accepted, mark_refused, well_accepted}
use Rattle.sheet.proofs.Reasoned.{reason-says, show_short, show_wrote, reason_refused, reason-shown}
use Rattle.sheet.specs.Calls.{said}

module _ (m n : ℕ) (ls : List Line) (ws : List ℕ) (allowed : Allowed m n ls) (well : WellFormed m n ws) where
  abbrev l : Ledger
  l = opened m n ls

  abbrev reason : Reason
  reason = claim_reason l ws

  abbrev shown : List ℕ
  shown = reason_numbers l ws

  abbrev words : List ℕ
  words = words_of (shown_kind (claim_reason l ws)) (reason_numbers l ws)

  accepted : refusal_of (opened m n ls) (queries (marks ws)) ≡ 0
  accepted = well_accepted m n ls ws well

  verdict : marked_of (opened m n ls) ws ≡ Ok (mark_beside (claim_reason (opened m n ls) ws))
  verdict =
      marked-accepted l ws accepted
      ∙ sym (ap Ok (same-line-verdict m n ls (claim_from n (words_in ws)) (omega (arith, allowed.modulus)) allowed.moduli allowed.shaped
      (claim_formed m n (entries_of (words_in ws)) (claimed n (words_in ws) well.0 m well.1))))

  given : (old : List ℕ) → length shown * counts_for m ≤ length old
      → (reasoned_of l ws old ≡ said reason (length words)) × (shown_after l ws old ≡ over words old)
  given old long =
      let wrote = show_wrote m reason shown old long in
      let is = reason-shown l ws old accepted m reason shown refl refl refl in
      (sym (wrote.0 ∙ is.0), sym (wrote.1 ∙ is.1))

  short : (old : List ℕ) → length old < length shown * counts_for m → reasoned_of l ws old ≡ Err 8
  short old less =
      sym ((show_short m reason shown old less).0 ∙ (reason-shown l ws old accepted m reason shown refl refl refl).0)

  pub right-reason : (s : Sheet) → ledger_of s ≡ opened m n ls → RightReason s m n ls ws
  right-reason s reads =
      record {
        reason = reason;
        verdict = ap (λ (k : Ledger). marked_of k ws) reads ∙ verdict;
        shown = shown;
        says = reason-says l ws accepted allowed;
        given = λ old long.
            subst (λ (k : Ledger). (reasoned_of k ws old ≡ said reason (length words)) × (shown_after k ws old ≡ over words old)) (sym reads)
            (given old long);
        short = λ old less. ap (λ (k : Ledger). reasoned_of k ws old) reads ∙ short old less;
      }

pub same_refusal : (l : Ledger) (ws old : List ℕ) (k : ℕ) → marked_of l ws ≡ Err k
    → (reasoned_of l ws old ≡ Err k) × (shown_after l ws old ≡ old)
same_refusal l ws old k is =
    let refused = mark_refused l ws is in
    let both = reason_refused l ws old k refused.0 refused.1 in
    (sym both.0, sym both.1)
