-- What document 02 says of a class, S-4.
--   right_strays  a word that is no head of at most 17 is a claim of one word and gets 101, or 117
--   right_class   a class is marked exactly where there are at most 64 claims and bytes enough, and then as each claim is singly
use mathlib.Core.Path.{◌≡◌, refl, sym, ap, subst, ◌∙◌}
use mathlib.Core.Logic.Iff
use mathlib.Core.Logic.{◌↔◌}
use mathlib.Core.Bool.{Bool, true, false, cond, ◌&&◌, not}
use mathlib.Core.List.{List, []}
use Prim.Native.Nat.{ℕ, zero, suc, ◌+◌, ◌<◌, ◌≤◌}
use native.Mathlib.Omega.{arith}
use borrow.Author.Tests.{le-leb, ne_eqb}
use lib.Dec.{T, eqb, ltb, ltb→lt}
use lib.ListN.{length, drop, get_or, get_or-append}
use Rattle.std.specs.Prelude.{Ok, Err}
use Rattle.slices.specs.Over.{over}
use Rattle.slices.proofs.Over.{over_past, over-long}
use Rattle.questions.specs.Questions.{unless_refused}
use Rattle.questions.proofs.Given.{TurnsAway, alone}
use Rattle.equations.specs.declared.Mark.{Mark}
use Rattle.equations.specs.declared.Mark.TheVariants.{Pass, Long, Fail}
use Rattle.equations.specs.Line.{Line}
use Rattle.equations.specs.Marks.{mark_number}
use Rattle.equations.specs.Multipliers.{all_below}
use Rattle.equations.proofs.Marks.{Apart}
use Rattle.equations.proofs.Truth.{of_true}
use Rattle.words.specs.Words.{words_in, top_kind, tops_fit}
use Rattle.words.specs.Fronts.{first_word, front}
use Rattle.ledger.specs.Ledger.{Ledger, opened}
use Rattle.ledger.specs.Shapes.{is_claim, entries_of, claim_from}
use Rattle.ledger.specs.Classes.{most_claims, claims_in}
use Rattle.ledger.specs.Marking.{claim_mark}
use Rattle.ledger.specs.Calls.{marks, classes, queries}
use Rattle.ledger.specs.Questions.{questions, refusal_of}
use Rattle.ledger.proofs.Shapes.{claim_tops}
use Rattle.ledger.proofs.Questions.{refused_exactly}
use Rattle.ledger.proofs.Classes.{stray_first, stray_alone, stray_shape}
use Rattle.sheet.specs.Record.{Sheet, ledger_of}
use Rattle.sheet.specs.Calls.{marked_of, mark_byte, class_bytes, classed_of, marks_after}
use Rattle.sheet.specs.Promises.{WellFormed, RightMark, RightByte, RightMarks, RightClass, StrayWords}
use Rattle.sheet.proofs.Marks.{marked-accepted, well_accepted, claim_tells}
use Rattle.sheet.proofs.Classes.{map_at, bytes_count, class_few, class_fits, class_accepted, class_marked}

-- ---- one byte

mark-small : (mark : Mark) → mark_number mark < 3
mark-small Pass = omega arith
mark-small Long = omega arith
mark-small Fail = omega arith

numbers_apart : Apart mark_number
numbers_apart = record { pass_fail = λ same. omega arith; long_fail = λ same. omega arith; pass-long = λ same. omega arith }

-- a byte above 100 is "the refusal number plus 100"
by_refusal : (r k : ℕ) (mark : Mark) → 0 < k → (mark_byte (unless_refused Err r (Ok mark)) ≡ 100 + k) ↔ (r ≡ k)
by_refusal zero k mark some = ((λ e. absurd (omega (arith, mark-small mark, e))), λ is. absurd (omega (arith, some, is)))
by_refusal (suc r) k mark some =
    subst (λ (b : Bool). (mark_byte (cond b (Ok mark) (Err (suc r))) ≡ 100 + k) ↔ (suc r ≡ k)) (sym (ne_eqb (suc r) 0 (λ e. omega (arith, e))))
    ((λ e. omega (arith, e)), λ is. ap (λ (j : ℕ). 100 + j) is)

module _ (m n : ℕ) (ls : List Line) (ws : List ℕ) where
  abbrev byte : ℕ
  byte = mark_byte (marked_of (opened m n ls) ws)

  abbrev shape : Bool
  shape = is_claim n (words_in ws)

  abbrev below : Bool
  below = all_below m (entries_of (words_in ws))

  asked : (k i : ℕ) → T (ltb 0 k) → T (alone k i (questions (opened m n ls) (queries (marks ws))))
      → (byte ≡ 100 + k) ↔ TurnsAway (questions (opened m n ls) (queries (marks ws))) i
  unfolding marked_of
  asked k i some own =
      Iff.trans (by_refusal _ k (claim_mark (opened m n ls) ws) (ltb→lt 0 k some)) (refused_exactly (opened m n ls) (queries (marks ws)) k i some own)

  abbrev fit : Bool
  fit = tops_fit (words_in ws)

  misplaced : (byte ≡ 117) ↔ (T fit → ⊥)
  misplaced = let given = asked 17 1 tt tt in ((λ e. (given.0 e).1), λ no. given.1 (tt, no))

  misshapen : (byte ≡ 101) ↔ (T fit × (T shape → ⊥))
  misshapen = let given = asked 1 2 tt tt in ((λ e. (given.0 e).1), λ both. given.1 (tt, both))

  not_below_lem : (byte ≡ 106) ↔ (T shape × (T below → ⊥))
  not_below_lem =
      let given = asked 6 3 tt tt in (
        (λ e. (given.0 e).1.1),
        λ both. given.1 (tt, (of_true (claim_tops n (words_in ws) both.0), both)),
      )

  -- of a well-formed claim it is the number of the mark
  tells_mark : 0 < m → WellFormed m n ws → RightMark mark_number m n ls (claim_from n (words_in ws)) byte
  tells_mark pos well =
      rw (marked-accepted (opened m n ls) ws (well_accepted m n ls ws well)) (claim_tells m n ls pos ws well mark_number numbers_apart)

  right_byte : 0 < m → RightByte m n ls ws byte
  right_byte pos =
      record {
        marked = tells_mark pos;
        misplaced = misplaced;
        misshapen = misshapen;
        not_below = not_below_lem;
      }

pub right_strays : StrayWords
right_strays m n ls ws some stray = (stray_first n ws some stray, by (eqb (first_word ws).kind top_kind) refl)
  where
    fits : tops_fit (words_in (front 1 ws)) ≡ (not (eqb (first_word ws).kind top_kind) && true)
    fits = ap tops_fit (stray_alone n ws some stray)

    by : (b : Bool) → eqb (first_word ws).kind top_kind ≡ b → mark_byte (marked_of (opened m n ls) (front 1 ws)) ≡ cond b 117 101
    by true top =
        (misplaced m n ls (front 1 ws)).1 (λ t. subst T (fits ∙ ap (λ (b : Bool). not b && true) top) t)
    by false top =
        (misshapen m n ls (front 1 ws)).1
        (of_true (fits ∙ ap (λ (b : Bool). not b && true) top), stray_shape n ws some stray)

-- ---- all bytes

module _ (m n : ℕ) (ls : List Line) (pos : 0 < m) (ws old : List ℕ) where
  abbrev l : Ledger
  l = opened m n ls

  abbrev claims : List (List ℕ)
  claims = claims_in n ws

  abbrev Fit : Type 0
  Fit = (length (claims_in n ws) ≤ most_claims) × (length (claims_in n ws) ≤ length old)

  fit-accepted : Fit → refusal_of l (queries (classes ws old)) ≡ 0
  unfolding refusal_of
  fit-accepted fit = rw (le-leb (length claims) most_claims fit.0, le-leb (length claims) (length old) fit.1)

  module _ (accepted : refusal_of l (queries (classes ws old)) ≡ 0) where
    after : marks_after l ws old ≡ over (class_bytes l ws) old
    after = sym (class_marked l ws old accepted refl refl).1

    singly : (i : ℕ) → i < length claims → get_or (marks_after l ws old) i 0 ≡ mark_byte (marked_of l (get_or claims i []))
    singly i at =
        ap (λ (xs : List ℕ). get_or xs i 0) after
        ∙ get_or-append (class_bytes l ws) (drop (length (class_bytes l ws)) old) 0 i (omega (arith, bytes_count l ws))
        ∙ map_at (λ (claim : List ℕ). mark_byte (marked_of l claim)) claims i [] at

    right-marks : (s : Sheet) → ledger_of s ≡ l → RightMarks s m n ls (claims_in n ws) old (marks_after l ws old)
    right-marks s reads =
        record {
          singly = λ i at. singly i at ∙ ap (λ (k : Ledger). mark_byte (marked_of k (get_or claims i []))) (sym reads);
          says = λ i at.
              subst (RightByte m n ls (get_or claims i [])) (sym (singly i at)) (right_byte m n ls (get_or claims i []) pos);
          size = ap length after ∙ over-long (class_bytes l ws) old (omega (arith, bytes_count l ws, class_fits l ws old accepted));
          kept = λ i past.
              ap (λ (xs : List ℕ). get_or xs i 0) after ∙ over_past (class_bytes l ws) old i 0 (omega (arith, bytes_count l ws));
        }

  allowed : (classed_of l ws old ≡ Ok (length (claims_in n ws))) ↔ Fit
  allowed = (
    (λ is. let accepted = class_accepted l ws old is in (class_few l ws old accepted, class_fits l ws old accepted)),
    λ fit. sym (class_marked l ws old (fit-accepted fit) refl refl).0,
  )

  pub right_class : (s : Sheet) → ledger_of s ≡ opened m n ls → RightClass s m n ls ws old
  right_class s reads =
      record {
        allowed = subst (λ (k : Ledger). (classed_of k ws old ≡ Ok (length claims)) ↔ Fit) (sym reads) allowed;
        accepted = λ is.
            subst (λ (k : Ledger). RightMarks s m n ls claims old (marks_after k ws old)) (sym reads)
            (right-marks (class_accepted l ws old (ap (λ (k : Ledger). classed_of k ws old) (sym reads) ∙ is)) s reads);
      }
