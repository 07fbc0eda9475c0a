-- What is said of a strike, `right_striking`, where the ledger that a sheet reads as is opened.
use mathlib.Core.Path.{◌≡◌, refl, sym, ap, subst, ◌∙◌}
use mathlib.Core.Logic.{◌↔◌, ⊎_elim}
use mathlib.Core.List.{List, [], ◌∷◌, ◌++◌}
use Prim.Native.Nat.{ℕ, suc, ◌+◌, ◌<◌, ◌≤◌}
use native.Mathlib.Omega.{arith}
use borrow.Author.Tests.{lt-ltb, le-leb, lt-leb, leb-false}
use lib.Dec.{T, leb, ltb, lt→ltb}
use lib.ListN.{length, length-append}
use Rattle.std.specs.Prelude.{Err}
use Rattle.equations.specs.Lists.{without}
use Rattle.equations.specs.Line.{Line}
use Rattle.equations.proofs.Truth.{false_of, of_false}
use Rattle.ledger.specs.Ledger.{Ledger, opened}
use Rattle.ledger.specs.Calls.{strikes, enters}
use Rattle.ledger.specs.Questions.{refusal_of}
use Rattle.ledger.specs.History.{struck_at, effect_of, changed}
use Rattle.sheet.specs.Record.{ledger_of}
use Rattle.sheet.specs.Calls.{entered_of, sheet_after}
use Rattle.sheet.specs.Promises.{PlaceBetween, RightAlways, StruckAlways}
use Rattle.sheet.proofs.Entering.{entry_refused}
use Rattle.sheet.proofs.Said.{refused_said, refused_some, accepted_said, accepted-reads}

-- ---- refusals

a_line : (x : Line) (ls : List Line) → T (ltb 0 (length (x ∷ ls)))
a_line x ls = lt→ltb 0 (length (x ∷ ls)) (omega arith)

none-held : (ls : List Line) → (T (ltb 0 (length ls)) → ⊥) ↔ (ls ≡ [])
none-held [] = ((λ no. refl), λ is some. some)
none-held (x ∷ ls) = ((λ no. absurd (no (a_line x ls))), λ is. absurd (omega (arith, ap length is)))

some_held : (ls : List Line) → T (ltb 0 (length ls)) ↔ (ls ≡ [] → ⊥)
some_held [] = ((λ some. absurd some), λ no. absurd (no refl))
some_held (x ∷ ls) = ((λ some is. omega (arith, ap length is)), λ no. a_line x ls)

module _ (m n : ℕ) (ls : List Line) (place : ℕ) where
  abbrev l : Ledger
  l = opened m n ls

  seven_said : (entered_of (opened m n ls) (strikes place) ≡ Err 7) ↔ (ls ≡ [])
  seven_said =
      let said = refused_said l (strikes place) 7 1 tt tt in
      ((λ refused. (none-held ls).0 (said.0 refused).1), λ none. said.1 (tt, (none-held ls).1 none))

  sixteen_said : (entered_of (opened m n ls) (strikes place) ≡ Err 16) ↔ ((ls ≡ [] → ⊥) × (length ls < place))
  sixteen_said =
      let said = refused_said l (strikes place) 16 2 tt tt in (
        (λ refused.
            let turns = said.0 refused in
            ((some_held ls).0 turns.1.0, leb-false place (length ls) (false_of (leb place (length ls)) turns.1.1))),
        λ (some, beyond). said.1 (tt, ((some_held ls).1 some, of_false (lt-leb place (length ls) beyond))),
      )

-- ---- the line that goes

without_it : (earlier : List Line) (line : Line) (later : List Line) → without (length earlier) (earlier ++ (line ∷ later)) ≡ earlier ++ later
without_it [] line later = refl
without_it (x ∷ earlier) line later = ap (λ (ls : List Line). x ∷ ls) (without_it earlier line later)

module _ (m n : ℕ) (earlier : List Line) (line : Line) (later : List Line) (place : ℕ) (there : PlaceBetween earlier later place) where
  abbrev ls : List Line
  ls = earlier ++ (line ∷ later)

  held : length ls ≡ length earlier + suc (length later)
  held = length-append earlier (line ∷ later)

  struck_at_lem : struck_at (length ls) place ≡ length earlier
  struck_at_lem = ⊎_elim (λ is. rw is) (λ (is, none). rw is (omega (arith, held, ap length none))) there

  not_beyond : place ≤ length ls
  not_beyond = ⊎_elim (λ is. omega (arith, is, held)) (λ (is, none). omega (arith, is)) there

  struck-accepted : refusal_of (opened m n ls) (enters (strikes place)) ≡ 0
  unfolding refusal_of
  struck-accepted = rw (lt-ltb 0 (length ls) (omega (arith, held)), le-leb place (length ls) not_beyond)

  struck_changes : changed (opened m n ls) (effect_of (opened m n ls) (strikes place)) ≡ opened m n (earlier ++ later)
  struck_changes = ap (λ (j : ℕ). opened m n (without j ls)) struck_at_lem ∙ ap (opened m n) (without_it earlier line later)

pub right_striking : RightAlways → StruckAlways
right_striking right s m n ls place reads =
    record {
      seven = subst (λ (l : Ledger). (entered_of l (strikes place) ≡ Err 7) ↔ (ls ≡ [])) (sym reads) (seven_said m n ls place);
      sixteen =
          subst (λ (l : Ledger). (entered_of l (strikes place) ≡ Err 16) ↔ ((ls ≡ [] → ⊥) × (length ls < place))) (sym reads)
          (sixteen_said m n ls place);
      kept = λ k said.
          sym (entry_refused s (strikes place) (refusal_of (ledger_of s) (enters (strikes place))) refl (refused_some (ledger_of s) (strikes place) k said)).1;
      struck = λ earlier line later is there.
          let split = reads ∙ ap (opened m n) is in
          let none = struck-accepted m n earlier line later place there in
          let changes = struck_changes m n earlier line later place there in
          let left = accepted-reads (opened m n (earlier ++ (line ∷ later))) (strikes place) none changes s split in (
            ap (λ (l : Ledger). entered_of l (strikes place)) split
                ∙ accepted_said (opened m n (earlier ++ (line ∷ later))) (strikes place) none changes,
            left,
            right (sheet_after s (strikes place)) m n (earlier ++ later) left,
          );
    }
