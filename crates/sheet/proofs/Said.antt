-- What a call that opens, adds or strikes says, and the number of its refusal.
--   refused_said                    a number that one question has is said exactly where that question turns the call away,
--   holds_said                      and a count only where none does,
--   refused_some                    and a refusal only where one does
--   accepted_said, accepted-reads   an accepted call says how many lines there are then, and the sheet reads as the ledger with its effect,
--   gained_said, gained_reads       which is a line more for one that gains it
use mathlib.Core.Path.{◌≡◌, refl, sym, ap, ◌∙◌}
use mathlib.Core.Logic.{◌↔◌}
use mathlib.Core.Bool.{Bool, true, false, cond}
use mathlib.Core.List.{List, [], ◌∷◌, ◌++◌}
use Prim.Native.Nat.{ℕ, suc}
use native.Mathlib.Numerals.{add-one}
use native.Mathlib.Omega.{arith}
use borrow.Author.Tests.{ne_eqb, eqb-true}
use lib.Dec.{T, eqb, ltb, ltb→lt}
use lib.ListN.{length}
use Rattle.std.specs.Prelude.{Ok, Err}
use Rattle.questions.proofs.Given.{TurnsAway, alone}
use Rattle.equations.specs.Line.{Line}
use Rattle.ledger.specs.Ledger.{Ledger, opened, lines_in}
use Rattle.ledger.specs.Calls.{Entry, enters}
use Rattle.ledger.specs.Questions.{questions, refusal_of}
use Rattle.ledger.specs.History.{gains, effect_of, changed, enter}
use Rattle.ledger.proofs.Questions.{refused_exactly}
use Rattle.ledger.proofs.Effects.{enter-accepted, gains_counts}
use Rattle.sheet.specs.Record.{Sheet, ledger_of}
use Rattle.sheet.specs.Calls.{entered_of, sheet_after}
use Rattle.sheet.proofs.Turns.{reads-after}

holds_not : {h : ℕ} (k : ℕ) → Ok h ≡ Err k → ⊥
holds_not k is = let z : ◌≡◌ {A = ℕ} 0 1 = cc in absurd (omega arith)

refused_is : (r k j : ℕ) → cond (eqb r 0) (Ok k) (Err r) ≡ Err j → r ≡ j
refused_is r k j = by (eqb r 0)
  where
    by : (b : Bool) → cond b (Ok k) (Err r) ≡ Err j → r ≡ j
    by true is = absurd (holds_not j is)
    by false is = cc

holds_is : (r k j : ℕ) → cond (eqb r 0) (Ok k) (Err r) ≡ Ok j → r ≡ 0
holds_is r k j = by (eqb r 0) refl
  where
    by : (b : Bool) → eqb r 0 ≡ b → cond b (Ok k) (Err r) ≡ Ok j → r ≡ 0
    by true e is = eqb-true r 0 e
    by false e is = absurd (holds_not r (sym is))

module _ (l : Ledger) (e : Entry) where
  pub refused_said : (k i : ℕ) → T (ltb 0 k) → T (alone k i (questions l (enters e)))
      → (entered_of l e ≡ Err k) ↔ TurnsAway (questions l (enters e)) i
  unfolding entered_of
  refused_said k i some own =
      let given = refused_exactly l (enters e) k i some own in (
        (λ said. given.0 (refused_is (refusal_of l (enters e)) _ k said)),
        λ turns. rw (given.1 turns, ne_eqb k 0 (λ none. omega (arith, ltb→lt 0 k some))),
      )

  pub refused_some : (k : ℕ) → entered_of l e ≡ Err k → refusal_of l (enters e) ≡ 0 → ⊥
  unfolding entered_of
  refused_some k said none = holds_not k (rw none at said)

  pub holds_said : (k : ℕ) → entered_of l e ≡ Ok k → refusal_of l (enters e) ≡ 0
  unfolding entered_of
  holds_said k said = holds_is (refusal_of l (enters e)) _ k said

module _ (l : Ledger) (e : Entry) (none : refusal_of l (enters e) ≡ 0) {new : Ledger} (makes : changed l (effect_of l e) ≡ new) where
  entered : enter l (enters e) ≡ new
  entered = enter-accepted l e none ∙ makes

  pub accepted_said : entered_of l e ≡ Ok (length (lines_in new))
  unfolding entered_of
  accepted_said = rw none (ap (λ (k : Ledger). Ok (length (lines_in k))) entered)

  pub accepted-reads : (s : Sheet) → ledger_of s ≡ l → ledger_of (sheet_after s e) ≡ new
  accepted-reads s reads = reads-after s e ∙ ap (λ (k : Ledger). enter k (enters e)) reads ∙ entered

module _ (m n : ℕ) (ls : List Line) (e : Entry) {new : Line} (effect : effect_of (opened m n ls) e ≡ gains new)
    (none : refusal_of (opened m n ls) (enters e) ≡ 0) where
  pub gained_said : entered_of (opened m n ls) e ≡ Ok (suc (length ls))
  gained_said =
      accepted_said (opened m n ls) e none (ap (changed (opened m n ls)) effect)
      ∙ ap Ok (gains_counts (opened m n ls) new tt ∙ add-one (length ls))

  pub gained_reads : (s : Sheet) → ledger_of s ≡ opened m n ls → ledger_of (sheet_after s e) ≡ opened m n (ls ++ (new ∷ []))
  gained_reads = accepted-reads (opened m n ls) e none (ap (changed (opened m n ls)) effect)
