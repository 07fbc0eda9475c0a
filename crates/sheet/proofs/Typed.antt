-- What is said of a typed equation, `right_typing`, where the ledger that a sheet reads as is opened.
use mathlib.Core.Path.{◌≡◌, refl, sym, ap, subst, ◌∙◌}
use mathlib.Core.Logic.{◌↔◌}
use mathlib.Core.List.{List}
use Prim.Native.Nat.{ℕ, ◌<◌}
use lib.Dec.{T}
use Rattle.std.specs.Prelude.{Err}
use Rattle.equations.specs.Equation.{Equation, solves_one}
use Rattle.equations.specs.Line.{Line}
use Rattle.equations.proofs.Truth.{false_of, of_false}
use Rattle.grammar.specs.Tree.{Sides}
use Rattle.grammar.specs.Grammar.{Typed}
use Rattle.grammar.specs.Meaning.{HoldsMod}
use Rattle.grammar.specs.Linear.{sides_within, sides_linear, equation_of}
use Rattle.grammar.specs.Texts.{typed_of, is_typed, passes, equation_in}
use Rattle.grammar.proofs.Texts.{not_typed, passed, read_typed}
use Rattle.grammar.proofs.Promises.{holds-exactly}
use Rattle.ledger.specs.Ledger.{Ledger, opened}
use Rattle.ledger.specs.Calls.{types, enters}
use Rattle.ledger.specs.Questions.{refusal_of}
use Rattle.ledger.specs.History.{gains}
use Rattle.ledger.proofs.Questions.{accepted-yes}
use Rattle.sheet.specs.Record.{Sheet, ledger_of}
use Rattle.sheet.specs.Calls.{entered_of}
use Rattle.sheet.specs.Promises.{NoEquation, RightTyping}
use Rattle.sheet.proofs.Said.{refused_said, holds_said, gained_reads}

module _ (m n : ℕ) (ls : List Line) (text : List ℕ) where
  abbrev l : Ledger
  l = opened m n ls

  eleven_said : (entered_of l (types text) ≡ Err 11) ↔ NoEquation text
  eleven_said =
      let said = refused_said l (types text) 11 1 tt tt in (
        (λ refused. (not_typed text).0 (false_of (is_typed text) (said.0 refused).1)),
        λ out. said.1 (tt, of_false ((not_typed text).1 out)),
      )

  -- the equation that is typed in an accepted text, and the one added
  typed_added : 0 < m → refusal_of l (enters (types text)) ≡ 0
      → (e : Sides) × Typed e text × (equation_in m n (typed_of text) ≡ equation_of m n e)
      × ((v : List ℕ) → HoldsMod m e v ↔ T (solves_one m (equation_of m n e) v))
  typed_added pos none =
      let yes = accepted-yes l (enters (types text)) none in
      let (e, is, among) = passed (sides_within n) (typed_of text) yes.1.1.0 in
      let linear : T (sides_linear e) = subst (λ x. T (passes sides_linear x)) is yes.1.1.1.0 in
      (e, (read_typed e text is).0, ap (equation_in m n) is, holds-exactly m n e pos among linear)

pub right_typing : (s : Sheet) (m n : ℕ) (ls : List Line) (text : List ℕ) → ledger_of s ≡ opened m n ls → 0 < m
    → RightTyping s m n ls text
right_typing s m n ls text reads pos =
    record {
      eleven = subst (λ (l : Ledger). (entered_of l (types text) ≡ Err 11) ↔ NoEquation text) (sym reads) (eleven_said m n ls text);
      accepted = λ k said.
          let none = holds_said (opened m n ls) (types text) k (ap (λ (l : Ledger). entered_of l (types text)) (sym reads) ∙ said) in
          let (e, typed, same, solved) = typed_added m n ls text pos none in (
            e,
            record { modulus = m; equation = equation_of m n e },
            typed,
            refl,
            gained_reads m n ls (types text) (ap (λ (x : Equation). gains (record { modulus = m; equation = x })) same) none s reads,
            solved,
          );
    }
