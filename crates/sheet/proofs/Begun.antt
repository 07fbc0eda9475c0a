-- What is said of an opening in words, `right_opening`, on any sheet.
use mathlib.Core.Path.{◌≡◌, refl}
use mathlib.Core.Logic.{◌↔◌}
use mathlib.Core.List.{List}
use Prim.Native.Nat.{ℕ, ◌≤◌}
use lib.Dec.{T}
use Rattle.std.specs.Prelude.{Ok, Err}
use Rattle.questions.specs.Questions.{allowed_modulus, largest_modulus}
use Rattle.questions.proofs.Questions.{within_range}
use Rattle.equations.proofs.Truth.{true_of}
use Rattle.words.specs.Words.{words_in, tops_fit}
use Rattle.ledger.specs.Ledger.{Ledger, most_unknowns}
use Rattle.ledger.specs.Shapes.{number_at, is_opening}
use Rattle.ledger.specs.Calls.{opens, enters}
use Rattle.ledger.specs.Questions.{allowed_unknowns, refusal_of}
use Rattle.ledger.proofs.Shapes.{opening_tops}
use Rattle.ledger.proofs.Questions.{accepted-yes}
use Rattle.sheet.specs.Record.{Sheet, ledger_of}
use Rattle.sheet.specs.Calls.{entered_of}
use Rattle.sheet.specs.Promises.{RightOpening}
use Rattle.sheet.proofs.Said.{refused_said, holds_said, accepted_said, accepted-reads}

module _ (l : Ledger) (ws : List ℕ) where
  abbrev m : ℕ
  m = number_at (words_in ws) 0

  abbrev n : ℕ
  n = number_at (words_in ws) 1

  abbrev Right : Type 0
  Right =
      T (is_opening (words_in ws)) × ((2 ≤ number_at (words_in ws) 0) × (number_at (words_in ws) 0 ≤ largest_modulus))
      × ((1 ≤ number_at (words_in ws) 1) × (number_at (words_in ws) 1 ≤ most_unknowns))

  seventeen : (entered_of l (opens ws) ≡ Err 17) ↔ (T (tops_fit (words_in ws)) → ⊥)
  seventeen = let said = refused_said l (opens ws) 17 0 tt tt in ((λ refused. said.0 refused), λ wrong. said.1 wrong)

  accepted_where : (refusal_of l (enters (opens ws)) ≡ 0) ↔ Right
  unfolding refusal_of
  accepted_where = (
    (λ none.
        let asked = accepted-yes l (enters (opens ws)) none in
        (asked.1.0, (within_range 2 m largest_modulus).0 asked.1.1.0, (within_range 1 n most_unknowns).0 asked.1.1.1.0)),
    λ (shape, modulus, unknowns).
        rw (
          opening_tops (words_in ws) (true_of (is_opening (words_in ws)) shape),
          true_of (is_opening (words_in ws)) shape,
          true_of (allowed_modulus m) ((within_range 2 m largest_modulus).1 modulus),
          true_of (allowed_unknowns n) ((within_range 1 n most_unknowns).1 unknowns),
        ),
  )

  allowed : (entered_of l (opens ws) ≡ Ok 0) ↔ Right
  allowed = (
    (λ said. accepted_where.0 (holds_said l (opens ws) 0 said)),
    λ right. accepted_said l (opens ws) (accepted_where.1 right) refl,
  )

pub right_opening : (s : Sheet) (ws : List ℕ) → RightOpening s ws (number_at (words_in ws) 0) (number_at (words_in ws) 1)
right_opening s ws =
    record {
      seventeen = seventeen (ledger_of s) ws;
      allowed = allowed (ledger_of s) ws;
      accepted = λ k said. accepted-reads (ledger_of s) (opens ws) (holds_said (ledger_of s) (opens ws) k said) refl s refl;
    }
