-- Questions that are asked of a text, for n unknowns.
--   of_text       these questions,
--   by_unknowns   so it is with the unknowns of a ledger that is seen
use mathlib.Core.Path.{◌≡◌, ap}
use mathlib.Core.List.{List, [], ◌∷◌}
use Prim.Native.Nat.{ℕ}
use Rattle.questions.specs.Questions.{Question, asks, first_no}
use Rattle.grammar.specs.Texts.{is_typed, is_within, is_linear}
use Rattle.ledger.specs.Ledger.{Ledger, unknowns_of}
use Rattle.asking.specs.declared.Seen.{Seen}
use Rattle.asking.specs.Sees.{Sees}

abbrev pub of_text : List ℕ → ℕ → List Question
of_text text n = asks 11 (is_typed text) ∷ asks 12 (is_within n text) ∷ asks 13 (is_linear text) ∷ []

pub by_unknowns : (text : List ℕ) {l : Ledger} {seen : Seen} → Sees l seen
    → first_no (of_text text seen.unknowns) ≡ first_no (of_text text (unknowns_of l))
by_unknowns text sees = ap (λ (n : ℕ). first_no (of_text text n)) sees.unknowns
