-- One congruence as a call: what it asks and what it gives back. Definitions only.
use Rattle.std.specs.Prelude.{List, [], ◌∷◌, ℕ, ℤ, Option, Result, Ok, Err}
use Rattle.questions.specs.Questions.{Question, asks, first_no, unless_refused, allowed_modulus}
use Rattle.residue.specs.Residue.{residue_of}
use Rattle.residue.specs.Congruence.{solutions_of}
use Rattle.residue.specs.declared.congruence.Solutions.{Solutions}
use Rattle.residue.specs.Congruence.{spaced}

-- "One congruence: m allowed? 2."; "the one congruence no longer refuse[s] with 6"
abbrev pub congruence_questions : ℕ → List Question
congruence_questions m = asks 2 (allowed_modulus m) ∷ []

-- "otherwise the least t, and the spacing"
abbrev pub solved : ℕ → ℕ → Result (Option Solutions) ℕ
solved t spacing = Ok (spaced t spacing)

-- the number of the question that turns the congruence away, and else the solutions for the residues of a and b
unfoldable pub congruence_of : ℤ → ℤ → ℕ → Result (Option Solutions) ℕ
congruence_of a b m =
    unless_refused Err (first_no (congruence_questions m)) (Ok (solutions_of (residue_of m a) (residue_of m b) m))
