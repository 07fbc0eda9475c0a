-- Lines: equations that are read mod a modulus of their own, and the answer to a list of them mod m. `Equation` alone is
-- read mod one m for all. Definitions only.
use Rattle.std.specs.Prelude.{◌≡◌, List, [], ◌∷◌, map, Bool, true, ◌&&◌, ℕ, ◌*◌, ◌/◌, length}
use Rattle.std.proofs.Math.Option.{Option}
use Rattle.residue.specs.Divides.{Divides}
use Rattle.equations.specs.Equation.{Equation, solves_one}
use Rattle.equations.specs.Multipliers.{refutes}
use Rattle.equations.specs.declared.Mark.{Mark}
use Rattle.equations.specs.Claim.{Claim}
use Rattle.equations.specs.Marks.{superfluous_in, mark_with}
use Rattle.equations.specs.Sets.{start_among, step_among, steps_among, is_right_among}

-- "An equation record gains a modulus q that divides the sheet's m"
pub record Line : Type 0 where
  pub modulus : ℕ
  pub equation : Equation

-- each line's modulus divides m
abbrev pub Moduli : ℕ → List Line → Type 0
Moduli m [] = Unit {0}
Moduli m (l ∷ ls) = Divides l.modulus m × Moduli m ls

-- "The line holds if both sides agree mod q."
abbrev pub holds_one : Line → List ℕ → Bool
holds_one l v = solves_one l.modulus l.equation v

-- all of ls hold at v
abbrev pub holds : List Line → List ℕ → Bool
holds [] v = true
holds (l ∷ ls) v = holds_one l v && holds ls v

-- a line "with right sides put to 0"
abbrev pub level_one : Line → Line
level_one l = record {
  modulus = l.modulus;
  equation = record { coefficients = l.equation.coefficients; right = 0 };
}

abbrev pub level : List Line → List Line
level [] = []
level (l ∷ ls) = level_one l ∷ level ls

-- each line has n coefficients
abbrev pub ShapedLines : ℕ → List Line → Type 0
ShapedLines n [] = Unit {0}
ShapedLines n (l ∷ ls) = (length l.equation.coefficients ≡ n) × ShapedLines n ls

-- ---- the answer

-- Document 01's start, steps and marking, "now read from these lines, each mod its q"
unfoldable pub line_start : ℕ → ℕ → List Line → Option (List ℕ)
line_start m n ls = start_among m n (holds ls)

unfoldable pub line_step_at : ℕ → ℕ → List Line → ℕ → Option (List ℕ)
line_step_at m n ls j = step_among m n (holds (level ls)) j

unfoldable pub line_steps : ℕ → ℕ → List Line → List (List ℕ)
line_steps m n ls = steps_among m n (holds (level ls))

unfoldable pub line_is_right : ℕ → ℕ → List Line → Claim → Bool
line_is_right m n ls claim = is_right_among m n (holds ls) claim

unfoldable pub line_mark : ℕ → ℕ → List Line → Claim → Mark
line_mark m n ls claim = mark_with (line_is_right m n ls claim) (superfluous_in m n claim)

-- ---- as equations mod m

-- "the line with both sides times m/q"
abbrev pub scaled_one : ℕ → Line → Equation
scaled_one m l = record {
  coefficients = map (λ (a : ℕ). m / l.modulus * a) l.equation.coefficients;
  right = m / l.modulus * l.equation.right;
}

abbrev pub scaled : ℕ → List Line → List Equation
scaled m ls = map (scaled_one m) ls

-- "Multipliers apply to the line with both sides times m/q, still mod m."
unfoldable pub line_refutes : ℕ → ℕ → List Line → List ℕ → Bool
line_refutes m n ls ks = refutes m n (scaled m ls) ks

-- "without it .. q is m": equations as lines
abbrev pub lines_mod : ℕ → List Equation → List Line
lines_mod m es = map (λ (e : Equation). record { modulus = m; equation = e }) es
