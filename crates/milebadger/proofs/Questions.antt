-- The questions of milebadger_solve, and what it says of a list of equations that all are answered with yes.
--   posed            all have, so that the arguments may be handed on
use mathlib.Core.Path.{◌≡◌}
use mathlib.Core.List.{List}
use Prim.Native.Nat.{ℕ, ◌+◌, ◌*◌, ◌/◌, ◌%◌, ◌≤◌}
use native.Mathlib.Nat.{div-add-mod', mul-le-mul_right}
use native.Mathlib.Omega.{arith}
use lib.Dec.{eqb→eq, leb, leb→le}
use lib.ListN.{length}
use mir.Facts.{and_yes}
use Rattle.questions.specs.Questions.{first_no, largest_modulus}
use Rattle.questions.proofs.Questions.{all_yes, within_range}
use Rattle.equations.proofs.Vectors.{all-below}
use Rattle.system.specs.Posed.{Posed}
use Rattle.milebadger.specs.Calls.{solve_questions}

lines_fit : (n size : ℕ) → size % (n + 1) ≡ 0 → size / (n + 1) ≤ 16 → size ≤ 16 * (n + 1)
lines_fit n size whole few =
    omega (arith, div-add-mod' size (n + 1), mul-le-mul_right (n + 1) few)

pub posed : (m n : ℕ) (xs : List ℕ) → first_no (solve_questions m n xs) ≡ 0 → Posed m n xs
posed m n xs none =
    let yes = all_yes (solve_questions m n xs) tt none in
    let modulus = (within_range 2 m largest_modulus).0 yes.0 in
    let unknowns = and_yes (leb 1 n) (leb n 16) yes.1.0 in
    let whole = eqb→eq (length xs % (n + 1)) 0 yes.1.1.0 in
    record {
      modulus = modulus.0;
      has_unknowns = omega (arith, leb→le 1 n unknowns.0);
      unknowns = leb→le n 16 unknowns.1;
      whole = whole;
      equations = lines_fit n (length xs) whole (leb→le (length xs / (n + 1)) 16 yes.1.1.1.0);
      residues = (all-below m xs).0 yes.1.1.1.1.0;
    }
