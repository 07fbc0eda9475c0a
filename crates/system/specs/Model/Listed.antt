-- The equations of a system, and the rows of a basis with what is read off them, for the contracts of their methods.
use Rattle.std.specs.Prelude.{List, ℕ}
use Rattle.equations.specs.Equation.{Equation}
use Rattle.equations.specs.Lines.{equations_of}
use Rattle.system.specs.declared.asked.System.{System}
use Rattle.system.specs.declared.basis.Basis.{Basis}
use Rattle.std.proofs.Math.Option.{Option}
use Rattle.system.specs.Model.Reading.{rows_in, read_vector, read_step, read_steps, read_vectors}

abbrev pub equations_in : System → List Equation
equations_in s = equations_of s.n s.lines.now

abbrev pub rows_of : Basis → List (List ℕ)
rows_of b = rows_in b.n b.numbers.now

abbrev pub vector_in : Basis → ℕ → ℕ → List ℕ
vector_in b i e = read_vector b.m b.n (rows_of b) i e

abbrev pub step_in : Basis → ℕ → Option (List ℕ)
step_in b i = read_step b.m b.n (rows_of b) i

abbrev pub steps_in : Basis → List (List ℕ)
steps_in b = read_steps b.m b.n (rows_of b) b.n

abbrev pub vectors_in : Basis → List (List ℕ)
vectors_in b = read_vectors b.m b.n (rows_of b)
