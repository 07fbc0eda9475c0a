-- The answer to a safe's equations: they may be asked for it, and it shows the wanted turns.
--   lines_fit                an array of 272 numbers holds the lines
--   lines-posed              they may be solved
--   found_turns              the answer's starting vector is the first turns, if any
--   found_none, found_some   what its head says of them
use mathlib.Core.List.{List, ◌∷◌, ◌++◌, flatten, head-eq_of_cons-eq, tail-eq_of_cons-eq}
use mathlib.Core.Option.{Option, none, some}
use mathlib.Core.Path.{◌≡◌, refl, sym, ap, subst, ◌∙◌}
use Prim.Native.Nat.{ℕ, ◌+◌, ◌*◌, ◌%◌, ◌≤◌, ◌<◌}
use native.Mathlib.Nat.{mul-mod_left, mul-le-mul}
use native.Mathlib.Omega.{arith}
use lib.ListN.{length, take, length-append, length-take}
use lib.Seq.{take_at, take-take}
use Rattle.equations.specs.Vectors.{Below}
use Rattle.equations.specs.Equation.{Equation, Shaped}
use Rattle.equations.specs.Lines.{equations_of}
use Rattle.equations.specs.Answer.{start_of, steps_of}
use Rattle.equations.proofs.Answer.{start_solves}
use Rattle.equations.proofs.Lines.{equations-shaped}
use Rattle.equations.proofs.Vectors.{vector-length}
use Rattle.system.specs.Posed.{Posed}
use Rattle.system.specs.Block.{block_of}
use Rattle.system.proofs.Block.{block_none, block_some}
use Rattle.safe.specs.Turns.{turns_of}
use Rattle.safe.specs.Model.Lines.{lines_from}
use Rattle.safe.specs.Model.Handed.{Lockable, Found}
use Rattle.safe.proofs.Laid.{length-lines, lines-below}
use Rattle.safe.proofs.Equations.{turns_start}

pub lines_fit : (n : ℕ) → n ≤ 16 → n * (n + 1) ≤ 272
lines_fit n h = mul-le-mul {n₁ = n} {m₁ = n + 1} {n₂ = 16} {m₂ = 17} h (omega arith)

pub lines-posed : (m rows columns : ℕ) (values : List ℕ) → Lockable m rows columns values
    → Posed m (length values) (lines_from m columns (length values) 0 values)
lines-posed m rows columns values safe =
    let n = length values in
    let long : length (lines_from m columns n 0 values) ≡ n * (n + 1) = length-lines m columns n 0 values in
    record {
      modulus = safe.modulus;
      has_unknowns = safe.has_locks;
      unknowns = safe.few;
      whole = ap (λ (z : ℕ). z % (n + 1)) long ∙ mul-mod_left n (n + 1);
      equations =
          omega (
            arith,
            long,
            mul-le-mul {n₁ = n} {m₁ = n + 1} {n₂ = 16} {m₂ = n + 1} (omega (arith, safe.few)) (omega arith),
          );
      residues = lines-below m columns safe.modulus n 0 values;
    }

-- ---- what it shows

module _ (m n len head : ℕ) (es : List Equation) (numbers : List ℕ) (is : head ∷ take len numbers ≡ block_of m n es) where
  shows_none : 0 < m → (lines : List ℕ) → es ≡ equations_of n lines → start_of m n es ≡ none → head ≡ 0
  shows_none pos lines e h =
      let shaped = subst (λ (fs : List Equation). Shaped n fs) (sym e) (equations-shaped n lines) in
      let b = block_none m n es pos shaped h in
      head-eq_of_cons-eq (is ∙ b.1)

  shows_some : (c : List ℕ) → start_of m n es ≡ some c → (0 < head) × (take n numbers ≡ c)
  shows_some c h =
      let whole = is ∙ block_some m n es c h in
      let front : take len numbers ≡ c ++ flatten (steps_of m n es) = tail-eq_of_cons-eq whole in
      let long : length c ≡ n = vector-length m n c (start_solves m n es c h).0 in
      let enough : n ≤ len =
      omega (
        arith,
        ap length front,
        length-append c (flatten (steps_of m n es)),
        long,
        length-take len numbers,
      ) in (
        omega (arith, head-eq_of_cons-eq whole),
        sym (take-take n len numbers enough) ∙ ap (take n) front ∙ take_at c (flatten (steps_of m n es)) n long,
      )

found : (m n len head : ℕ) (lines numbers : List ℕ) → 0 < m
    → head ∷ take len numbers ≡ block_of m n (equations_of n lines)
    → (o : Option (List ℕ)) → start_of m n (equations_of n lines) ≡ o → Found n o head numbers
found m n len head lines numbers pos is none h =
    shows_none m n len head (equations_of n lines) numbers is pos lines refl h
found m n len head lines numbers pos is (some c) h = shows_some m n len head (equations_of n lines) numbers is c h

pub found_turns : (m rows columns n len head : ℕ) (values lines numbers : List ℕ) → 0 < m → Below m values
    → rows * columns ≡ n → lines ≡ lines_from m columns n 0 values
    → head ∷ take len numbers ≡ block_of m n (equations_of n lines)
    → Found n (turns_of m rows columns values) head numbers
found_turns m rows columns n len head values lines numbers pos b count are is =
    found m n len head lines numbers pos is (turns_of m rows columns values)
    (ap (λ (z : List ℕ). start_of m n (equations_of n z)) are
    ∙ ap (λ (k : ℕ). start_of m k (equations_of k (lines_from m columns k 0 values))) (sym count)
    ∙ sym (turns_start m rows columns values pos b))

pub found_none : (n head : ℕ) (o : Option (List ℕ)) (numbers : List ℕ) → Found n o head numbers → head ≡ 0 → o ≡ none
found_none n head none numbers f h = refl
found_none n head (some c) numbers f h = absurd (omega (arith, f.0))

pub found_some : (n head : ℕ) (o : Option (List ℕ)) (numbers : List ℕ) → Found n o head numbers → (head ≡ 0 → ⊥)
    → o ≡ some (take n numbers)
found_some n head none numbers f h = absurd (h f)
found_some n head (some c) numbers f h = ap some (sym f.1)
