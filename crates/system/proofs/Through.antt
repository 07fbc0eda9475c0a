-- Vectors that lie one behind the other, the rows of the equations that are made of them, and the equations that are made for a claim.
--   rows_through                  the rows, for equations through c
--   through-next, through-none   those of the first vector, and of too few numbers for one
--   through-row, through-length  how many numbers they are
--   through_lent, through_more   there is room for the next one, and it is written
--   level-read, level-posed      the system of steps, as it lies in a longer list
--   around_below, around_room    the generators, as they lie in a longer list, and the equations made of them
--   for_none, for_some           what is written for a claim
use mathlib.Core.Path.{◌≡◌, sym, ap, ◌∙◌, subst}
use mathlib.Core.List.{List, [], ◌∷◌, ◌++◌, flatten, append-nil}
use Prim.Native.Nat.{ℕ, ◌+◌, ◌*◌, ◌/◌, ◌<◌, ◌≤◌}
use native.Mathlib.Nat.{mul-le-mul}
use native.Mathlib.Omega.{arith}
use lib.ListN.{length, take, drop, replicate, length-append, length-map}
use Rattle.slices.specs.Over.{over}
use Rattle.slices.proofs.Over.{over-front}
use Rattle.slices.proofs.Parts.{lent, put_back}
use Rattle.slices.proofs.Poured.{Poured, poured_lent, poured_more}
use Rattle.equations.specs.Vectors.{Below}
use Rattle.equations.specs.Equation.{Equation}
use Rattle.equations.specs.Answer.{steps_of}
use Rattle.equations.specs.Lines.{equations_of, as_row, as_rows}
use Rattle.equations.specs.Promises.{constant}
use Rattle.equations.proofs.Lines.{rows-length, rows_back}
use Rattle.equations.proofs.Listed.{flat_below, steps_vectors, steps_few}
use Rattle.elimination.specs.Through.{through, lines_through, annihilators}
use Rattle.elimination.proofs.Through.{through-shaped, through-residues}
use Rattle.system.specs.Posed.{Posed}
use Rattle.system.specs.Claims.{vectors_of, claim_of}
use Rattle.system.specs.Model.Reading.{Laid}
use Rattle.system.specs.Wanted.{wanted_of}
use Rattle.system.specs.Wanted.Body.{wanted-none, wanted-from}
use Rattle.system.proofs.Chunks.{vector_cut, vectors-none, vectors_listed}
use Rattle.system.proofs.Generators.{vectors-count, laid_vectors, relations-posed}
use Rattle.system.proofs.Generators.{steps_few as count-few}
use Rattle.system.proofs.Marks.{claim_of_none, claim_of_some}

-- ---- rows

module _ (m n : ℕ) (c : List ℕ) where
  abbrev pub rows_through : List ℕ → List ℕ
  rows_through s = as_rows (lines_through m c (vectors_of n s))

  pub through-length : (s : List ℕ) → Below m s → length (as_rows (lines_through m c (vectors_of n s))) ≡ length s / n * (n + 1)
  through-length s below =
      rows-length n (lines_through m c (vectors_of n s)) (through-shaped m c n (vectors_of n s) (vectors_listed m n s below))
      ∙ ap (λ (k : ℕ). k * (n + 1)) (length-map (vectors_of n s) (through m c) ∙ vectors-count n s)

  pub through-none : (rest : List ℕ) → length rest < n → as_rows (lines_through m c (vectors_of n rest)) ≡ []
  through-none rest h = ap (λ (gs : List (List ℕ)). as_rows (lines_through m c gs)) (vectors-none n rest h)

  module _ (rest g left : List ℕ) (some : 0 < n) (cut : rest ≡ g ++ left) (long : length g ≡ n) where
    pub through-next : as_rows (lines_through m c (vectors_of n rest))
        ≡ as_row (through m c g) ++ as_rows (lines_through m c (vectors_of n left))
    through-next = ap (λ (gs : List (List ℕ)). as_rows (lines_through m c gs)) (vector_cut n g left rest some cut long)

    pub through-row : length (as_row (through m c g)) ≡ n + 1
    through-row = length-append g _ ∙ omega (arith, long)

    -- g is the vector with the number i, and its row is written
    module _ (all old out : List ℕ) (i count : ℕ) (is : i ≡ count) (p : Poured rows_through all old rest (count * (n + 1)) out)
        (fits : length (as_rows (lines_through m c (vectors_of n all))) ≤ length old) where
      poured : Poured rows_through all old rest (i * (n + 1)) out
      poured = subst (λ (k : ℕ). Poured rows_through all old rest (k * (n + 1)) out) (sym is) p

      pub through_lent : n + 1 ≤ length (lent (i * (n + 1)) out)
      through_lent =
          omega (
            arith,
            poured_lent rows_through all old rest (i * (n + 1)) out poured fits (as_row (through m c g)) left through-next,
            through-row,
          )

      pub through_more : {part : List ℕ} (next : ℕ) → next ≡ count + 1 → part ≡ over (as_row (through m c g)) (lent (i * (n + 1)) out)
          → Poured rows_through all old left (next * (n + 1)) (put_back (i * (n + 1)) out part)
      through_more next more written =
          poured_more rows_through all old rest (i * (n + 1)) out poured fits (as_row (through m c g)) left through-next (next * (n + 1))
          (omega (arith, ap (λ (k : ℕ). k * (n + 1)) (more ∙ ap (λ (k : ℕ). k + 1) (sym is)), through-row)) written

-- ---- the system of steps

module _ (m n : ℕ) (steps : List ℕ) (below : Below m steps) (zero old : List ℕ) {last : List ℕ} (zeros : zero ≡ replicate n 0)
    (written : last ≡ over (as_rows (lines_through m zero (vectors_of n steps))) old) where
  abbrev lines : List Equation
  lines = lines_through m (replicate n 0) (vectors_of n steps)

  size : length (as_rows lines) ≡ length steps / n * (n + 1)
  size = through-length m n (replicate n 0) steps below

  same : last ≡ over (as_rows lines) old
  same = written ∙ ap (λ (z : List ℕ). over (as_rows (lines_through m z (vectors_of n steps))) old) zeros

  pub level-read : steps_of m n (equations_of n (take (length steps / n * (n + 1)) last)) ≡ annihilators m n (vectors_of n steps)
  level-read =
      ap (λ (s : List ℕ). steps_of m n (equations_of n s)) (over-front (length steps / n * (n + 1)) (as_rows lines) old same size)
      ∙ ap (steps_of m n)
      (rows_back n lines (through-shaped m (replicate n 0) n (vectors_of n steps) (vectors_listed m n steps below)))

  pub level-posed : 1 < m → 0 < n → n ≤ 16 → length steps ≤ 16 * n → Posed m n (take (length steps / n * (n + 1)) last)
  level-posed modulus some few short =
      subst (λ (s : List ℕ). Posed m n (take (length steps / n * (n + 1)) s)) (sym same)
      (relations-posed m (length steps / n) n (as_rows lines) (drop (length (as_rows lines)) old) size modulus (count-few n steps short)
      some few
      (through-residues m (replicate n 0) n (omega arith) (vectors_of n steps) (vectors_listed m n steps below)))

-- ---- the generators

module _ (m n : ℕ) (ss : List (List ℕ)) (r : ℕ) {old new : List ℕ} (some : 0 < n) (laid : Laid n (annihilators m n ss) old new r) where
  listed_are : vectors_of n (take (r * n) new) ≡ annihilators m n ss
  listed_are = laid_vectors m n r (annihilators m n ss) some (steps_vectors m n (lines_through m (replicate n 0) ss)) laid

  pub around_below : Below m (take (r * n) new)
  around_below =
      subst (Below m) (sym (over-front (r * n) (flatten (annihilators m n ss)) old laid.written laid.size))
      (flat_below m n (annihilators m n ss) (steps_vectors m n (lines_through m (replicate n 0) ss)))

  module _ (start : List ℕ) where
    pub around_room : length (as_rows (lines_through m start (vectors_of n (take (r * n) new)))) ≤ n * (n + 1)
    around_room =
        let few : length (annihilators m n ss) ≤ n = steps_few m n (lines_through m (replicate n 0) ss) in
        omega (
          arith,
          ap (λ (gs : List (List ℕ)). length (as_rows (lines_through m start gs))) listed_are,
          rows-length n (lines_through m start (annihilators m n ss))
              (through-shaped m start n (annihilators m n ss) (steps_vectors m n (lines_through m (replicate n 0) ss))),
          ap (λ (k : ℕ). k * (n + 1)) (length-map (annihilators m n ss) (through m start)),
          mul-le-mul {n₁ = length (annihilators m n ss)} {m₁ = n + 1} {n₂ = n} {m₂ = n + 1} few (omega arith),
        )

    pub around_written : (lines : List ℕ) {made : List ℕ}
        → made ≡ over (as_rows (lines_through m start (vectors_of n (take (r * n) new)))) lines
        → made ≡ over (as_rows (lines_through m start (annihilators m n ss))) lines
    around_written lines is =
        is ∙ ap (λ (gs : List (List ℕ)). over (as_rows (lines_through m start gs)) lines) listed_are

-- ---- what is written

module _ (m n : ℕ) (claim old : List ℕ) {new : List ℕ} where
  pub for_none : length claim ≡ 0 → new ≡ over (as_row (constant n 1)) old
      → (1 ≡ length (wanted_of m n (claim_of n claim))) × (new ≡ over (as_rows (wanted_of m n (claim_of n claim))) old)
  for_none none is =
      let made : wanted_of m n (claim_of n claim) ≡ constant n 1 ∷ [] = ap (wanted_of m n) (claim_of_none n claim none) ∙ wanted-none m n in (
        sym (ap length made),
        is ∙ ap (λ (s : List ℕ). over s old) (sym (append-nil (as_row (constant n 1))) ∙ sym (ap as_rows made)),
      )

  pub for_some : (length claim ≡ 0 → ⊥) → (r : ℕ) → r ≡ length (annihilators m n (vectors_of n (lent n claim)))
      → new ≡ over (as_rows (lines_through m (take n claim) (annihilators m n (vectors_of n (lent n claim))))) old
      → (r ≡ length (wanted_of m n (claim_of n claim))) × (new ≡ over (as_rows (wanted_of m n (claim_of n claim))) old)
  for_some some r count is =
      let made : wanted_of m n (claim_of n claim) ≡ lines_through m (take n claim) (annihilators m n (vectors_of n (lent n claim))) =
      ap (wanted_of m n) (sym (claim_of_some n claim some)) ∙ wanted-from m n _ _ in (
        count ∙ sym (ap length made ∙ length-map (annihilators m n (vectors_of n (lent n claim))) (through m (take n claim))),
        is ∙ ap (λ (s : List ℕ). over s old) (sym (ap as_rows made)),
      )
