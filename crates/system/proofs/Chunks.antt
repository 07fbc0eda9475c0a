-- Vectors that lie in one list of numbers.
--   line_cut, vector_cut         a first line, or a first vector, that is cut off
--   vectors-cons, vectors-none   a first vector, and too few numbers for one
--   vectors-long                 each vector has n entries
--   vectors_listed               of residues, each is a vector of residues
--   within_flatten, vectors_flatten   vectors that lie one behind the other are found again
--   vectors-plain                they are plain lines
use mathlib.Core.Path.{◌≡◌, refl, sym, ap, ap₂, ◌∙◌}
use mathlib.Core.Bool.{true}
use mathlib.Core.List.{List, [], ◌∷◌, ◌++◌, flatten}
use Prim.Native.Nat.{ℕ, zero, suc, ◌+◌, ◌*◌, ◌/◌, ◌<◌, ◌≤◌}
use native.Mathlib.Nat.{div-eq_of_lt, div-eq_of_eq-mul_left, div-mul-le_self}
use native.Mathlib.Numerals.{add-one}
use native.Mathlib.Omega.{arith}
use lib.ListN.{length, take, drop, length-drop, length-append}
use lib.Seq.{length-take-le, take_at, drop_at}
use Rattle.slices.proofs.Parts.{parts_suc}
use Rattle.equations.specs.Vectors.{AllVectors, Below}
use Rattle.equations.proofs.Vectors.{vector-length, vector_of, below-take, below-drop}
use Rattle.equations.specs.Equation.{Equation}
use Rattle.equations.specs.Lines.{equation_at, equations_of}
use Rattle.equations.proofs.Lines.{equations_more, equation-front}
use Rattle.equations.proofs.Listed.{flat_length}
use Rattle.elimination.proofs.Basis.{Long}
use Rattle.tableau.specs.Lines.{lines_within, lines_of}
use Rattle.system.specs.Claims.{vectors_within, vectors_of}

pub line_cut : (n : ℕ) (line left rest : List ℕ) → rest ≡ line ++ left → length line ≡ n + 1
    → equations_of n rest ≡ equation_at n line ∷ equations_of n left
line_cut n line left rest is long =
    let some : n < length rest = omega (arith, ap length is, length-append line left, long) in
    equations_more n rest some
    ∙ ap₂ (λ (q : Equation) (qs : List Equation). q ∷ qs)
    (sym (equation-front n rest) ∙ ap (equation_at n) (ap (take (n + 1)) is ∙ take_at line left (n + 1) long))
    (ap (equations_of n) (ap (drop (n + 1)) is ∙ drop_at line left (n + 1) long))

pub vectors-cons : (n : ℕ) (s : List ℕ) → 0 < n → n ≤ length s → vectors_of n s ≡ take n s ∷ vectors_of n (drop n s)
unfolding vectors_of
vectors-cons n s h g = ap (λ (c : ℕ). vectors_within c n s) (parts_suc n s h g)

pub vector_cut : (n : ℕ) (v left rest : List ℕ) → 0 < n → rest ≡ v ++ left → length v ≡ n → vectors_of n rest ≡ v ∷ vectors_of n left
vector_cut n v left rest some is long =
    vectors-cons n rest some (omega (arith, ap length is, length-append v left, long))
    ∙ ap₂ (λ (w : List ℕ) (ws : List (List ℕ)). w ∷ ws) (ap (take n) is ∙ take_at v left n long)
    (ap (vectors_of n) (ap (drop n) is ∙ drop_at v left n long))

pub vectors-none : (n : ℕ) (s : List ℕ) → length s < n → vectors_of n s ≡ []
unfolding vectors_of
vectors-none n s h = ap (λ (c : ℕ). vectors_within c n s) (div-eq_of_lt h)

long-within : (c n : ℕ) (s : List ℕ) → c * n ≤ length s → Long n (vectors_within c n s)
long-within zero n s h = tt
long-within (suc c) n s h =
    (length-take-le n s (omega arith), long-within c n (drop n s) (omega (arith, length-drop n s)))

pub vectors-long : (n : ℕ) (s : List ℕ) → Long n (vectors_of n s)
unfolding vectors_of
vectors-long n s = long-within (length s / n) n s (div-mul-le_self (length s) n)

listed_within : (m c n : ℕ) (s : List ℕ) → c * n ≤ length s → Below m s → AllVectors m n (vectors_within c n s)
listed_within m zero n s h b = tt
listed_within m (suc c) n s h b = (
  vector_of m n (take n s) (length-take-le n s (omega arith)) (below-take m n s b),
  listed_within m c n (drop n s) (omega (arith, length-drop n s)) (below-drop m n s b),
)

pub vectors_listed : (m n : ℕ) (s : List ℕ) → Below m s → AllVectors m n (vectors_of n s)
unfolding vectors_of
vectors_listed m n s = listed_within m (length s / n) n s (div-mul-le_self (length s) n)

pub within_flatten : (m n : ℕ) (vs : List (List ℕ)) → AllVectors m n vs → vectors_within (length vs) n (flatten vs) ≡ vs
unfolding flatten
within_flatten m n [] h = refl
within_flatten m n (v ∷ vs) h =
    let long = vector-length m n v h.0 in
    ap₂ (λ (w : List ℕ) (ws : List (List ℕ)). w ∷ ws) (take_at v (flatten vs) n long)
    (ap (vectors_within (length vs) n) (drop_at v (flatten vs) n long) ∙ within_flatten m n vs h.1)

pub vectors_flatten : (m n : ℕ) (vs : List (List ℕ)) → 0 < n → AllVectors m n vs → vectors_of n (flatten vs) ≡ vs
unfolding vectors_of
vectors_flatten m n vs pos h =
    ap (λ (c : ℕ). vectors_within c n (flatten vs)) (div-eq_of_eq-mul_left pos (flat_length m n vs h))
    ∙ within_flatten m n vs h

plain-within : (c m n k i : ℕ) (s : List ℕ) → lines_within c true m n k i s ≡ vectors_within c (suc n) s
plain-within zero m n k i s = refl
plain-within (suc c) m n k i s =
    ap₂ {C = List (List ℕ)} ◌∷◌ (ap (λ (j : ℕ). take j s) (add-one n)) (plain-within c m n k (suc i) (drop (suc n) s))

pub vectors-plain : (m n k i : ℕ) (s : List ℕ) → lines_of true m n k i s ≡ vectors_of (n + 1) s
unfolding lines_of vectors_of
vectors-plain m n k i s = rw (add-one n) (plain-within (length s / suc n) m n k i s)
