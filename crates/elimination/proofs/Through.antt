-- The equations that are made for a start c with steps ss are solved by exactly the vectors that the claim describes, `through-wanted`.
use mathlib.Core.Path.{◌≡◌, subst}
use mathlib.Core.Logic.Iff
use mathlib.Core.List.{List, [], ◌∷◌, ◌++◌}
use Prim.Native.Nat.{ℕ, ◌%◌, ◌<◌}
use native.Mathlib.Nat.{mod-lt}
use native.Mathlib.Omega.{arith}
use lib.ListN.{length-map, replicate}
use lib.Dec.{T}
use Rattle.residue.proofs.Congruent.{congruent_sym, congruent_mod}
use Rattle.equations.specs.Vectors.{Vector, AllVectors, Below}
use Rattle.equations.specs.Equation.{Equation, dot, solves, Shaped}
use Rattle.equations.specs.Lines.{as_rows}
use Rattle.equations.specs.Claim.{Claim, no_solution, from}
use Rattle.equations.specs.Wanted.{Wants}
use Rattle.equations.proofs.Vectors.{vector-length, vector-below, below-append}
use Rattle.equations.proofs.Solving.{cons-solves}
use Rattle.equations.proofs.Claim.{describes_exists}
use Rattle.equations.proofs.Listed.{steps_vectors, steps_few, steps_solve}
use Rattle.elimination.specs.Through.{through, lines_through, annihilators}
use Rattle.elimination.proofs.Basis.{All, Zeros, all_into, long-vectors}
use Rattle.elimination.proofs.Span.{span_in}
use Rattle.elimination.proofs.Kernel.{Kernel, linear_kernel}
use Rattle.elimination.proofs.Described.{described_solves}
use Rattle.elimination.proofs.Marking.{all_of_every}
use Rattle.elimination.proofs.Orthogonal.{kernel_zeros, orthogonal_turned, orthogonal_span}

-- ---- their form

module _ (m : ℕ) (c : List ℕ) where
  through_start : (gs : List (List ℕ)) → T (solves m (lines_through m c gs) c)
  through_start [] = tt
  through_start (g ∷ gs) =
      cons-solves m (through m c g) (lines_through m c gs) c (congruent_sym (congruent_mod m (dot g c))) (through_start gs)

  pub through-shaped : (n : ℕ) (gs : List (List ℕ)) → AllVectors m n gs → Shaped n (lines_through m c gs)
  through-shaped n [] vs = tt
  through-shaped n (g ∷ gs) vs = (vector-length m n g vs.0, through-shaped n gs vs.1)

  pub through-residues : (n : ℕ) → 0 < m → (gs : List (List ℕ)) → AllVectors m n gs → Below m (as_rows (lines_through m c gs))
  through-residues n pos [] vs = tt
  through-residues n pos (g ∷ gs) vs =
      below-append m (g ++ (dot g c % m ∷ [])) (as_rows (lines_through m c gs))
      (below-append m g (dot g c % m ∷ []) (vector-below m n g vs.0) (mod-lt (dot g c) pos, tt))
      (through-residues n pos gs vs.1)

-- ---- what solves them

module _ (m n : ℕ) (pos : 0 < m) (c : List ℕ) (start : Vector m n c) (ss : List (List ℕ)) (vs : AllVectors m n ss) where
  abbrev gs : List (List ℕ)
  gs = annihilators m n ss

  abbrev es : List Equation
  es = lines_through m c gs

  -- ss are orthogonal to the generators, and these to ss
  orthogonal : All (Zeros m gs) ss
  orthogonal =
      let lines = lines_through m (replicate n 0) ss in
      orthogonal_turned m ss gs
      (all_into (Kernel m lines) (Zeros m ss) (λ g. (kernel_zeros m (replicate n 0) ss g).0) gs
      (all_of_every m lines gs (steps_solve m n lines)))

  -- so ss solve the equations with right sides 0
  in_kernel : All (Kernel m es) ss
  in_kernel = all_into (Zeros m gs) (Kernel m es) (λ s. (kernel_zeros m c gs s).1) ss orthogonal

  from_or_none : from c ss ≡ no_solution → ⊥
  from_or_none h = subst IsFrom h tt
    where
      IsFrom : Claim → Type 0
      IsFrom no_solution = ⊥
      IsFrom (from c ss) = Unit {0}

  pub through-wanted : Wants m n (from c ss) (lines_through m c (annihilators m n ss))
  through-wanted =
      let listed = steps_vectors m n (lines_through m (replicate n 0) ss) in
      let long = long-vectors m n ss vs in
      record {
        few = omega (arith, length-map gs (through m c), steps_few m n (lines_through m (replicate n 0) ss));
        shaped = through-shaped m c n gs listed;
        residues = through-residues m c n pos gs listed;
        exactly = λ v vec. Iff.symm (Iff.trans (describes_exists m c ss v)
            (described_solves m n c pos start ss long es (through_start m c gs) (λ W vw. (
              span_in m n (Kernel m es) (linear_kernel m es) ss long in_kernel W,
              λ k. orthogonal_span m n pos ss vs W vw ((kernel_zeros m c gs W).0 k),
            )) v vec));
        none = λ h. absurd (from_or_none h);
      }
