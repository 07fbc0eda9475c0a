-- The marking of specs/ gives document 01's: "Pass if the described vectors are those that solve
-- the ledger's equations, fail otherwise."
--   all_of_every    the test of the steps
--   marking         a claim of a starting vector with its steps
--   marking-none    a claim of no solution
use mathlib.Core.Path.{◌≡◌, subst}
use mathlib.Core.Logic.Iff
use mathlib.Core.Logic.{◌↔◌}
use mathlib.Core.List.{List, [], ◌∷◌}
use mathlib.Core.Option.{some}
use mathlib.Core.Bool.{true, false, ◌&&◌}
use Prim.Native.Nat.{ℕ, ◌<◌}
use lib.ListN.{length, replicate, length-replicate}
use lib.Dec.{T}
use mir.Facts.{and_yes, yes_and}
use Rattle.residue.specs.Negative.{negative}
use Rattle.residue.proofs.Congruent.{congruent_of_eq}
use Rattle.equations.specs.Lists.{every}
use Rattle.equations.specs.Vectors.{Vector, combine}
use Rattle.equations.specs.Equation.{Equation, solves, homogeneous, Shaped}
use Rattle.equations.specs.Answer.{start_of}
use Rattle.equations.specs.Claim.{no_solution, from, is_right}
use Rattle.equations.proofs.Truth.{true_of, false_of, same_of_both}
use Rattle.equations.proofs.Dot.{dot_zeros}
use Rattle.equations.proofs.Vectors.{vector-length, vector_of, below-combine}
use Rattle.equations.proofs.Combine.{combine_zeros, combine-difference}
use Rattle.equations.proofs.Answer.{start_solves}
use Rattle.equations.proofs.OwnAnswer.{none_right}
use Rattle.equations.proofs.Claim.{Described, describes-nothing, describes_exists, right-all}
use Rattle.elimination.specs.Basis.{basis, pivot}
use Rattle.elimination.specs.Tableau.{tableau, tableau_start}
use Rattle.elimination.specs.Marking.{agree, claim_right}
use Rattle.elimination.proofs.Basis.{All, Long}
use Rattle.elimination.proofs.Answer.{answer_start, answer-none}
use Rattle.elimination.proofs.Span.{Span, linear_span, span_all, span_in}
use Rattle.elimination.proofs.Kernel.{Kernel, linear_kernel}
use Rattle.elimination.proofs.Described.{length_shifted, length-difference, described_of_span, span_of_described, solves_of_kernel, kernel_of_solves}
use Rattle.elimination.proofs.Agree.{agree_of_test, test_of_agree, kernel_span, agree_of_same}

-- the test of the steps
pub all_of_every : (m : ℕ) (es : List Equation) (cs : List (List ℕ))
    → T (every (solves m (homogeneous es)) cs) → All (Kernel m es) cs
all_of_every m es [] t = tt
all_of_every m es (c ∷ cs) t =
    let both = and_yes (solves m (homogeneous es) c) (every (solves m (homogeneous es)) cs) t in
    (both.0, all_of_every m es cs both.1)

every_of_all : (m : ℕ) (es : List Equation) (cs : List (List ℕ))
    → All (Kernel m es) cs → T (every (solves m (homogeneous es)) cs)
every_of_all m es [] q = tt
every_of_all m es (c ∷ cs) q =
    yes_and (solves m (homogeneous es) c) (every (solves m (homogeneous es)) cs) q.0 (every_of_all m es cs q.1)

-- what passes from one set to another, for lines of n entries
all-long : (n : ℕ) (Q K : List ℕ → Type 0) (ls : List (List ℕ)) → ((W : List ℕ) → length W ≡ n → Q W → K W) → Long n ls
    → All Q ls → All K ls
all-long n Q K [] f long q = tt
all-long n Q K (l ∷ ls) f long q = (f l long.0 q.0, all-long n Q K ls f long.1 q.1)

module _ (m n k : ℕ) (es : List Equation) (c : List ℕ) (cs : List (List ℕ)) (pos : 0 < m) (shaped : Shaped n es)
    (vec : Vector m n c) (long : Long n cs) where
  -- of each vector: it is described if and only if it solves
  abbrev Same : Type 0
  Same = (v : List ℕ) → Vector m n v → Described m c cs v ↔ T (solves m es v)

  -- ---- a right claim describes the solutions

  module _ (start : T (solves m es c)) (into : (W : List ℕ) → length W ≡ n → Span m cs W → Kernel m es W)
      (onto : (W : List ℕ) → length W ≡ n → Kernel m es W → Span m cs W) where
    same-of-sets : Same
    same-of-sets v vv =
        subst (λ (v : List ℕ). Described m c cs v ↔ T (solves m es v)) (combine-difference m n pos v c vv vec) (
          (λ d. solves_of_kernel m n c pos vec es start W lw
              (into W lw (span_of_described m n c pos vec cs long W lw d))),
          λ t. described_of_span m n c pos vec cs long W lw
              (onto W lw (kernel_of_solves m n c pos vec es start W lw t)),
        )
      where
        W : List ℕ
        W = combine m 1 (negative m 1) v c

        lw : length W ≡ n
        lw = length-difference m n c pos vec v (vector-length m n v vv)

  -- ---- and a claim that describes the solutions is right

  module _ (same : Same) where
    vector_shifted : (W : List ℕ) → length W ≡ n → Vector m n (combine m 1 1 c W)
    vector_shifted W lw = vector_of m n _ (length_shifted m n c pos vec W lw) (below-combine m 1 1 c W pos)

    shifted_solves : (W : List ℕ) → length W ≡ n → Span m cs W → T (solves m es (combine m 1 1 c W))
    shifted_solves W lw s =
        (same (combine m 1 1 c W) (vector_shifted W lw)).0 (described_of_span m n c pos vec cs long W lw s)

    claimed-solves : T (solves m es c)
    claimed-solves =
        subst (λ (v : List ℕ). T (solves m es v)) (combine_zeros m n c vec)
        (shifted_solves (replicate n 0) (length-replicate n 0)
        ((linear_span m cs).null (replicate n 0) (λ X. congruent_of_eq (dot_zeros n X))))

    span_kernel : (W : List ℕ) → length W ≡ n → Span m cs W → Kernel m es W
    span_kernel W lw s = kernel_of_solves m n c pos vec es claimed-solves W lw (shifted_solves W lw s)

    kernel_spanned : (W : List ℕ) → length W ≡ n → Kernel m es W → Span m cs W
    kernel_spanned W lw t =
        span_of_described m n c pos vec cs long W lw
        ((same (combine m 1 1 c W) (vector_shifted W lw)).1 (solves_of_kernel m n c pos vec es claimed-solves W lw t))

    steps_solve : All (Kernel m es) cs
    steps_solve = all-long n (Span m cs) (Kernel m es) cs span_kernel long (span_all m cs)

  -- ---- the whole

  right_of_same : Same → T (claim_right m n k es c cs)
  unfolding claim_right
  right_of_same same =
      yes_and (solves m es c && every (solves m (homogeneous es)) cs) (agree m n (tableau m n k es) (basis m n 0 cs))
      (yes_and (solves m es c) (every (solves m (homogeneous es)) cs) (claimed-solves same)
      (every_of_all m es cs (steps_solve same)))
      (test_of_agree m n (tableau m n k es) (basis m n 0 cs)
      (agree_of_same m n k es cs pos shaped long (span_kernel same) (kernel_spanned same)))

  same_of_right : T (claim_right m n k es c cs) → Same
  unfolding claim_right
  same_of_right t =
      let tests = solves m es c && every (solves m (homogeneous es)) cs in
      let all = and_yes tests (agree m n (tableau m n k es) (basis m n 0 cs)) t in
      let solved = and_yes (solves m es c) (every (solves m (homogeneous es)) cs) all.0 in
      let steps = all_of_every m es cs solved.1 in
      same-of-sets solved.0 (λ W lw. span_in m n (Kernel m es) (linear_kernel m es) cs long steps W)
      (kernel_span m n k es cs pos shaped long (agree_of_test m n (tableau m n k es) (basis m n 0 cs) all.1) steps)

  pub marking : claim_right m n k es c cs ≡ is_right m n es (from c cs)
  marking =
      same_of_both (claim_right m n k es c cs) (is_right m n es (from c cs))
      (λ t. (right-all m n es (from c cs)).1
      (λ v vec. Iff.trans (describes_exists m c cs v) (same_of_right t v vec)))
      (λ t. right_of_same
      (λ v vec. Iff.trans (Iff.symm (describes_exists m c cs v)) ((right-all m n es (from c cs)).0 t v vec)))

-- "0 claims no solution": right exactly where the pivot of the constant's own row is not m
pub marking-none : (m n k : ℕ) (es : List Equation) → 0 < m → Shaped n es
    → (pivot n (tableau m n k es) ≡ m → is_right m n es no_solution ≡ false)
    × ((pivot n (tableau m n k es) ≡ m → ⊥) → is_right m n es no_solution ≡ true)
marking-none m n k es pos shaped = (
  (λ h. false_of (is_right m n es no_solution) (described (answer_start m n k es pos shaped h))),
  λ h. true_of (is_right m n es no_solution) (none_right m n es (answer-none m n k es pos shaped h)),
)
  where
    described : start_of m n es ≡ some (tableau_start m n k es) → T (is_right m n es no_solution) → ⊥
    described h t =
        let start = tableau_start m n k es in
        let found = start_solves m n es start h in
        describes-nothing m start (((right-all m n es no_solution).0 t start found.0).1 found.1)
