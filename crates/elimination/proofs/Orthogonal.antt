-- What is orthogonal to all that the steps ss are orthogonal to, is a combination of ss. Proof: the transposed system, whose solutions are the
-- coefficients of such a combination, has a solution, or multipliers refute it. Those would be a vector that ss are orthogonal to and w
-- is not.
--   kernel_zeros        a vector solves lines through c with right sides 0: the lines' coefficients are orthogonal to it
--   orthogonal_turned   all of ss are orthogonal to all of gs: and all of gs to all of ss
--   orthogonal_span     the theorem
use mathlib.Core.Path.{◌≡◌, refl, sym, ap, ap₂, ◌∙◌, subst}
use mathlib.Core.Logic.{◌↔◌, inl, inr}
use mathlib.Core.List.{List, [], ◌∷◌}
use Prim.Native.Nat.{ℕ, suc, ◌+◌, ◌<◌}
use native.Mathlib.Omega.{arith}
use lib.ListN.{length, get_or, drop, replicate, drop_of_length-le, get_or-map}
use lib.Seq.{drop-cons}
use Rattle.residue.specs.Congruent.{Congruent}
use Rattle.residue.proofs.Congruent.{congruent_of_eq, congruent_trans}
use Rattle.equations.specs.Vectors.{Vector, AllVectors}
use Rattle.equations.specs.Equation.{Equation, dot, homogeneous}
use Rattle.equations.specs.Multipliers.{column, rights}
use Rattle.equations.specs.Promises.{Written}
use Rattle.equations.proofs.Dot.{dot_comm}
use Rattle.equations.proofs.Vectors.{vector-length, vector_of}
use Rattle.equations.proofs.Listed.{steps_vectors}
use Rattle.equations.proofs.Solving.{solves-cons, cons-solves, zero_right}
use Rattle.equations.proofs.Answer.{start_solves, Found, start_found, level-written}
use Rattle.equations.proofs.Multipliers.{Refutation, refutes_is}
use Rattle.elimination.specs.Multipliers.{multipliers_of}
use Rattle.elimination.specs.Relations.{across}
use Rattle.elimination.specs.Through.{through, lines_through, annihilators}
use Rattle.elimination.proofs.Basis.{All, Zeros, all_into, long-vectors}
use Rattle.elimination.proofs.Multipliers.{multipliers_refute}
use Rattle.elimination.proofs.Span.{Span, combination_in}
use Rattle.elimination.proofs.Kernel.{Kernel, linear_kernel}
use Rattle.elimination.proofs.Described.{described_span}
use Rattle.elimination.proofs.Transposed.{length-across, across-shaped, across-solves}

-- ---- orthogonal

pub kernel_zeros : (m : ℕ) (c : List ℕ) (gs : List (List ℕ)) (w : List ℕ) → Kernel m (lines_through m c gs) w ↔ Zeros m gs w
kernel_zeros m c [] w = ((λ t. tt), λ z. tt)
kernel_zeros m c (g ∷ gs) w =
    let level = zero_right (through m c g) in
    let rest = kernel_zeros m c gs w in (
      (λ t. let both = solves-cons m level (homogeneous (lines_through m c gs)) w t in (both.0, rest.0 both.1)),
      λ z. cons-solves m level (homogeneous (lines_through m c gs)) w z.0 (rest.1 z.1),
    )

module _ (m : ℕ) where
  turned-one : (s : List ℕ) (ss gs : List (List ℕ)) → All (Zeros m (s ∷ ss)) gs → Zeros m gs s
  turned-one s ss [] z = tt
  turned-one s ss (g ∷ gs) z = (congruent_trans (congruent_of_eq (dot_comm g s)) z.0.0, turned-one s ss gs z.1)

  turned_rest : (s : List ℕ) (ss gs : List (List ℕ)) → All (Zeros m (s ∷ ss)) gs → All (Zeros m ss) gs
  turned_rest s ss [] z = tt
  turned_rest s ss (g ∷ gs) z = (z.0.1, turned_rest s ss gs z.1)

  pub orthogonal_turned : (ss gs : List (List ℕ)) → All (Zeros m ss) gs → All (Zeros m gs) ss
  orthogonal_turned [] gs z = tt
  orthogonal_turned (s ∷ ss) gs z = (turned-one s ss gs z, orthogonal_turned ss gs (turned_rest s ss gs z))

-- ---- the transposed system's columns are the steps

rights-across : (p : ℕ) (ss : List (List ℕ)) (w : List ℕ) → rights (across p ss w) ≡ w
rights-across p ss [] = refl
rights-across p ss (x ∷ w) = ap₂ ◌∷◌ refl (rights-across (suc p) ss w)

column-across : (p i : ℕ) (ss : List (List ℕ)) (w : List ℕ) → p + length w ≡ length (get_or ss i [])
    → column i (across p ss w) ≡ drop p (get_or ss i [])
column-across p i ss [] e = sym (drop_of_length-le (get_or ss i []) {i = p} (omega arith))
column-across p i ss (x ∷ w) e =
    ap₂ ◌∷◌ (get_or-map (λ (s : List ℕ). get_or s p 0) ss i []) (column-across (suc p) i ss w (omega arith))
    ∙ sym (drop-cons (get_or ss i []) p 0 (omega arith))

-- what holds of each, by its place
zeros_at : (m n : ℕ) (ks : List ℕ) (ss : List (List ℕ)) → AllVectors m n ss
    → ((i : ℕ) → i < length ss → length (get_or ss i []) ≡ n → Congruent m (dot ks (get_or ss i [])) 0) → Zeros m ss ks
zeros_at m n ks [] vs f = tt
zeros_at m n ks (s ∷ ss) vs f = (
  congruent_trans (congruent_of_eq (dot_comm s ks)) (f 0 (omega arith) (vector-length m n s vs.0)),
  zeros_at m n ks ss vs.1 (λ i lt long. f (suc i) (omega arith) long),
)

-- ---- the theorem

module _ (m n : ℕ) (pos : 0 < m) (ss : List (List ℕ)) (vs : AllVectors m n ss) (w : List ℕ) (vec : Vector m n w)
    (orthogonal : Zeros m (annihilators m n ss) w) where
  abbrev gs : List (List ℕ)
  gs = annihilators m n ss

  -- a vector that ss are orthogonal to is a combination of the generators, so w is orthogonal to it too
  orthogonal_too : (ks : List ℕ) → Vector m n ks → Zeros m ss ks → Congruent m (dot w ks) 0
  orthogonal_too ks vec-ks z = by (level-written m n lines pos ks vec-ks ((kernel_zeros m (replicate n 0) ss ks).1 z))
    where
      lines : List Equation
      lines = lines_through m (replicate n 0) ss

      -- the equation of w itself
      own : List Equation
      own = lines_through m w (w ∷ [])

      turned : All (Kernel m (lines_through m w (w ∷ []))) gs
      turned =
          all_into (Zeros m (w ∷ [])) (Kernel m own) (λ g. (kernel_zeros m w (w ∷ []) g).1) gs
          (orthogonal_turned m gs (w ∷ []) (orthogonal, tt))

      by : Written m (replicate n 0) gs ks → Congruent m (dot w ks) 0
      by (us, within, is) =
          ((kernel_zeros m w (w ∷ []) ks).0
          (subst (Kernel m own) is
          (combination_in m n (Kernel m own) (linear_kernel m own) gs us (long-vectors m n gs (steps_vectors m n lines)) turned))).0

  refuted : (ks : List ℕ) → Refutation m (length ss) (across 0 ss w) ks → ⊥
  refuted ks r =
      r.right
      (congruent_trans (congruent_of_eq (ap (dot ks) (rights-across 0 ss w) ∙ dot_comm ks w))
      (orthogonal_too ks
      (vector_of m n ks (r.one_each ∙ length-across 0 ss w ∙ vector-length m n w vec) r.below)
      (zeros_at m n ks ss vs (λ i lt long.
      congruent_trans
      (congruent_of_eq (ap (dot ks) (sym (column-across 0 i ss w (omega (arith, vector-length m n w vec, long)))))) (r.columns i lt)))))

  pub orthogonal_span : Span m ss w
  orthogonal_span = go (start_found m (length ss) (across 0 ss w))
    where
      go : Found m (length ss) (across 0 ss w) → Span m ss w
      go (inl none) =
          let ks = multipliers_of m (length ss) (across 0 ss w) in
          absurd
          (refuted ks
          ((refutes_is m (length ss) (across 0 ss w) ks).0
          (multipliers_refute m (length ss) (across 0 ss w) pos (across-shaped 0 ss w) none)))
      go (inr (ts, some)) =
          let solved = start_solves m (length ss) (across 0 ss w) ts some in
          (described_span m n pos ss (long-vectors m n ss vs) w vec).0
          (ts, solved.0, (across-solves m n pos ss vs w vec ts).0 solved.1)
