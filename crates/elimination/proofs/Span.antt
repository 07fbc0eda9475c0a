-- The lines with the sums of products of a combination of the steps cs: the least set that is
-- closed under combination and has the steps.
--   Span               the coefficients, and the sums of products
--   linear_span        closed under combination
--   span_all           contains the steps
--   combination_in     a set closed under combination that contains the steps contains their combinations,
--   span_in            is contained in every set closed under combination that contains them
use mathlib.Core.Path.{◌≡◌, sym, ap, ◌∙◌}
use mathlib.Core.List.{List, [], ◌∷◌}
use Prim.Native.Nat.{ℕ, suc, ◌+◌}
use native.Mathlib.Omega.{arith}
use lib.ListN.{length, replicate, length-replicate}
use Rattle.residue.specs.Congruent.{Congruent}
use Rattle.residue.proofs.Congruent.{congruent_of_eq, congruent_sym, congruent_trans, congruent_linear}
use Rattle.equations.specs.Vectors.{combine, combination}
use Rattle.equations.specs.Equation.{dot}
use Rattle.equations.proofs.Dot.{dot_zeros, length-combine, dot-combine}
use Rattle.elimination.proofs.Basis.{All, Long}
use Rattle.elimination.proofs.Linear.{Linear, linear-same}
use Rattle.elimination.proofs.Combination.{values, length-combination, dot-combination}

pub record Span (m : ℕ) (cs : List (List ℕ)) (W : List ℕ) : Type 0 where
  pub ts : List ℕ
  pub length_ts : length ts ≡ length cs
  pub sums : (X : List ℕ) → Congruent m (dot W X) (dot ts (values cs X))

pub linear_span : (m : ℕ) (cs : List (List ℕ)) → Linear m (Span m cs)
linear_span m cs = record {
  null = λ c h. record {
    ts = replicate (length cs) 0;
    length_ts = length-replicate (length cs) 0;
    sums = λ X. congruent_trans (h X) (congruent_of_eq (sym (dot_zeros (length cs) (values cs X))));
  };
  combined = λ s t a b c p q h.
      let same : length p.ts ≡ length q.ts = p.length_ts ∙ sym q.length_ts in
      record {
        ts = combine m s t p.ts q.ts;
        length_ts = length-combine m s t p.ts q.ts same ∙ p.length_ts;
        sums = λ X. congruent_trans (h X)
            (congruent_trans (congruent_linear s t (p.sums X) (q.sums X))
            (congruent_sym (dot-combine m s t p.ts q.ts (values cs X) same)));
      };
}

-- ---- the steps are in it, and nothing but what they make

span_more : (m : ℕ) (c : List ℕ) (cs ds : List (List ℕ)) → All (Span m cs) ds → All (Span m (c ∷ cs)) ds
span_more m c cs [] q = tt
span_more m c cs (d ∷ ds) q = (
  record {
    ts = 0 ∷ q.0.ts;
    length_ts = ap suc q.0.length_ts;
    sums = λ X. congruent_trans (q.0.sums X) (congruent_of_eq (omega arith));
  },
  span_more m c cs ds q.1,
)

pub span_all : (m : ℕ) (cs : List (List ℕ)) → All (Span m cs) cs
span_all m [] = tt
span_all m (c ∷ cs) = (
  record {
    ts = 1 ∷ replicate (length cs) 0;
    length_ts = ap suc (length-replicate (length cs) 0);
    sums = λ X. congruent_of_eq (omega (arith, dot_zeros (length cs) (values cs X)));
  },
  span_more m c cs cs (span_all m cs),
)

module _ (m n : ℕ) (Q : List ℕ → Type 0) (linear : Linear m Q) where
  pub combination_in : (cs : List (List ℕ)) (ts : List ℕ) → Long n cs → All Q cs → Q (combination m (replicate n 0) cs ts)
  combination_in [] ts long q = linear.null _ (λ X. congruent_of_eq (dot_zeros n X))
  combination_in (c ∷ cs) [] long q = linear.null _ (λ X. congruent_of_eq (dot_zeros n X))
  combination_in (c ∷ cs) (t ∷ ts) long q =
      linear.combined 1 t (combination m (replicate n 0) cs ts) c _ (combination_in cs ts long.1 q.1) q.0
      (λ X. dot-combine m 1 t (combination m (replicate n 0) cs ts) c X
      (length-combination m n (replicate n 0) (length-replicate n 0) cs ts long.1 ∙ sym long.0))

  pub span_in : (cs : List (List ℕ)) → Long n cs → All Q cs → (W : List ℕ) → Span m cs W → Q W
  span_in cs long q W s =
      linear-same Q linear (combination m (replicate n 0) cs s.ts) W (combination_in cs s.ts long q)
      (λ X. congruent_trans (s.sums X)
      (congruent_trans {b = dot (replicate n 0) X + dot s.ts (values cs X)}
      (congruent_of_eq (omega (arith, dot_zeros n X)))
      (congruent_sym (dot-combination m n (replicate n 0) (length-replicate n 0) cs s.ts X long s.length_ts))))
