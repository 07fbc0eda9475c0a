-- A claim with the start c, and a line W: c + W is described exactly if W is in the span of the steps, and it solves
-- the equations exactly if W solves them with right sides 0. Every vector is such a c + W, by `combine-difference`.
--   length_shifted, length-difference   the form of c + W and of v - c
--   described_of_span, span_of_described
--   solves_of_kernel, kernel_of_solves
--   described_solves                    so the described vectors are the solutions where span and solutions with right sides 0 are the same
--   described_span                      from zero, a vector is described exactly if it is in the span
use mathlib.Core.Path.{◌≡◌, refl, sym, ap, ◌∙◌, subst}
use mathlib.Core.Logic.{◌↔◌}
use mathlib.Core.List.{List}
use Prim.Native.Nat.{ℕ, ◌+◌, ◌<◌}
use native.Mathlib.Omega.{arith}
use lib.ListN.{length, replicate}
use lib.Dec.{T}
use Rattle.residue.specs.Congruent.{Congruent}
use Rattle.residue.specs.Negative.{negative}
use Rattle.residue.proofs.Congruent.{congruent_of_eq, congruent_refl, congruent_sym, congruent_trans, congruent_add, congruent_cancel}
use Rattle.equations.specs.Vectors.{Vector, combine, combination}
use Rattle.equations.specs.Equation.{Equation, dot, solves}
use Rattle.equations.proofs.Dot.{length-combine, dot-combine}
use Rattle.equations.proofs.Vectors.{vector-length, vector-below, vector_of, below-combine}
use Rattle.equations.proofs.Combine.{vector-combine, vector_zeros, combine_comm, combine_zeros, combine-difference}
use Rattle.equations.proofs.Solving.{difference-solves, sum-solves}
use Rattle.equations.proofs.Claim.{Described}
use Rattle.elimination.proofs.Basis.{Long}
use Rattle.elimination.proofs.Combination.{values, length-combination, dot-combination, below-combination, same_sums}
use Rattle.elimination.proofs.Span.{Span}
use Rattle.elimination.proofs.Kernel.{Kernel}

module _ (m n : ℕ) (c : List ℕ) (pos : 0 < m) (vec : Vector m n c) where
  long_c : length c ≡ n
  long_c = vector-length m n c vec

  pub length_shifted : (W : List ℕ) → length W ≡ n → length (combine m 1 1 c W) ≡ n
  length_shifted W lw = length-combine m 1 1 c W (long_c ∙ sym lw) ∙ long_c

  dot_shifted : (W X : List ℕ) → length W ≡ n → Congruent m (dot (combine m 1 1 c W) X) (dot c X + dot W X)
  dot_shifted W X lw = congruent_trans (dot-combine m 1 1 c W X (long_c ∙ sym lw)) (congruent_of_eq (omega arith))

  pub length-difference : (v : List ℕ) → length v ≡ n → length (combine m 1 (negative m 1) v c) ≡ n
  length-difference v lv = length-combine m 1 (negative m 1) v c (lv ∙ sym long_c) ∙ lv

  -- ---- the steps

  module _ (cs : List (List ℕ)) (long : Long n cs) (W : List ℕ) (lw : length W ≡ n) where
    pub described_of_span : Span m cs W → Described m c cs (combine m 1 1 c W)
    described_of_span s = (
      us,
      vector_of m (length cs) us length_us (below-combine m 1 0 s.ts s.ts pos),
      same_sums m (combination m c cs us) (combine m 1 1 c W)
          (below-combination m c cs us pos (vector-below m n c vec)) (below-combine m 1 1 c W pos)
          (length-combination m n c long_c cs us long ∙ sym (length_shifted W lw)) same,
    )
      where
        -- the coefficients brought below m
        us : List ℕ
        us = combine m 1 0 s.ts s.ts

        length_us : length us ≡ length cs
        length_us = length-combine m 1 0 s.ts s.ts refl ∙ s.length_ts

        same : (X : List ℕ) → Congruent m (dot (combination m c cs us) X) (dot (combine m 1 1 c W) X)
        same X =
            congruent_trans (dot-combination m n c long_c cs us X long length_us)
            (congruent_trans
            (congruent_add (congruent_refl {a = dot c X})
            (congruent_trans (dot-combine m 1 0 s.ts s.ts (values cs X) refl)
            (congruent_trans {b = dot s.ts (values cs X)} (congruent_of_eq (omega arith))
            (congruent_sym (s.sums X)))))
            (congruent_sym (dot_shifted W X lw)))

    pub span_of_described : Described m c cs (combine m 1 1 c W) → Span m cs W
    span_of_described (ts, coefficients, is) = record {
      ts = ts;
      length_ts = vector-length m (length cs) ts coefficients;
      sums = λ X.
          congruent_cancel (dot c X)
          (congruent_trans (congruent_of_eq (omega arith))
          (congruent_trans (congruent_sym (dot_shifted W X lw))
          (congruent_trans (congruent_of_eq (ap (λ (v : List ℕ). dot v X) (sym is)))
          (congruent_trans (dot-combination m n c long_c cs ts X long (vector-length m (length cs) ts coefficients))
          (congruent_of_eq (omega arith))))));
    }

  -- ---- the equations

  module _ (es : List Equation) (start : T (solves m es c)) (W : List ℕ) (lw : length W ≡ n) where
    pub solves_of_kernel : Kernel m es W → T (solves m es (combine m 1 1 c W))
    solves_of_kernel = sum-solves m 1 c W (long_c ∙ sym lw) es start

    pub kernel_of_solves : T (solves m es (combine m 1 1 c W)) → Kernel m es W
    kernel_of_solves = difference-solves m c W (long_c ∙ sym lw) es start

  -- ---- both

  pub described_solves : (cs : List (List ℕ)) → Long n cs → (es : List Equation) → T (solves m es c)
      → ((W : List ℕ) → Vector m n W → Span m cs W ↔ Kernel m es W)
      → (v : List ℕ) → Vector m n v → Described m c cs v ↔ T (solves m es v)
  described_solves cs long es start same v vv =
      subst (λ (v : List ℕ). Described m c cs v ↔ T (solves m es v)) (combine-difference m n pos v c vv vec) (
        (λ d. solves_of_kernel es start W lw ((same W vw).0 (span_of_described cs long W lw d))),
        λ t. described_of_span cs long W lw ((same W vw).1 (kernel_of_solves es start W lw t)),
      )
    where
      W : List ℕ
      W = combine m 1 (negative m 1) v c

      vw : Vector m n W
      vw = vector-combine m n 1 (negative m 1) v c pos vv vec

      lw : length W ≡ n
      lw = vector-length m n W vw

pub described_span : (m n : ℕ) → 0 < m → (cs : List (List ℕ)) → Long n cs → (v : List ℕ) → Vector m n v
    → Described m (replicate n 0) cs v ↔ Span m cs v
described_span m n pos cs long v vec =
    let zeros = vector_zeros m n pos in
    let lv = vector-length m n v vec in
    subst (λ (z : List ℕ). Described m (replicate n 0) cs z ↔ Span m cs v)
    (combine_comm m (replicate n 0) v ∙ combine_zeros m n v vec) (
      span_of_described m n (replicate n 0) pos zeros cs long v lv,
      described_of_span m n (replicate n 0) pos zeros cs long v lv,
    )
