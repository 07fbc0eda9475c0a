-- A superfluous step may be left out: for a claim that is right, step j is superfluous exactly if the claim without it is right. If it is a
-- combination of the others, the two claims describe the same vectors. If both are right, c + s_j is described by the first, so it
-- solves the equations, so it is described by the second; c cancels.
--   superfluous_span        a step is superfluous exactly if it is in the span of the others
--   superfluous_left_out    the theorem
use mathlib.Core.Path.{◌≡◌, sym, subst}
use mathlib.Core.Logic.Iff
use mathlib.Core.Logic.{◌↔◌}
use mathlib.Core.List.{List, [], ◌∷◌}
use Prim.Native.Nat.{ℕ, zero, suc, ◌<◌}
use native.Mathlib.Omega.{arith}
use lib.ListN.{length, get_or}
use lib.Dec.{T}
use Rattle.residue.specs.Negative.{negative}
use Rattle.equations.specs.Lists.{without}
use Rattle.equations.specs.Vectors.{Vector, AllVectors, combine}
use Rattle.equations.specs.Equation.{Equation}
use Rattle.equations.specs.Claim.{from, is_right}
use Rattle.equations.specs.Marks.{superfluous}
use Rattle.equations.proofs.Truth.{same_of_both}
use Rattle.equations.proofs.Vectors.{vector-length}
use Rattle.equations.proofs.Without.{vectors_at, vectors-without}
use Rattle.equations.proofs.Combine.{vector-combine, combine-difference}
use Rattle.equations.proofs.Claim.{Described, describes_exists, right-all}
use Rattle.equations.proofs.Superfluous.{superfluous_exists}
use Rattle.elimination.proofs.Basis.{All, Long, long-vectors}
use Rattle.elimination.proofs.Span.{Span, linear_span, span_all, span_in}
use Rattle.elimination.proofs.Described.{length-difference, described_of_span, span_of_described, described_span}

-- ---- one step of a list, and the others

module _ (Q : List ℕ → Type 0) where
  all_at : (ss : List (List ℕ)) (j : ℕ) → j < length ss → All Q ss → Q (get_or ss j [])
  all_at [] j lt q = absurd (omega arith)
  all_at (s ∷ ss) zero lt q = q.0
  all_at (s ∷ ss) (suc j) lt q = all_at ss j (omega arith) q.1

  all_without : (ss : List (List ℕ)) (j : ℕ) → All Q ss → All Q (without j ss)
  all_without [] zero q = tt
  all_without [] (suc j) q = tt
  all_without (s ∷ ss) zero q = q.1
  all_without (s ∷ ss) (suc j) q = (q.0, all_without ss j q.1)

  all_with : (ss : List (List ℕ)) (j : ℕ) → Q (get_or ss j []) → All Q (without j ss) → All Q ss
  all_with [] j one q = tt
  all_with (s ∷ ss) zero one q = (one, q)
  all_with (s ∷ ss) (suc j) one q = (q.0, all_with ss j one q.1)

-- ---- what is described, by spans

module _ (m n : ℕ) (pos : 0 < m) where
  -- what leads from one span to another, from any start
  described_more : (c : List ℕ) → Vector m n c → (cs ds : List (List ℕ)) → Long n cs → Long n ds
      → ((W : List ℕ) → Span m cs W → Span m ds W)
      → (v : List ℕ) → Vector m n v → Described m c cs v → Described m c ds v
  described_more c vec cs ds lc ld into v vv d =
      subst (Described m c ds) same
      (described_of_span m n c pos vec ds ld W lw
      (into W (span_of_described m n c pos vec cs lc W lw (subst (Described m c cs) (sym same) d))))
    where
      W : List ℕ
      W = combine m 1 (negative m 1) v c

      lw : length W ≡ n
      lw = length-difference m n c pos vec v (vector-length m n v vv)

      same : combine m 1 1 c W ≡ v
      same = combine-difference m n pos v c vv vec

  -- ---- step j

  module _ (ss : List (List ℕ)) (vs : AllVectors m n ss) (j : ℕ) (lt : j < length ss) where
    abbrev s : List ℕ
    s = get_or ss j []

    abbrev others : List (List ℕ)
    others = without j ss

    long : Long n ss
    long = long-vectors m n ss vs

    long_others : Long n others
    long_others = long-vectors m n others (vectors-without m n ss j vs)

    vec_s : Vector m n s
    vec_s = vectors_at m n ss j vs lt

    pub superfluous_span : T (superfluous m n ss j) ↔ Span m (without j ss) (get_or ss j [])
    superfluous_span = Iff.trans (superfluous_exists m n ss j) (described_span m n pos others long_others s vec_s)

    others_in : (W : List ℕ) → Span m others W → Span m ss W
    others_in =
        span_in m n (Span m ss) (linear_span m ss) others long_others (all_without (Span m ss) ss j (span_all m ss))

    in_others : Span m others s → (W : List ℕ) → Span m ss W → Span m others W
    in_others h =
        span_in m n (Span m others) (linear_span m others) ss long (all_with (Span m others) ss j h (span_all m others))

    module _ (es : List Equation) (c : List ℕ) (vec : Vector m n c) (right : T (is_right m n es (from c ss))) where
      right_of_lem : T (superfluous m n ss j) → T (is_right m n es (from c others))
      right_of_lem t =
          (right-all m n es (from c others)).1
          (λ v vv. Iff.trans (Iff.trans (describes_exists m c others v) (same v vv))
          (Iff.trans (Iff.symm (describes_exists m c ss v)) ((right-all m n es (from c ss)).0 right v vv)))
        where
          same : (v : List ℕ) → Vector m n v → Described m c others v ↔ Described m c ss v
          same v vv = (
            described_more c vec others ss long_others long others_in v vv,
            described_more c vec ss others long long_others (in_others (superfluous_span.0 t)) v vv,
          )

      of_right : T (is_right m n es (from c others)) → T (superfluous m n ss j)
      of_right t =
          let ls = vector-length m n s vec_s in
          let v = combine m 1 1 c s in
          let vv = vector-combine m n 1 1 c s pos vec vec_s in
          superfluous_span.1
          (span_of_described m n c pos vec others long_others s ls
          ((describes_exists m c others v).0
          (((right-all m n es (from c others)).0 t v vv).1
          (((right-all m n es (from c ss)).0 right v vv).0
          ((describes_exists m c ss v).1
          (described_of_span m n c pos vec ss long s ls (all_at (Span m ss) ss j lt (span_all m ss))))))))

pub superfluous_left_out : (m n : ℕ) (es : List Equation) (c : List ℕ) (ss : List (List ℕ)) → 0 < m → Vector m n c
    → AllVectors m n ss → T (is_right m n es (from c ss)) → (j : ℕ) → j < length ss
    → superfluous m n ss j ≡ is_right m n es (from c (without j ss))
superfluous_left_out m n es c ss pos vec vs right j lt =
    same_of_both (superfluous m n ss j) (is_right m n es (from c (without j ss)))
    (right_of_lem m n pos ss vs j lt es c vec right) (of_right m n pos ss vs j lt es c vec right)
