-- The heads of the span of steps are the pivots of the basis of those steps. The rows of the basis are in the span. And
-- for the pivot d at j there is a point with m / d at j and zeros behind it at which the basis is 0, so that every step
-- is, and so is every line of the span: an entry x at j, with zeros before it, is killed by m / d.
--   span_head          the pivot is the head
--   span_divides       it divides m
use mathlib.Core.Path.{◌≡◌, refl, sym, ap, ◌∙◌, subst}
use mathlib.Core.List.{List, [], ◌∷◌, ◌++◌}
use Prim.Native.Nat.{ℕ, zero, suc, ◌+◌, ◌*◌, ◌<◌}
use native.Mathlib.Nat.{add-zero, mul_comm}
use native.Mathlib.Omega.{arith}
use lib.ListN.{length, drop, length-drop, replicate, length-replicate}
use Rattle.residue.specs.Congruent.{Congruent}
use Rattle.residue.specs.Divides.{Divides}
use Rattle.residue.proofs.Congruent.{congruent_of, congruent_of_eq, congruent_trans}
use Rattle.residue.proofs.Divides.{factor_cancel, divides_of_congruent}
use Rattle.equations.specs.Equation.{dot}
use Rattle.equations.proofs.Dot.{dot-nil, dot_zeros_right}
use Rattle.elimination.specs.Basis.{basis, pivot}
use Rattle.elimination.specs.Substitution.{extend}
use Rattle.elimination.proofs.Zeros.{Sat}
use Rattle.elimination.proofs.Closure.{Good}
use Rattle.elimination.proofs.Basis.{Long, length-basis, good_basis, zeros_basis}
use Rattle.elimination.proofs.Substitution.{length-extend, drop-extend, sat_extend}
use Rattle.elimination.proofs.Row.{RowAt, row_at, pivot_divides}
use Rattle.elimination.proofs.Leading.{sat_zeros}
use Rattle.elimination.proofs.Linear.{linear-zero, rows-basis, rows_drop}
use Rattle.elimination.proofs.Heads.{Head}
use Rattle.elimination.proofs.Span.{Span, linear_span, span_all, span_in}

dot_led : (j : ℕ) (W X : List ℕ) → dot (replicate j 0 ++ W) X ≡ dot W (drop j X)
dot_led zero W X = refl
dot_led (suc j) W [] = sym (dot-nil W)
dot_led (suc j) W (x ∷ X) = omega (arith, dot_led j W X)

module _ (m n : ℕ) (cs : List (List ℕ)) (pos : 0 < m) (long : Long n cs) where
  abbrev C : List (List ℕ)
  C = basis m n 0 cs

  long-all : Long (n + 0) cs
  long-all = subst (λ (w : ℕ). Long w cs) (sym (add-zero n)) long

  good_C : Good m 0 C
  good_C = good_basis m n 0 pos cs long-all

  length_C : length C ≡ n
  length_C = length-basis m n 0 pos cs

  module _ (j i : ℕ) (place : j + suc i ≡ n) (row : RowAt m 0 j (basis m n 0 cs)) where
    abbrev S : List ℕ
    S = row.e ∷ replicate i 0

    abbrev X : List ℕ
    X = extend m j C S

    length_S : length S ≡ suc i
    length_S = ap suc (length-replicate i 0)

    length_rest : length row.rest ≡ i
    length_rest = omega (arith, ap length row.here, length-drop j C, length_C)

    sat_S : Sat m (drop j C) S
    sat_S =
        rw row.here (
          congruent_of 0 1 (omega (arith, dot_zeros_right row.r i, row.factor)),
          sat_zeros m row.rest i (omega (arith, length_rest)),
        )

    zero_X : (W : List ℕ) → Span m cs W → Congruent m (dot W X) 0
    zero_X =
        span_in m n (λ W. Congruent m (dot W X) 0) (linear-zero m X) cs long
        (zeros_basis m n 0 pos cs X long-all
        (length-extend m j C S (omega (arith, length_C)) ∙ omega (arith, length_S))
        (sat_extend m j C S pos good_C.closure (omega (arith, length_S, length_C)) sat_S))

    value_X : (x : ℕ) (W : List ℕ) → dot (replicate j 0 ++ (x ∷ W)) X ≡ row.e * x
    value_X x W =
        dot_led j (x ∷ W) X ∙ ap (dot (x ∷ W)) (drop-extend m j 0 j C S (omega (arith, length_C)) (omega arith))
        ∙ omega (arith, dot_zeros_right W i)

    head_at : Head (Span m cs) j i row.d
    head_at = record {
      rest = row.r;
      length_rest = omega (arith, row.long, length_rest);
      member =
          rows_drop (Span m cs) j C row.rest (row.d ∷ row.r)
          (rows-basis m n 0 (Span m cs) cs pos (linear_span m cs) long-all (span_all m cs)) row.here;
      divides = λ x W lw s.
          divides_of_congruent
          (factor_cancel row.e row.d x pos (row.factor ∙ mul_comm row.d row.e)
          (congruent_trans (congruent_of_eq (sym (value_X x W))) (zero_X _ s)));
    }

  pub span_head : (j i : ℕ) → j + suc i ≡ n → Head (Span m cs) j i (pivot j (basis m n 0 cs))
  span_head j i place = at (row_at m 0 j C good_C (omega (arith, length_C)))
    where
      at : RowAt m 0 j C → Head (Span m cs) j i (pivot j C)
      at row = rw row.pivot_is (head_at j i place row)

  pub span_divides : (j : ℕ) → j < n → Divides (pivot j (basis m n 0 cs)) m
  span_divides j lt = pivot_divides m 0 j C pos good_C (omega (arith, length_C))
