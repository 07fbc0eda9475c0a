-- Multipliers that refute equations, said by for-all; and that refuted equations have no solution.
--   Refutation        the equations so multiplied add up to 0 = a number that is not 0
--   refutes_is        `refutes` says that
--   refuted_none      no vector solves them
use mathlib.Core.Path.{◌≡◌, refl, ap}
use mathlib.Core.Logic.{◌↔◌}
use mathlib.Core.List.{List, [], ◌∷◌, map}
use mathlib.Core.Option.{none}
use mathlib.Core.Bool.{Bool, ◌&&◌, not}
use Prim.Native.Nat.{ℕ, zero, suc, ◌+◌, ◌*◌, ◌%◌, ◌<◌}
use native.Mathlib.Omega.{arith}
use lib.ListN.{length, get_or, drop}
use lib.Dec.{T, eqb, eqb→eq, T_not, not_T}
use mir.Facts.{and_yes, yes_and, yes_eqb}
use borrow.Author.Count.{below_more}
use Rattle.residue.specs.Congruent.{Congruent}
use Rattle.residue.proofs.Congruent.{congruent_of_eq, congruent_refl, congruent_sym, congruent_trans, congruent_add, congruent_mul, congruent_of_remainder, remainder_of_congruent}
use Rattle.equations.specs.Equation.{Equation, dot, solves}
use Rattle.equations.specs.Answer.{start_of}
use Rattle.equations.specs.Multipliers.{column, rights, all_below, zero_columns, refutes}
use Rattle.equations.proofs.Dot.{dot-nil}
use Rattle.equations.specs.Vectors.{Below}
use Rattle.equations.proofs.Vectors.{vector-length, all-below}
use Rattle.equations.proofs.Solving.{solves-cons}
use Rattle.equations.proofs.Answer.{start_none}

pub record Refutation (m n : ℕ) (es : List Equation) (ks : List ℕ) : Type 0 where
  pub one_each : length ks ≡ length es
  pub below : Below m ks
  pub columns : (j : ℕ) → j < n → Congruent m (dot ks (column j es)) 0
  pub right : Congruent m (dot ks (rights es)) 0 → ⊥

-- ---- the parts of the test

remainder_zero : (m a : ℕ) → T (eqb (a % m) 0) ↔ Congruent m a 0
remainder_zero m a = (
  (λ t. congruent_of_remainder (eqb→eq (a % m) 0 t)),
  λ c. yes_eqb (remainder_of_congruent c),
)

zero_columns_lem : (m n : ℕ) (es : List Equation) (ks : List ℕ)
    → T (zero_columns m n es ks) ↔ ((j : ℕ) → j < n → Congruent m (dot ks (column j es)) 0)
zero_columns_lem m zero es ks = ((λ t j lt. absurd (omega arith)), λ f. tt)
zero_columns_lem m (suc n) es ks = (
  (λ t j lt.
      let b = and_yes (eqb (dot ks (column n es) % m) 0) (zero_columns m n es ks) t in
      below_more (λ j. Congruent m (dot ks (column j es)) 0) n ((zero_columns_lem m n es ks).0 b.1)
      ((remainder_zero m (dot ks (column n es))).0 b.0) j (omega arith)),
  λ f. yes_and (eqb (dot ks (column n es) % m) 0) (zero_columns m n es ks)
      ((remainder_zero m (dot ks (column n es))).1 (f n (omega arith)))
      ((zero_columns_lem m n es ks).1 (λ j lt. f j (omega arith))),
)

abbrev stays : ℕ → List Equation → List ℕ → Bool
stays m es ks = not (eqb (dot ks (rights es) % m) 0)

pub refutes_is : (m n : ℕ) (es : List Equation) (ks : List ℕ) → T (refutes m n es ks) ↔ Refutation m n es ks
unfolding refutes
refutes_is m n es ks = (
  (λ t.
      let d = and_yes (eqb (length ks) (length es) && all_below m ks && zero_columns m n es ks) (stays m es ks) t in
      let c = and_yes (eqb (length ks) (length es) && all_below m ks) (zero_columns m n es ks) d.0 in
      let b = and_yes (eqb (length ks) (length es)) (all_below m ks) c.0 in
      record {
        one_each = eqb→eq (length ks) (length es) b.0;
        below = (all-below m ks).0 b.1;
        columns = (zero_columns_lem m n es ks).0 c.1;
        right = λ z. T_not (eqb (dot ks (rights es) % m) 0) d.1 ((remainder_zero m (dot ks (rights es))).1 z);
      }),
  λ r.
      yes_and (eqb (length ks) (length es) && all_below m ks && zero_columns m n es ks) (stays m es ks)
      (yes_and (eqb (length ks) (length es) && all_below m ks) (zero_columns m n es ks)
      (yes_and (eqb (length ks) (length es)) (all_below m ks) (yes_eqb r.one_each)
      ((all-below m ks).1 r.below))
      ((zero_columns_lem m n es ks).1 r.columns))
      (not_T (eqb (dot ks (rights es) % m) 0) (λ t. r.right ((remainder_zero m (dot ks (rights es))).0 t))),
)

-- ---- no solution

total-zero : (ks : List ℕ) (f : Equation → ℕ) (es : List Equation) → ((e : Equation) → f e ≡ 0) → dot ks (map f es) ≡ 0
total-zero [] f es h = refl
total-zero (k ∷ ks) f [] h = refl
total-zero (k ∷ ks) f (e ∷ es) h = omega (arith, ap (λ (z : ℕ). k * z) (h e), total-zero ks f es h)

total_split : (ks : List ℕ) (f g h : Equation → ℕ) (x : ℕ) (es : List Equation) → ((e : Equation) → f e ≡ g e * x + h e)
    → dot ks (map f es) ≡ dot ks (map g es) * x + dot ks (map h es)
total_split [] f g h x es eq = omega arith
total_split (k ∷ ks) f g h x [] eq = omega arith
total_split (k ∷ ks) f g h x (e ∷ es) eq =
    omega (arith, ap (λ (z : ℕ). k * z) (eq e), total_split ks f g h x es eq)

dot-drop : (a : List ℕ) (j x : ℕ) (v : List ℕ) → dot (drop j a) (x ∷ v) ≡ get_or a j 0 * x + dot (drop (suc j) a) v
dot-drop [] zero x v = omega arith
dot-drop [] (suc j) x v = omega arith
dot-drop (y ∷ a) zero x v = refl
dot-drop (y ∷ a) (suc j) x v = dot-drop a j x v

-- the left sides at v, from place j on: each place adds its column's sum, times the entry there
left-zero : (m : ℕ) (es : List Equation) (ks v : List ℕ) (j : ℕ)
    → ((i : ℕ) → i < j + length v → Congruent m (dot ks (column i es)) 0)
    → Congruent m (dot ks (map (λ e. dot (drop j e.coefficients) v) es)) 0
left-zero m es ks [] j f =
    congruent_of_eq
    (total-zero ks (λ e. dot (drop j e.coefficients) []) es (λ e. dot-nil (drop j e.coefficients)))
left-zero m es ks (x ∷ v) j f =
    congruent_trans
    (congruent_of_eq
    (total_split ks (λ e. dot (drop j e.coefficients) (x ∷ v)) (λ e. get_or e.coefficients j 0)
    (λ e. dot (drop (suc j) e.coefficients) v) x es (λ e. dot-drop e.coefficients j x v)))
    (congruent_trans
    (congruent_add (congruent_mul (f j (omega arith)) (congruent_refl {a = x}))
    (left-zero m es ks v (suc j) (λ i lt. f i (omega arith))))
    (congruent_of_eq (omega arith)))

left-right : (m : ℕ) (es : List Equation) (ks v : List ℕ) → T (solves m es v)
    → Congruent m (dot ks (map (λ e. dot e.coefficients v) es)) (dot ks (rights es))
left-right m es [] v t = congruent_refl
left-right m [] (k ∷ ks) v t = congruent_refl
left-right m (e ∷ es) (k ∷ ks) v t =
    let s = solves-cons m e es v t in
    congruent_add (congruent_mul (congruent_refl {a = k}) s.0) (left-right m es ks v s.1)

pub refuted_none : (m n : ℕ) (es : List Equation) (ks : List ℕ) → T (refutes m n es ks) → start_of m n es ≡ none
refuted_none m n es ks t =
    let r = (refutes_is m n es ks).0 t in
    (start_none m n es).1
    (λ v vec s. r.right (congruent_trans (congruent_sym (left-right m es ks v s))
    (left-zero m es ks v 0 (λ i lt. r.columns i (omega (arith, vector-length m n v vec))))))
