-- The solutions of equations with right sides put to 0. Their head at place j is m / d for the pivot d at the column of
-- that place in the tableau: the tableau's step there has it, and the row there lets only its multiples through.
--   Kernel              solves the equations with right sides 0
--   linear_kernel       closed under combination
--   kernel_head         its heads
--   kernel_step         the tableau's step has the head, with zeros before it
use mathlib.Core.Path.{◌≡◌, sym, ap, ◌∙◌, subst}
use mathlib.Core.List.{List, [], ◌∷◌, ◌++◌, reverse_aux, reverse_aux-append}
use Prim.Native.Nat.{ℕ, zero, suc, ◌+◌, ◌*◌, ◌≤◌, ◌<◌}
use native.Mathlib.Omega.{arith}
use lib.ListN.{length, drop, replicate}
use lib.Dec.{T}
use Rattle.residue.specs.Congruent.{Congruent}
use Rattle.residue.proofs.Congruent.{congruent_of_eq, congruent_trans, congruent_combine}
use Rattle.equations.specs.Equation.{Equation, dot, solves, homogeneous, Shaped}
use Rattle.equations.proofs.Dot.{dot_comm}
use Rattle.equations.proofs.Solving.{solves-cons, cons-solves, zero_right}
use Rattle.elimination.specs.Substitution.{extend}
use Rattle.elimination.specs.Tableau.{turned, tableau, tableau_step}
use Rattle.elimination.proofs.Substitution.{length-extend, drop-extend}
use Rattle.elimination.proofs.Turned.{drop-reverse, reverse_inj, length-turned, reverse-turned}
use Rattle.elimination.proofs.Tableau.{length-tableau, sat_homogeneous}
use Rattle.elimination.proofs.Row.{RowAt}
use Rattle.elimination.proofs.Steps.{step-solves, step-length, step_point, step_divides}
use Rattle.elimination.proofs.Linear.{Linear}
use Rattle.elimination.proofs.Heads.{Head, length_led}

abbrev pub Kernel : ℕ → List Equation → List ℕ → Type 0
Kernel m es W = T (solves m (homogeneous es) W)

kernel_null : (m : ℕ) (es : List Equation) (c : List ℕ) → ((X : List ℕ) → Congruent m (dot c X) 0) → Kernel m es c
kernel_null m [] c h = tt
kernel_null m (e ∷ es) c h =
    cons-solves m (zero_right e) (homogeneous es) c
    (congruent_trans (congruent_of_eq (dot_comm e.coefficients c)) (h e.coefficients)) (kernel_null m es c h)

kernel_combined : (m : ℕ) (es : List Equation) (s t : ℕ) (a b c : List ℕ) → Kernel m es a → Kernel m es b
    → ((X : List ℕ) → Congruent m (dot c X) (s * dot a X + t * dot b X)) → Kernel m es c
kernel_combined m [] s t a b c p q h = tt
kernel_combined m (e ∷ es) s t a b c p q h =
    let p' = solves-cons m (zero_right e) (homogeneous es) a p in
    let q' = solves-cons m (zero_right e) (homogeneous es) b q in
    cons-solves m (zero_right e) (homogeneous es) c
    (congruent_trans (congruent_of_eq (dot_comm e.coefficients c))
    (congruent_trans (h e.coefficients)
    (congruent_combine s t
    (congruent_trans (congruent_of_eq (dot_comm a e.coefficients)) p'.0)
    (congruent_trans (congruent_of_eq (dot_comm b e.coefficients)) q'.0))))
    (kernel_combined m es s t a b c p'.1 q'.1 h)

pub linear_kernel : (m : ℕ) (es : List Equation) → Linear m (Kernel m es)
linear_kernel m es = record { null = kernel_null m es; combined = kernel_combined m es }

-- ---- its heads

reverse_zeros : (j c z : ℕ) → z ≡ j + c → reverse_aux {A = ℕ} (replicate j 0) (replicate c 0) ≡ replicate z 0
reverse_zeros zero c z h = let e : z ≡ c = omega arith in rw e
reverse_zeros (suc j) c z h = reverse_zeros j (suc c) z (omega arith)

-- the point of a vector with j zeros in front
led_point : (j x : ℕ) (W : List ℕ)
    → reverse_aux (replicate j 0 ++ (x ∷ W)) (0 ∷ []) ≡ reverse_aux W (x ∷ replicate (suc j) 0)
led_point j x W =
    reverse_aux-append (replicate j 0) (x ∷ W) (0 ∷ [])
    ∙ ap (λ (R : List ℕ). reverse_aux W (x ∷ R)) (reverse_zeros j 1 (suc j) (omega arith))

module _ (m n k : ℕ) (es : List Equation) (pos : 0 < m) (shaped : Shaped n es) (j i : ℕ) (place : j + suc i ≡ n)
    (row : RowAt m k i (tableau m n k es)) where
  abbrev B : List (List ℕ)
  B = tableau m n k es

  abbrev Y : List ℕ
  Y = extend m i B (row.e ∷ replicate (suc j) 0)

  enough : i ≤ length B
  enough = omega (arith, length-tableau m n k es pos shaped)

  drop_Y : drop i Y ≡ row.e ∷ replicate (suc j) 0
  drop_Y = drop-extend m i 0 i B (row.e ∷ replicate (suc j) 0) enough (omega arith)

  long : i ≤ length Y
  long = omega (arith, length-extend m i B (row.e ∷ replicate (suc j) 0) enough)

  -- the tableau's step, with its zeros in front
  step_led : tableau_step m i j B row.e ≡ replicate j 0 ++ (row.e ∷ turned i Y [])
  step_led =
      (reverse_inj _ _ (0 ∷ []) (0 ∷ [])
      (step-length m n k es pos shaped i j (omega arith) row.d row.e row.r row.rest row.here
      row.factor
      ∙ sym (length_led j (row.e ∷ turned i Y []) ∙ omega (arith, length-turned i Y [] long)))
      (step_point m n k es pos shaped i j (omega arith) row.d row.e row.r row.rest row.here
      row.factor
      ∙ sym (led_point j row.e (turned i Y []) ∙ ap (reverse_aux (turned i Y [])) (sym drop_Y)
      ∙ reverse-turned i Y [] long))).0

  pub kernel_head : Head (Kernel m es) j i row.e
  kernel_head = record {
    rest = turned i Y [];
    length_rest = length-turned i Y [] long ∙ omega arith;
    member =
        subst (Kernel m es) step_led
        (step-solves m n k es pos shaped i j (omega arith) row.d row.e row.r row.rest row.here
        row.factor);
    divides = λ x W lw t.
        step_divides m n k es pos shaped i j (omega arith) row.d row.e row.r row.rest row.here
        row.factor (replicate j 0 ++ (x ∷ W)) x
        (sat_homogeneous m n k es pos shaped (replicate j 0 ++ (x ∷ W)) (length_led j (x ∷ W) ∙ omega arith) t)
        (ap (drop i) (led_point j x W) ∙ drop-reverse i 0 W (x ∷ replicate (suc j) 0) (omega arith));
  }

  pub kernel_step : (rest : List ℕ) × (length rest ≡ i)
      × (tableau_step m i j (tableau m n k es) row.e ≡ replicate j 0 ++ (row.e ∷ rest))
  kernel_step = (turned i Y [], length-turned i Y [] long ∙ omega arith, step_led)
