-- The reason that holds, from the outcomes of the tests; and what is shown beside it.
--   below-read                     a vector that is read off has residues
--   pivot_decides                  the constant's pivot tells whether there is a solution
--   start_read                     the starting vector, where there is one
--   front-over, explained          a reason with its numbers at the front of lent memory is what is found
--   reason-none                    the reason of a claim of no solution
--   explained_broken               of a start that breaks an equation,
--   reason_changes                 of a step that changes a left side,
--   found_right_for, found_right, found_above, found_missed   and of a claim whose start and steps are right, with the missed solution
use mathlib.Core.Path.{◌≡◌, refl, sym, ap, subst, ◌∙◌}
use mathlib.Core.Logic.{⊎_elim}
use mathlib.Core.Bool.{Bool, true, false, cond}
use mathlib.Core.List.{List, [], ◌∷◌, ◌++◌}
use Prim.Native.Nat.{ℕ, zero, suc, ◌-◌, ◌<◌, ◌≤◌}
use native.Mathlib.Omega.{arith}
use lib.Dec.{T, eqb}
use lib.ListN.{length, drop, replicate}
use borrow.Author.Tests.{eqb-true, eqb-false, eq-eqb, ne_eqb}
use Rattle.std.specs.Prelude.{Some}
use Rattle.slices.specs.Over.{over}
use Rattle.equations.specs.declared.Reason.{Reason}
use Rattle.equations.specs.declared.Reason.TheVariants.{Passes, Solvable, Unsolvable, Breaks, Changes, Misses}
use Rattle.equations.specs.Lists.{every}
use Rattle.equations.specs.Vectors.{Vector, AllVectors, Below}
use Rattle.equations.specs.Equation.{Equation, solves, Shaped}
use Rattle.equations.specs.Lines.{equations_of}
use Rattle.equations.specs.Answer.{start_of}
use Rattle.equations.specs.Claim.{Claim, no_solution, from, is_right}
use Rattle.equations.specs.Marks.{superfluous_at}
use Rattle.equations.specs.Reasons.{has_solution, broken_at, keeps, changed_step, changed_line, right_reason, reason_of}
use Rattle.equations.proofs.Truth.{true_of, of_true, true_or_false}
use Rattle.equations.proofs.Lists.{someone_of}
use Rattle.equations.proofs.Vectors.{vector-length, below-take, below_zeros}
use Rattle.equations.proofs.Lines.{equations-shaped}
use Rattle.equations.proofs.Answer.{start_solves, start_none}
use Rattle.equations.proofs.Fails.{fails-none}
use Rattle.equations.proofs.Reasons.{solution_of, broken_none}
use Rattle.elimination.specs.Basis.{basis, pivot}
use Rattle.elimination.specs.Substitution.{extend}
use Rattle.elimination.specs.Tableau.{tableau}
use Rattle.elimination.specs.Multipliers.{multipliers_of}
use Rattle.elimination.specs.Missed.{apart, shifted_at, missed_of}
use Rattle.elimination.specs.Missed.Step.{missed_step}
use Rattle.elimination.proofs.Substitution.{below-extend}
use Rattle.elimination.proofs.Turned.{below-turned}
use Rattle.elimination.proofs.Answer.{answer-none}
use Rattle.elimination.proofs.Missed.{apart-right, apart_above, missed_law}
use Rattle.system.specs.declared.checking.Change.{Change}
use Rattle.system.specs.declared.explaining.Finding.{Finding}
use Rattle.system.specs.Reasons.{start_shown, shown_for, shown_with, finding_of}
use Rattle.system.specs.Posed.{Posed}
use Rattle.system.specs.Claims.{vectors_of}
use Rattle.system.specs.Model.Reading.{rows_in, read_vector}
use Rattle.system.specs.Model.Marking.{changed, RightFor, Based, broken_reason, broken_shown}
use Rattle.system.proofs.Chunks.{vectors_listed}
use Rattle.system.proofs.Answer.{read_start}
use Rattle.system.proofs.Placed.{placed_some}
use Rattle.system.proofs.Changes.{change_is}

-- ---- what is read off

pub below-read : (m n i e : ℕ) (B : List (List ℕ)) → i ≤ length B → i ≤ n → e < m → Below m (read_vector m n B i e)
unfolding read_vector
below-read m n i e B fits within below =
    let S : List ℕ = e ∷ replicate (n - i) 0 in
    let given : Below m S = (below, below_zeros m (n - i) (omega arith)) in
    below-turned m n (extend m i B S) []
    (below-extend m i (n - i) n B S (omega arith) fits (omega arith) (below-take m (n - i) S given)) tt

-- ---- what the lines alone decide

module _ (m n : ℕ) (es : List Equation) (pos : 0 < m) (shaped : Shaped n es) where
  abbrev B : List (List ℕ)
  B = tableau m n 0 es

  solution-solves : (v : List ℕ) → Vector m n v → T (solves m es v) → has_solution m n es ≡ true
  unfolding has_solution
  solution-solves v vec t = true_of _ (someone_of m n (solves m es) v vec t)

  decides : (b : Bool) → eqb (pivot n (tableau m n 0 es)) m ≡ b → b ≡ has_solution m n es
  decides true t =
      let start = start_solves m n es (read_vector m n B n 1) (read_start m n 0 es pos shaped (eqb-true (pivot n B) m t)) in
      sym (solution-solves (read_vector m n B n 1) start.0 start.1)
  decides false f = sym (⊎_elim (λ is. absurd (unsolved is)) (λ no. no) (true_or_false (has_solution m n es)))
    where
      unsolved : has_solution m n es ≡ true → ⊥
      unsolved is =
          let found = solution_of m n es is in
          (start_none m n es).0 (answer-none m n 0 es pos shaped (eqb-false (pivot n B) m f)) found.0 found.1.0 found.1.1

  start_of_lem : pivot n (tableau m n 0 es) ≡ m → (v : List ℕ) → v ≡ read_vector m n (tableau m n 0 es) n 1
      → (v ≡ start_shown (start_of m n es)) × (length v ≡ n)
  start_of_lem h v read =
      let found = read_start m n 0 es pos shaped h in
      (read ∙ sym (ap start_shown found), vector-length m n v (rw read (start_solves m n es _ found).0))

-- where the basis lies in memory
module _ (m n : ℕ) (lines s : List ℕ) (posed : Posed m n lines) (based : Based m n lines s) where
  abbrev es : List Equation
  es = equations_of n lines

  pos : 0 < m
  pos = omega (arith, posed.modulus)

  of_rows : eqb (pivot n (rows_in n s)) m ≡ has_solution m n es
  of_rows =
      ap (λ (B : List (List ℕ)). eqb (pivot n B) m) based.rows
      ∙ decides m n es pos (equations-shaped n lines) (eqb (pivot n (tableau m n 0 es)) m) refl

  -- d is the constant's pivot
  pub pivot_decides : (d : ℕ) → d ≡ pivot n (rows_in n s) → eqb d m ≡ has_solution m n (equations_of n lines)
  pivot_decides d read = ap (λ (x : ℕ). eqb x m) read ∙ of_rows

  -- the starting vector v that is read off
  pub start_read : has_solution m n (equations_of n lines) ≡ true → (v : List ℕ) → v ≡ read_vector m n (rows_in n s) n 1
      → (v ≡ start_shown (start_of m n (equations_of n lines))) × (length v ≡ n)
  start_read some v is =
      start_of_lem m n es pos (equations-shaped n lines) (sym (ap (pivot n) based.rows) ∙ eqb-true (pivot n (rows_in n s)) m (of_rows ∙ some)) v
      (is ∙ ap (λ (B : List (List ℕ)). read_vector m n B n 1) based.rows)

-- ---- what is found

-- v at the front of lent memory
pub front-over : {A : Type 0} (n : ℕ) (v old : List A) → length v ≡ n → v ++ drop n old ≡ over v old
front-over n v old h = ap (λ (k : ℕ). v ++ drop k old) (sym h)

module _ (m n : ℕ) (es : List Equation) (claim : Claim) (r : Reason) (reason : reason_of m n es claim ≡ r) (old : List ℕ) where
  pub explained : (len : ℕ) {new : List ℕ} → len ≡ length (shown_for m n es claim r) → new ≡ over (shown_for m n es claim r) old
      → (record { reason = r; len = len } ≡ finding_of m n es claim) × (new ≡ over (shown_with m n es claim) old)
  unfolding finding_of shown_with
  explained len size written = rw (reason, size) (refl, written)

module _ (m n : ℕ) (es : List Equation) where
  pub reason-none : (b : Bool) → b ≡ has_solution m n es → reason_of m n es no_solution ≡ cond b Solvable Passes
  unfolding reason_of
  reason-none b e = ap (λ (z : Bool). cond z Solvable Passes) (sym e)

  module _ (c : List ℕ) (ss : List (List ℕ)) where
    -- the start breaks the equation with the number i
    module _ (i : ℕ) (is : i ≡ broken_at m es c) (fails : i ≡ 0 → ⊥) where
      not_solved : solves m es c ≡ false
      not_solved = sym (broken_none m es c) ∙ ap (λ (z : ℕ). eqb z 0) (sym is) ∙ ne_eqb i 0 fails

      by_solution : (b : Bool) → has_solution m n es ≡ b → reason_of m n es (from c ss) ≡ cond b (Breaks i) Unsolvable
      unfolding reason_of
      by_solution true e = rw (e, not_solved, is)
      by_solution false e = rw e

      shown_is : (b : Bool) → shown_for m n es (from c ss) (cond b (Breaks i) Unsolvable) ≡ cond b [] (multipliers_of m n es)
      shown_is true = refl
      shown_is false = refl

      pub explained_broken : (found : Finding) (old : List ℕ) {new : List ℕ}
          → (found.reason ≡ broken_reason m n es i) × (found.len ≡ length (broken_shown m n es)) → new ≡ over (broken_shown m n es) old
          → (found ≡ finding_of m n es (from c ss)) × (new ≡ over (shown_with m n es (from c ss)) old)
      unfolding finding_of shown_with
      explained_broken found old said written =
          let e = by_solution (has_solution m n es) refl in
          let f = shown_is (has_solution m n es) in
          rw (e, f) (finding_is found said.0 said.1, written)
        where
          finding_is : (found : Finding) {r : Reason} {k : ℕ} → found.reason ≡ r → found.len ≡ k → found ≡ record { reason = r; len = k }
          finding_is found p q = rw (← p, ← q)

    -- start and steps by what is found: the start solves all equations,
    module _ (pos : 0 < m) (shaped : Shaped n es) (vec : Vector m n c) (start : solves m es c ≡ true) where
      some : has_solution m n es ≡ true
      some = solution-solves m n es pos shaped c vec (of_true start)

      pub reason_changes : (change : Change) → Some change ≡ changed (changed_step m es ss) (changed_line m es ss)
          → reason_of m n es (from c ss) ≡ Changes change.step change.line
      unfolding reason_of
      reason_changes change found =
          let is = change_is _ _ change found in
          let step = placed_some _ change.step is.0 in
          let lost : every (keeps m es) ss ≡ false =
          sym (fails-none (keeps m es) ss) ∙ ap (λ (z : ℕ). eqb z 0) (sym step.0) ∙ ne_eqb change.step 0 step.1 in
          rw (some, start, lost, step.0, is.1)

      -- and no step changes a left side; p is the place where a step is missing
      module _ (vs : AllVectors m n ss) (steps : every (keeps m es) ss ≡ true) (p : ℕ)
          (p_is : p ≡ apart m n (tableau m n 0 es) (basis m n 0 ss)) where
        outcome : (b : Bool) → eqb p 0 ≡ b → is_right m n es (from c ss) ≡ b
        outcome b t = sym (apart-right m n es c ss pos shaped vec vs start steps) ∙ ap (λ (z : ℕ). eqb z 0) (sym p_is) ∙ t

        is_right_lem : p ≡ 0 → is_right m n es (from c ss) ≡ true
        is_right_lem z = outcome true (eq-eqb p 0 z)

        reason-right : p ≡ 0 → reason_of m n es (from c ss) ≡ right_reason (superfluous_at m n ss)
        unfolding reason_of
        reason-right z = rw (some, start, steps, is_right_lem z)

        module _ (missing : p ≡ 0 → ⊥) where
          wrong : is_right m n es (from c ss) ≡ false
          wrong = outcome false (ne_eqb p 0 missing)

          reason_misses : reason_of m n es (from c ss) ≡ Misses
          unfolding reason_of
          reason_misses = rw (some, start, steps, wrong)

          missed_above : (p ≤ n) × (1 < pivot (n - p) (tableau m n 0 es))
          missed_above = rw p_is (apart_above m n es c ss pos shaped vec vs start steps wrong)

          missed_shown : (v : List ℕ) → v ≡ shifted_at m n (tableau m n 0 es) c p → v ≡ missed_of m n es (from c ss)
          missed_shown v is = is ∙ ap (shifted_at m n (tableau m n 0 es) c) p_is ∙ sym (missed_step m n es c ss)

          missed_length : length (missed_of m n es (from c ss)) ≡ n
          missed_length = vector-length m n _ (missed_law m n es c ss pos shaped vec vs start steps wrong).0.0

-- where start and steps are right, the basis of the lines lies in s, and a step is missing at p or nowhere
module _ (m n : ℕ) (lines s start steps : List ℕ) (posed : Posed m n lines) (based : Based m n lines s) (vec : Vector m n start)
    (below : Below m steps) (right : solves m (equations_of n lines) start ≡ true)
    (kept : every (keeps m (equations_of n lines)) (vectors_of n steps) ≡ true) (p : ℕ)
    (is : p ≡ apart m n (rows_in n s) (basis m n 0 (vectors_of n steps))) where
  abbrev lists : List Equation
  lists = equations_of n lines

  abbrev ss : List (List ℕ)
  ss = vectors_of n steps

  positive : 0 < m
  positive = omega (arith, posed.modulus)

  listed : AllVectors m n (vectors_of n steps)
  listed = vectors_listed m n steps below

  of_tableau : p ≡ apart m n (tableau m n 0 (equations_of n lines)) (basis m n 0 (vectors_of n steps))
  of_tableau = is ∙ ap (λ (B : List (List ℕ)). apart m n B (basis m n 0 ss)) based.rows

  -- so the claim is right
  pub found_right_for : p ≡ 0 → RightFor m n (equations_of n lines) s (from start (vectors_of n steps))
  found_right_for z =
      record {
        shaped = equations-shaped n lines;
        rows = based.rows;
        formed = (vec, listed);
        right = of_true (is_right_lem m n lists start ss positive (equations-shaped n lines) vec right listed kept p of_tableau z);
      }

  nothing-shown : (k : ℕ) → shown_for m n lists (from start ss) (right_reason k) ≡ []
  nothing-shown zero = refl
  nothing-shown (suc j) = refl

  -- r is the reason by the first superfluous step
  pub found_right : p ≡ 0 → (step : ℕ) → step ≡ superfluous_at m n (vectors_of n steps) → (r : Reason) → r ≡ right_reason step → (old : List ℕ)
      → (record { reason = r; len = 0 } ≡ finding_of m n (equations_of n lines) (from start (vectors_of n steps)))
      × (old ≡ over (shown_with m n (equations_of n lines) (from start (vectors_of n steps))) old)
  found_right z step step_is r r-is old =
      let named : r ≡ right_reason (superfluous_at m n ss) = r-is ∙ ap right_reason step_is in
      let none : shown_for m n lists (from start ss) r ≡ [] =
      ap (shown_for m n lists (from start ss)) named ∙ nothing-shown (superfluous_at m n ss) in
      explained m n lists (from start ss) r
      (reason-right m n lists start ss positive (equations-shaped n lines) vec right listed kept p of_tableau z ∙ sym named) old 0
      (sym (ap length none)) (sym (ap (λ (xs : List ℕ). over xs old) none))

  module _ (missing : p ≡ 0 → ⊥) where
    pub found_above : (p ≤ n) × (1 < pivot (n - p) (rows_in n s))
    found_above =
        let above = missed_above m n lists start ss positive (equations-shaped n lines) vec right listed kept p of_tableau missing in
        (above.0, subst (λ (B : List (List ℕ)). 1 < pivot (n - p) B) (sym based.rows) above.1)

    -- v is the solution that is read off
    pub found_missed : (v old : List ℕ) → v ≡ shifted_at m n (rows_in n s) start p
        → (record { reason = Misses; len = n } ≡ finding_of m n (equations_of n lines) (from start (vectors_of n steps)))
        × (v ++ drop n old ≡ over (shown_with m n (equations_of n lines) (from start (vectors_of n steps))) old)
    found_missed v old read =
        let shown = missed_shown m n lists start ss positive (equations-shaped n lines) vec right listed kept p of_tableau missing v
        (read ∙ ap (λ (B : List (List ℕ)). shifted_at m n B start p) based.rows) in
        let long = missed_length m n lists start ss positive (equations-shaped n lines) vec right listed kept p of_tableau missing in
        explained m n lists (from start ss) Misses
        (reason_misses m n lists start ss positive (equations-shaped n lines) vec right listed kept p of_tableau missing) old n (sym long)
        (front-over n v old (ap length shown ∙ long) ∙ ap (λ (xs : List ℕ). over xs old) shown)
