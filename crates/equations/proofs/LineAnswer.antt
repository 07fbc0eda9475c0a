-- The answer to lines, each mod its own q, is the answer to the equations that they are once scaled, mod m; and lines
-- whose moduli are all m are the equations that they hold.
--   line_start_lem, line_step_at_lem, line_steps_lem, line-right, line-mark   start, a step, steps and marking of the scaled lines
--   line_right_described                                 a claim that describes only vectors of n residues is right: those are where the lines hold
--   plain-moduli, plain-holds, plain-scaled               lines that are all mod m
--   plain_start, plain_step, plain_steps, plain-mark, plain-refutes   their answer
use mathlib.Core.Path.{◌≡◌, refl, ap, ap₂, ◌∙◌, sym}
use mathlib.Core.Logic.{◌↔◌}
use mathlib.Core.List.{List, [], ◌∷◌, map}
use mathlib.Core.Bool.{Bool, ◌&&◌}
use Prim.Native.Nat.{ℕ, ◌*◌, ◌/◌, ◌<◌}
use native.Mathlib.Nat.{one-mul, div-eq_of_eq-mul_right}
use native.Mathlib.Omega.{arith}
use lib.Dec.{T}
use Rattle.residue.proofs.Divides.{divides_refl}
use Rattle.equations.specs.Vectors.{Vector}
use Rattle.equations.specs.Equation.{Equation, solves_one, solves, homogeneous}
use Rattle.equations.specs.Answer.{start_of, step_at, steps_of}
use Rattle.equations.specs.Multipliers.{refutes}
use Rattle.equations.specs.Claim.{Claim, describes, is_right}
use Rattle.equations.specs.Marks.{superfluous_in, mark_with, mark_of}
use Rattle.equations.specs.Line.{Line, Moduli, holds, level, line_start, line_step_at, line_steps, line_is_right, line_mark, scaled, line_refutes, lines_mod}
use Rattle.equations.proofs.Claim.{among_described}
use Rattle.equations.proofs.Sets.{start_among_lem, step_at_among, steps_among_lem, right_among, start_same, step_same, steps_same, right-same}
use Rattle.equations.proofs.Scaled.{holds-scaled, holds-level-scaled}

-- ---- lines as equations

module _ (m n : ℕ) (pos : 0 < m) (ls : List Line) (moduli : Moduli m ls) where
  pub line_start_lem : line_start m n ls ≡ start_of m n (scaled m ls)
  unfolding line_start
  line_start_lem =
      start_same m n (holds ls) (solves m (scaled m ls)) (λ v vec. holds-scaled m pos ls moduli v)
      ∙ sym (start_among_lem m n (scaled m ls))

  pub line_step_at_lem : (j : ℕ) → line_step_at m n ls j ≡ step_at m n (scaled m ls) j
  unfolding line_step_at
  line_step_at_lem j =
      step_same m n (holds (level ls)) (solves m (homogeneous (scaled m ls)))
      (λ v vec. holds-level-scaled m pos ls moduli v) j
      ∙ sym (step_at_among m n (scaled m ls) j)

  pub line_steps_lem : line_steps m n ls ≡ steps_of m n (scaled m ls)
  unfolding line_steps
  line_steps_lem =
      steps_same m n (holds (level ls)) (solves m (homogeneous (scaled m ls)))
      (λ v vec. holds-level-scaled m pos ls moduli v)
      ∙ sym (steps_among_lem m n (scaled m ls))

  pub line-right : (claim : Claim) → line_is_right m n ls claim ≡ is_right m n (scaled m ls) claim
  unfolding line_is_right
  line-right claim =
      right-same m n (holds ls) (solves m (scaled m ls)) (λ v vec. holds-scaled m pos ls moduli v) claim
      ∙ sym (right_among m n (scaled m ls) claim)

  pub line-mark : (claim : Claim) → line_mark m n ls claim ≡ mark_of m n (scaled m ls) claim
  unfolding line_mark mark_of
  line-mark claim = ap (λ (b : Bool). mark_with b (superfluous_in m n claim)) (line-right claim)

-- ---- claims

pub line_right_described : (m n : ℕ) (ls : List Line) (claim : Claim)
    → ((v : List ℕ) → T (describes m claim v) → Vector m n v)
    → T (line_is_right m n ls claim) ↔ ((v : List ℕ) → T (describes m claim v) ↔ (Vector m n v × T (holds ls v)))
unfolding line_is_right
line_right_described m n ls claim vector = among_described m n (holds ls) claim vector

-- ---- lines that are all mod m

module _ (m : ℕ) where
  pub plain-moduli : (es : List Equation) → Moduli m (lines_mod m es)
  plain-moduli [] = tt
  plain-moduli (e ∷ es) = (divides_refl m, plain-moduli es)

  pub plain-holds : (es : List Equation) (v : List ℕ) → holds (lines_mod m es) v ≡ solves m es v
  plain-holds [] v = refl
  plain-holds (e ∷ es) v = ap (λ (b : Bool). solves_one m e v && b) (plain-holds es v)

  once : (xs : List ℕ) (k : ℕ) → k ≡ 1 → map (λ (a : ℕ). k * a) xs ≡ xs
  once [] k h = refl
  once (x ∷ xs) k h = ap₂ ◌∷◌ (ap (λ (z : ℕ). z * x) h ∙ one-mul x) (once xs k h)

  -- m / m is 1
  pub plain-scaled : 0 < m → (es : List Equation) → scaled m (lines_mod m es) ≡ es
  plain-scaled pos [] = refl
  plain-scaled pos (e ∷ es) =
      let k : m / m ≡ 1 = div-eq_of_eq-mul_right {k = 1} pos (omega arith) in
      ap₂ {C = List Equation} ◌∷◌
      (ap₂ {C = Equation} (λ (cs : List ℕ) (r : ℕ). record { coefficients = cs; right = r })
      (once e.coefficients (m / m) k) (ap (λ (z : ℕ). z * e.right) k ∙ one-mul e.right))
      (plain-scaled pos es)

module _ (m n : ℕ) (pos : 0 < m) (es : List Equation) where
  pub plain_start : line_start m n (lines_mod m es) ≡ start_of m n es
  plain_start = line_start_lem m n pos (lines_mod m es) (plain-moduli m es) ∙ ap (start_of m n) (plain-scaled m pos es)

  pub plain_step : (j : ℕ) → line_step_at m n (lines_mod m es) j ≡ step_at m n es j
  plain_step j =
      line_step_at_lem m n pos (lines_mod m es) (plain-moduli m es) j
      ∙ ap (λ (es : List Equation). step_at m n es j) (plain-scaled m pos es)

  pub plain_steps : line_steps m n (lines_mod m es) ≡ steps_of m n es
  plain_steps = line_steps_lem m n pos (lines_mod m es) (plain-moduli m es) ∙ ap (steps_of m n) (plain-scaled m pos es)

  pub plain-mark : (claim : Claim) → line_mark m n (lines_mod m es) claim ≡ mark_of m n es claim
  plain-mark claim =
      line-mark m n pos (lines_mod m es) (plain-moduli m es) claim
      ∙ ap (λ (es : List Equation). mark_of m n es claim) (plain-scaled m pos es)

  pub plain-refutes : (ks : List ℕ) → line_refutes m n (lines_mod m es) ks ≡ refutes m n es ks
  unfolding line_refutes
  plain-refutes ks = ap (λ (es : List Equation). refutes m n es ks) (plain-scaled m pos es)
