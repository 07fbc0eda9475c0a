-- The promises of specs/Lines.antt, kept: what is answered and shown for lines is what is answered and shown for the scaled lines, which
-- are equations mod m.
--   multipliers_refute, true_line_reason, same-line-verdict, plain-shown   the promises
--   line-block, line-shown              what is answered and shown of scaled lines
--   line_block_some, line-block-none    the block, where there is a starting vector and where there is none
--   line_start_found                    one of both is so
--   line-block-length                   273 numbers at most
--   line-says-residues, line-says-few   what a reason shows are residues, and as many as there are unknowns or lines at most
use mathlib.Core.Path.{◌≡◌, refl, sym, ap, ap₂, ◌∙◌, subst}
use mathlib.Core.Logic.{◌⊎◌, inl, inr}
use mathlib.Core.List.{List, ◌∷◌, ◌++◌, flatten}
use mathlib.Core.Option.{Option, none, some}
use mathlib.Core.Bool.{Bool, true, false}
use Prim.Native.Nat.{ℕ, zero, suc, ◌<◌, ◌≤◌}
use native.Mathlib.Omega.{arith}
use lib.ListN.{length, length-map}
use lib.Dec.{T}
use Rattle.equations.specs.declared.Reason.{Reason}
use Rattle.equations.specs.declared.Reason.TheVariants.{Passes, Solvable, Unsolvable, Breaks, Changes, Misses, Superfluous}
use Rattle.equations.specs.Lists.{every}
use Rattle.equations.specs.Vectors.{Vector, AllVectors, Below}
use Rattle.equations.specs.Equation.{Equation, Shaped}
use Rattle.equations.specs.Claim.{Claim, no_solution, from}
use Rattle.equations.specs.Marks.{superfluous_at}
use Rattle.equations.specs.Reasons.{right_reason, mark_beside, Solution}
use Rattle.equations.specs.Line.{Line, Moduli, ShapedLines, holds, line_start, line_steps, line_is_right, scaled_one, scaled, line_refutes, lines_mod}
use Rattle.equations.specs.LineReasons.{line_solvable, line_keeps, line_reason, LineSolution, LineSays}
use Rattle.equations.proofs.Truth.{of_true, of_false}
use Rattle.equations.proofs.Vectors.{vector-length, vector-below}
use Rattle.equations.proofs.Multipliers.{refutes_is}
use Rattle.equations.proofs.Superfluous.{first-superfluous, none-superfluous}
use Rattle.equations.proofs.Scaled.{holds-scaled, scaled-shaped}
use Rattle.equations.proofs.LineAnswer.{line_start_lem, line_steps_lem, line-right, line-mark, plain-moduli, plain-scaled}
use Rattle.equations.proofs.LineReasons.{line_solution_of, line_no_solution_of, line_broken_first, line-changed-first, same_kept, solvable_scaled, line-reason}
use Rattle.equations.proofs.LinePromises.{line_no_start, line_own_answer}
use Rattle.elimination.proofs.LineMultipliers.{line_multipliers_refute}
use Rattle.elimination.proofs.Missed.{missed_law}
use Rattle.system.specs.Block.{block_with, block_of}
use Rattle.system.specs.Reasons.{shown_for, shown_with}
use Rattle.system.specs.Lines.{line_multipliers, line_block, line_shown, LineMultipliersRefute, TrueLineReason, SameLineVerdict, PlainShown}
use Rattle.system.proofs.Block.{block-length}
use Rattle.system.proofs.Reasons.{start_shown_lem, same-verdict}

pub multipliers_refute : LineMultipliersRefute
multipliers_refute = line_multipliers_refute

module _ (m n : ℕ) (pos : 0 < m) (ls : List Line) (moduli : Moduli m ls) where
  pub line-block : line_block m n ls ≡ block_of m n (scaled m ls)
  unfolding line_block block_of
  line-block =
      ap₂ (λ (start : Option (List ℕ)) (steps : List (List ℕ)). block_with start steps (line_multipliers m n ls))
      (line_start_lem m n pos ls moduli) (line_steps_lem m n pos ls moduli)

  pub line-shown : (claim : Claim) → line_shown m n ls claim ≡ shown_with m n (scaled m ls) claim
  unfolding line_shown shown_with
  line-shown claim = ap (shown_for m n (scaled m ls) claim) (line-reason m pos ls moduli n claim)

-- ---- the block

module _ (m n : ℕ) (ls : List Line) where
  pub line_block_some : (c : List ℕ) → line_start m n ls ≡ some c
      → line_block m n ls ≡ suc (length (line_steps m n ls)) ∷ (c ++ flatten (line_steps m n ls))
  unfolding line_block
  line_block_some c h = ap (λ (o : Option (List ℕ)). block_with o (line_steps m n ls) (line_multipliers m n ls)) h

  pub line-block-none : line_start m n ls ≡ none → line_block m n ls ≡ 0 ∷ line_multipliers m n ls
  unfolding line_block
  line-block-none h = ap (λ (o : Option (List ℕ)). block_with o (line_steps m n ls) (line_multipliers m n ls)) h

  pub line_start_found : (line_start m n ls ≡ none) ⊎ ((c : List ℕ) × (line_start m n ls ≡ some c))
  line_start_found = go (line_start m n ls) refl
    where
      go : (o : Option (List ℕ)) → line_start m n ls ≡ o → (line_start m n ls ≡ none) ⊎ ((c : List ℕ) × (line_start m n ls ≡ some c))
      go none h = inl h
      go (some c) h = inr (c, h)

-- 273 numbers at most
pub line-block-length : (m n : ℕ) (ls : List Line) → 0 < m → Moduli m ls → ShapedLines n ls → length ls ≤ 16 → n ≤ 16
    → length (line_block m n ls) ≤ 273
line-block-length m n ls pos moduli shaped equations unknowns =
    omega (
      arith,
      ap length (line-block m n pos ls moduli),
      block-length m n (scaled m ls) pos (scaled-shaped m n ls shaped) (omega (arith, length-map ls (scaled_one m))) unknowns,
    )

-- ---- a reason is true as stated

module _ (m n : ℕ) (pos : 0 < m) (ls : List Line) (moduli : Moduli m ls) (shaped : ShapedLines n ls) where
  abbrev equal : List Equation
  equal = scaled m ls

  equal_shaped : Shaped n equal
  equal_shaped = scaled-shaped m n ls shaped

  -- what solves the scaled lines solves the lines
  line-solution : (v : List ℕ) → Solution m n equal v → LineSolution m n ls v
  line-solution v s = (s.0, subst T (sym (holds-scaled m pos ls moduli v)) s.1)

  no_line_start : line_solvable m n ls ≡ false → line_start m n ls ≡ none
  no_line_start e = (line_no_start m n ls).1 (λ v vec t. line_no_solution_of m n ls e v (vec, t))

  none-says : (b : Bool) → line_solvable m n ls ≡ b
      → LineSays m n ls no_solution (line_reason m n ls no_solution) (line_shown m n ls no_solution)
  unfolding line_reason line_shown
  none-says true e =
      rw e (
        refl,
        line-solution _
            (start_shown_lem m n equal pos equal_shaped (sym (solvable_scaled m pos ls moduli n) ∙ e)),
      )
  none-says false e = rw e ((line_own_answer m n ls pos moduli).1 (no_line_start e), (λ has. has), refl)

  module _ (c : List ℕ) (ss : List (List ℕ)) (vec : Vector m n c) (vs : AllVectors m n ss) where
    -- a right claim, by the number of its first superfluous step
    right-says : T (line_is_right m n ls (from c ss)) → (k : ℕ) → superfluous_at m n ss ≡ k
        → LineSays m n ls (from c ss) (right_reason k) (shown_for m n (scaled m ls) (from c ss) (right_reason k))
    right-says t zero is = (t, none-superfluous m n (from c ss) is, refl)
    right-says t (suc j) is = (t, first-superfluous m n ss j is, refl)

    -- by the outcomes of the four tests
    from-says : (a b d e : Bool) → line_solvable m n ls ≡ a → holds ls c ≡ b → every (line_keeps ls) ss ≡ d
        → line_is_right m n ls (from c ss) ≡ e
        → LineSays m n ls (from c ss) (line_reason m n ls (from c ss)) (line_shown m n ls (from c ss))
    unfolding line_reason line_shown
    from-says false b d e p q r s =
        rw p (line_no_solution_of m n ls p, line_multipliers_refute m n ls pos moduli shaped (no_line_start p))
    from-says true false d e p q r s = rw (p, q) ((line_solution_of m n ls p, line_broken_first ls c (of_false q)), refl)
    from-says true true false e p q r s = rw (p, q, r) ((of_true q, line-changed-first ls ss (of_false r)), refl)
    from-says true true true true p q r s = rw (p, q, r, s) (right-says (of_true s) (superfluous_at m n ss) refl)
    from-says true true true false p q r s =
        let missed =
        missed_law m n equal c ss pos equal_shaped vec vs (sym (holds-scaled m pos ls moduli c) ∙ q)
        (ap (λ (t : List ℕ → Bool). every t ss) (sym (same_kept m pos ls moduli)) ∙ r)
        (sym (line-right m n pos ls moduli (from c ss)) ∙ s) in
        rw (p, q, r, s) ((of_true q, of_true r), line-solution _ missed.0, missed.1)

pub true_line_reason : TrueLineReason
true_line_reason m n ls no_solution pos moduli shaped formed = none-says m n pos ls moduli shaped (line_solvable m n ls) refl
true_line_reason m n ls (from c ss) pos moduli shaped formed =
    from-says m n pos ls moduli shaped c ss formed.0 formed.1 (line_solvable m n ls) (holds ls c) (every (line_keeps ls) ss)
    (line_is_right m n ls (from c ss)) refl refl refl refl

pub same-line-verdict : SameLineVerdict
same-line-verdict m n ls claim pos moduli shaped formed =
    ap mark_beside (line-reason m pos ls moduli n claim)
    ∙ same-verdict m n (scaled m ls) claim pos (scaled-shaped m n ls shaped) formed
    ∙ sym (line-mark m n pos ls moduli claim)

-- ---- the numbers that are shown

pub line-says-residues : (m n : ℕ) (ls : List Line) (claim : Claim) (r : Reason) (shown : List ℕ) → LineSays m n ls claim r shown
    → Below m shown
unfolding line_refutes
line-says-residues m n ls claim Passes shown says = rw says.2 tt
line-says-residues m n ls claim Solvable shown says = vector-below m n shown says.1.0
line-says-residues m n ls claim Unsolvable shown says = ((refutes_is m n (scaled m ls) shown).0 says.1).below
line-says-residues m n ls claim (Breaks i) shown says = rw says.1 tt
line-says-residues m n ls claim (Changes i j) shown says = rw says.1 tt
line-says-residues m n ls claim Misses shown says = vector-below m n shown says.1.0
line-says-residues m n ls claim (Superfluous i) shown says = rw says.2 tt

pub line-says-few : (k m n : ℕ) (ls : List Line) (claim : Claim) (r : Reason) (shown : List ℕ) → n ≤ k → length ls ≤ k
    → LineSays m n ls claim r shown → length shown ≤ k
unfolding line_refutes
line-says-few k m n ls claim Passes shown few held says = rw says.2 (omega arith)
line-says-few k m n ls claim Solvable shown few held says = omega (arith, vector-length m n shown says.1.0)
line-says-few k m n ls claim Unsolvable shown few held says = omega (arith, ((refutes_is m n (scaled m ls) shown).0 says.1).one_each, length-map ls (scaled_one m))
line-says-few k m n ls claim (Breaks i) shown few held says = rw says.1 (omega arith)
line-says-few k m n ls claim (Changes i j) shown few held says = rw says.1 (omega arith)
line-says-few k m n ls claim Misses shown few held says = omega (arith, vector-length m n shown says.1.0)
line-says-few k m n ls claim (Superfluous i) shown few held says = rw says.2 (omega arith)

-- ---- lines that are all mod m

pub plain-shown : PlainShown
plain-shown m n es pos = (
  line-block m n pos (lines_mod m es) (plain-moduli m es) ∙ ap (block_of m n) (plain-scaled m pos es),
  λ claim. line-shown m n pos (lines_mod m es) (plain-moduli m es) claim
      ∙ ap (λ (es : List Equation). shown_with m n es claim) (plain-scaled m pos es),
)
