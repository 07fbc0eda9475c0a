-- The promises of specs/LinePromises.antt, kept: each is the promise about the scaled lines, which are equations mod m,
-- carried over `holds-scaled`, `line_start_lem` and `line_steps_lem`.
use mathlib.Core.Path.{◌≡◌, ap, ◌∙◌, sym, subst}
use mathlib.Core.Logic.{◌↔◌}
use mathlib.Core.List.{List}
use mathlib.Core.Option.{some}
use mathlib.Core.Bool.{Bool}
use Prim.Native.Nat.{ℕ, ◌<◌}
use lib.Dec.{T}
use Rattle.equations.specs.Lists.{count}
use Rattle.equations.specs.Vectors.{Vector, vectors, combination}
use Rattle.equations.specs.Equation.{solves}
use Rattle.equations.specs.Answer.{start_of, range_product}
use Rattle.equations.specs.Claim.{no_solution, from, is_right}
use Rattle.equations.specs.Promises.{Within, Written}
use Rattle.equations.specs.Line.{Line, Moduli, holds, line_start, line_step_at, line_steps, scaled, line_refutes}
use Rattle.equations.specs.LinePromises.{is_line_step, LineStartFirst, LineNoStart, LineStepFirst, LineNoStep, LineComplete, LineUnique, LineStepDivides, LineCounted, LineOwnAnswer, LineRefuted, ScaledAlike, PlainAlike}
use Rattle.equations.proofs.Search.{first_of, first_some, found_none}
use Rattle.equations.proofs.Scaled.{holds-scaled}
use Rattle.equations.proofs.LineAnswer.{line_start_lem, line_step_at_lem, line_steps_lem, line-right, plain-holds, plain_start, plain_step, plain_steps, plain-mark, plain-refutes}
use Rattle.equations.proofs.LineReasons.{same_solutions, plain-reason}
use Rattle.equations.proofs.Promises.{complete, unique, step_divides, counted, own_answer, refuted}

module _ (m n : ℕ) (ls : List Line) (pos : 0 < m) (moduli : Moduli m ls) where
  start : (c : List ℕ) → line_start m n ls ≡ some c → start_of m n (scaled m ls) ≡ some c
  start c h = sym (line_start_lem m n pos ls moduli) ∙ h

pub line_start_first : LineStartFirst
unfolding line_start
line_start_first m n ls c = (first_some m n (holds ls) c, first_of m n (holds ls) c)

pub line_no_start : LineNoStart
unfolding line_start
line_no_start m n ls = found_none m n (holds ls)

pub line-step-first : LineStepFirst
unfolding line_step_at
line-step-first m n j ls s = (first_some m n (is_line_step ls j) s, first_of m n (is_line_step ls j) s)

pub line_no_step : LineNoStep
unfolding line_step_at
line_no_step m n j ls = found_none m n (is_line_step ls j)

pub line-complete : LineComplete
line-complete m n ls c pos moduli h =
    subst (λ (p : List ℕ → Bool). (v : List ℕ) → Vector m n v → T (p v) ↔ Written m c (line_steps m n ls) v)
    (sym (same_solutions m pos ls moduli))
    (subst (λ (ss : List (List ℕ)). (v : List ℕ) → Vector m n v → T (solves m (scaled m ls) v) ↔ Written m c ss v)
    (sym (line_steps_lem m n pos ls moduli)) (complete m n (scaled m ls) c pos (start m n ls pos moduli c h)))

pub line-unique : LineUnique
line-unique m n ls c pos moduli h ts us =
    subst
    (λ (ss : List (List ℕ)). Within m ss ts → Within m ss us → combination m c ss ts ≡ combination m c ss us
    → ts ≡ us)
    (sym (line_steps_lem m n pos ls moduli)) (unique m n (scaled m ls) c pos (start m n ls pos moduli c h) ts us)

pub line_step_divides : LineStepDivides
line_step_divides m n j ls s pos moduli h =
    step_divides m n j (scaled m ls) s pos (sym (line_step_at_lem m n pos ls moduli j) ∙ h)

pub line-counted : LineCounted
line-counted m n ls c pos moduli h =
    ap (λ (p : List ℕ → Bool). count p (vectors m n)) (same_solutions m pos ls moduli)
    ∙ counted m n (scaled m ls) c pos (start m n ls pos moduli c h)
    ∙ ap (range_product m) (sym (line_steps_lem m n pos ls moduli))

pub line_own_answer : LineOwnAnswer
line_own_answer m n ls pos moduli =
    let own = own_answer m n (scaled m ls) pos in
    let back = line-right m n pos ls moduli in (
      (λ c h. subst T (sym (back (from c (line_steps m n ls))))
          (subst (λ (ss : List (List ℕ)). T (is_right m n (scaled m ls) (from c ss))) (sym (line_steps_lem m n pos ls moduli))
          (own.0 c (start m n ls pos moduli c h)))),
      λ h. subst T (sym (back no_solution)) (own.1 (sym (line_start_lem m n pos ls moduli) ∙ h)),
    )

pub line_refuted : LineRefuted
unfolding line_refutes
line_refuted m n ls ks pos moduli t = line_start_lem m n pos ls moduli ∙ refuted m n (scaled m ls) ks t

pub scaled_alike : ScaledAlike
scaled_alike m ls pos moduli = holds-scaled m pos ls moduli

pub plain_alike : PlainAlike
plain_alike m n es pos = (
  plain-holds m es,
  plain_start m n pos es,
  plain_step m n pos es,
  plain_steps m n pos es,
  plain-refutes m n pos es,
  plain-mark m n pos es,
  plain-reason m n pos es,
)
