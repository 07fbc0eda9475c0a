-- `explaining::explain` meets its contract: the tests stand in such an order that each way out has the outcomes that it needs.
use mathlib.Core.Path.{◌≡◌, refl, sym, subst}
use mathlib.Core.List.{List}
use Prim.Native.Nat.{ℕ}
use native.Mathlib.Omega.{arith}
use lib.ListN.{length, take}
use lib.Seq.{length-take-le}
use Rattle.slices.specs.Over.{over}
use Rattle.slices.proofs.Parts.{lent, lent_length}
use Rattle.equations.specs.declared.Reason.TheVariants.{Changes}
use Rattle.equations.specs.Vectors.{Vector}
use Rattle.equations.specs.Equation.{Equation}
use Rattle.equations.specs.Lines.{equations_of}
use Rattle.equations.specs.Claim.{Claim, from}
use Rattle.equations.proofs.Vectors.{vector_of, below-take}
use Rattle.equations.proofs.Lines.{equations-shaped}
use Rattle.tableau.proofs.Lines.{below_lent}
use Rattle.system.specs.declared.explaining.Finding.{Finding}
use Rattle.system.specs.Claims.{Claimed, vectors_of}
use Rattle.system.specs.Reasons.{shown_with, finding_of}
use Rattle.system.proofs.Placed.{placed_some}
use Rattle.system.proofs.Changes.{change_none_is}
use Rattle.system.proofs.Marks.{claim_front, claim_of_none, claim_of_some, start_right, steps_right}
use Rattle.system.proofs.Explained.{explained, explained_broken, reason_changes}
use Rattle.system.proofs.explaining.explain.Goals as goal

-- what is found of a claim x is found of the claim in these numbers
module _ (m n : ℕ) (es : List Equation) (old : List ℕ) {x claim : Claim} (same : x ≡ claim) where
  abbrev Found : Claim → Finding → List ℕ → Type 0
  Found y found new = (found ≡ finding_of m n es y) × (new ≡ over (shown_with m n es y) old)

  turned : {found : Finding} {new : List ℕ} → Found x found new → Found claim found new
  turned {found} {new} is = subst (λ (y : Claim). Found y found new) same is

-- the start of a claim that has one
module _ (m n : ℕ) (claim : List ℕ) (claimed : Claimed m n claim) (some : length claim ≡ 0 → ⊥) where
  start-long : length (take n claim) ≡ n
  start-long = length-take-le n claim (claim_front m n claim claimed some)

  start_vector : Vector m n (take n claim)
  start_vector = vector_of m n (take n claim) start-long (below-take m n claim claimed.residues)

pub returns-then-claim-eq0 : goal.returns-then-claim-eq0
returns-then-claim-eq0 c =
    let a = c.args in
    let both = turned a.m a.n (equations_of a.n a.lines.now) a.shown.now (sym (claim_of_none a.n a.claim.now c.if-claim-eq0.true))
    (c.explain_none.ensures.value, c.explain_none.ensures.shown_after) in record { value = both.0; shown_after = both.1 }

pub first_broken-requires : goal.first_broken-requires
first_broken-requires c =
    let a = c.args in
    let claim = a.claim.now in
    (start-long a.m a.n claim c.requires.1 c.if-claim-eq0.false, below-take a.m a.n claim c.requires.1.residues)

pub returns-in-Some : goal.returns-in-Some
returns-in-Some c =
    let a = c.args in
    let es = equations_of a.n a.lines.now in
    let claim = a.claim.now in
    let broken = placed_some _ c.in-Some.broken c.in-Some.ensures in
    let found = c.explain_broken in
    let both = turned a.m a.n es a.shown.now (claim_of_some a.n claim c.if-claim-eq0.false)
    (explained_broken a.m a.n es (take a.n claim) (vectors_of a.n (lent a.n claim)) c.in-Some.broken broken.0
    broken.1 found.result a.shown.now found.ensures.reason_value found.ensures.shown_after) in record { value = both.0; shown_after = both.1 }

pub first_change-requires : goal.first_change-requires
first_change-requires c =
    let a = c.args in
    let claim = a.claim.now in (
      below_lent a.m a.n claim c.requires.1.residues,
      omega (arith, lent_length a.n claim, c.requires.1.vectors),
    )

pub returns-in-Some-first_change : goal.returns-in-Some-first_change
returns-in-Some-first_change c =
    let a = c.args in
    let es = equations_of a.n a.lines.now in
    let claim = a.claim.now in
    let ss = vectors_of a.n (lent a.n claim) in
    let some = c.if-claim-eq0.false in
    let change = c.in-Some-first_change.change in
    let both = turned a.m a.n es a.shown.now (claim_of_some a.n claim some)
    (explained a.m a.n es (from (take a.n claim) ss) (Changes change.step change.line)
    (reason_changes a.m a.n es (take a.n claim) ss (omega (arith, c.requires.0.modulus)) (equations-shaped a.n a.lines.now)
    (start_vector a.m a.n claim c.requires.1 some) (start_right a.m es (take a.n claim) c.in_default.ensures)
    change (c.in-Some-first_change.ensures)) a.shown.now 0 refl refl) in record { value = both.0; shown_after = both.1 }

pub explain_missing-requires : goal.explain_missing-requires
explain_missing-requires c =
    let a = c.args in
    let es = equations_of a.n a.lines.now in
    let claim = a.claim.now in
    record {
      formed = (
        start_vector a.m a.n claim c.requires.1 c.if-claim-eq0.false,
        below_lent a.m a.n claim c.requires.1.residues,
        omega (arith, lent_length a.n claim, c.requires.1.vectors),
        c.requires.2,
      );
      start_value = (
        start_right a.m es (take a.n claim) c.in_default.ensures,
        steps_right a.m es (vectors_of a.n (lent a.n claim)) (change_none_is _ _ c.in_default-first_change.ensures),
      );
    }

pub returns : goal.returns
returns c =
    let a = c.args in
    let both = turned a.m a.n (equations_of a.n a.lines.now) a.shown.now (claim_of_some a.n a.claim.now c.if-claim-eq0.false)
    (c.explain_missing.ensures.value, c.explain_missing.ensures.shown_after) in record { value = both.0; shown_after = both.1 }
