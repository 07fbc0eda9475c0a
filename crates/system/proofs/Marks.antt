-- The outcome of a marking, from the outcomes of its parts.
--   claim_front                  a claim that is not empty has a first vector
--   claim_of_none, claim_of_some what it claims, by its length
--   start_right, steps_right     start and steps where no equation and no step is named
--   solves-none                  what a claim describes solves the equations: the empty one does,
--   start_fails, start_solves    any other one by its start and its steps
--   misses_none_lem, misses_some     and it misses no solution
--   mark-fails, mark-right       the mark by whether a claim is right, and by its first superfluous step
--   not_solved, solved           both parts together tell whether it is right
use mathlib.Core.Path.{◌≡◌, refl, sym, ap, ap₂, ◌∙◌}
use mathlib.Core.Logic.{◌⊎◌, inl, inr, ⊎_elim}
use mathlib.Core.Bool.{Bool, true, false, ◌&&◌, not}
use mathlib.Core.List.{List, [], ◌∷◌}
use Prim.Native.Nat.{ℕ, ◌*◌, ◌/◌, ◌<◌, ◌≤◌}
use native.Mathlib.Nat.{div-add-mod', eq-zero-or-pos, mul-le-mul}
use native.Mathlib.Omega.{arith}
use lib.ListN.{length, take}
use lib.Seq.{length-take-le}
use lib.Dec.{eqb}
use borrow.Author.Tests.{eqb-true, eqb-false, eq-eqb}
use Rattle.std.specs.Prelude.{Option, None}
use Rattle.std.specs.Option.{is_some}
use Rattle.slices.proofs.Parts.{lent, lent_is}
use Rattle.equations.specs.declared.Mark.TheVariants.{Fail}
use Rattle.equations.specs.Lists.{every}
use Rattle.equations.specs.Equation.{Equation, solves}
use Rattle.equations.specs.Claim.{Claim, no_solution, from, is_right}
use Rattle.equations.specs.Marks.{superfluous_in, mark_with, mark_of}
use Rattle.equations.specs.Reasons.{broken_at, keeps, changed_step}
use Rattle.equations.proofs.Truth.{true_or_false}
use Rattle.equations.proofs.Fails.{fails-none}
use Rattle.equations.proofs.Reasons.{broken_none}
use Rattle.equations.proofs.Vectors.{vector_of, below-take}
use Rattle.elimination.specs.Basis.{basis, pivot}
use Rattle.elimination.specs.Tableau.{tableau}
use Rattle.elimination.specs.Marking.{agree, claim_right}
use Rattle.elimination.proofs.Marking.{marking, marking-none}
use Rattle.equations.specs.Lines.{equations_of}
use Rattle.system.specs.declared.checking.Change.{Change}
use Rattle.system.specs.Posed.{Posed}
use Rattle.system.specs.Claims.{Claimed, claim_of, vectors_of}
use Rattle.system.specs.Places.{placed}
use Rattle.system.specs.Model.Marking.{changed, claim_solves, misses_none}
use Rattle.equations.proofs.Lines.{equations-shaped}
use Rattle.system.proofs.Placed.{placed_none, some_told}
use Rattle.system.proofs.Changes.{change_told}
use Rattle.system.proofs.Chunks.{vectors-long}

pub claim_front : (m n : ℕ) (claim : List ℕ) → Claimed m n claim → (length claim ≡ 0 → ⊥) → n ≤ length claim
claim_front m n claim c some = ⊎_elim none more (eq-zero-or-pos (length claim / n))
  where
    none : length claim / n ≡ 0 → n ≤ length claim
    none e = absurd (some (omega (arith, div-add-mod' (length claim) n, c.whole, ap (λ (q : ℕ). q * n) e)))

    more : 0 < length claim / n → n ≤ length claim
    more e =
        omega (
          arith,
          div-add-mod' (length claim) n,
          mul-le-mul {n₁ = 1} {m₁ = n} {n₂ = length claim / n} {m₂ = n} e
              (omega arith),
        )

pub claim_of_none : (n : ℕ) (claim : List ℕ) → length claim ≡ 0 → claim_of n claim ≡ no_solution
unfolding claim_of
claim_of_none n [] h = refl
claim_of_none n (x ∷ s) h = absurd (omega arith)

-- the steps as they are lent
pub claim_of_some : (n : ℕ) (claim : List ℕ) → (length claim ≡ 0 → ⊥)
    → from (take n claim) (vectors_of n (lent n claim)) ≡ claim_of n claim
unfolding claim_of
claim_of_some n [] h = absurd (h refl)
claim_of_some n (x ∷ s) h = ap (λ (r : List ℕ). from (take n (x ∷ s)) (vectors_of n r)) (lent_is n (x ∷ s))

-- the first equation that v breaks, and the first step that changes one
module _ (m : ℕ) (es : List Equation) where
  pub start_right : (v : List ℕ) → None ≡ placed (broken_at m es v) → solves m es v ≡ true
  start_right v none = sym (broken_none m es v) ∙ eq-eqb _ 0 (placed_none _ none)

  pub steps_right : (ss : List (List ℕ)) → None ≡ placed (changed_step m es ss) → every (keeps m es) ss ≡ true
  steps_right ss none = sym (fails-none (keeps m es) ss) ∙ eq-eqb _ 0 (placed_none _ none)

module _ (m n : ℕ) (claim : List ℕ) where
  pub solves-none : (es : List Equation) → length claim ≡ 0 → true ≡ claim_solves m es (claim_of n claim)
  solves-none es none = sym (ap (claim_solves m es) (claim_of_none n claim none))

  -- of the start by whether a broken equation is told, and of the steps by whether no changed one is
  module _ (es : List Equation) (some : length claim ≡ 0 → ⊥) (start : Option ℕ) (is : start ≡ placed (broken_at m es (take n claim)))
      (broken : Bool) (told : broken ≡ is_some start) where
    abbrev steps : List (List ℕ)
    steps = vectors_of n (lent n claim)

    start_is : solves m es (take n claim) ≡ not broken
    start_is = sym (broken_none m es (take n claim)) ∙ some_told _ start broken is told

    parts : (a b : Bool) → solves m es (take n claim) ≡ a → every (keeps m es) steps ≡ b
        → a && b ≡ claim_solves m es (claim_of n claim)
    parts a b e f = sym (ap₂ (λ (x y : Bool). x && y) e f) ∙ ap (claim_solves m es) (claim_of_some n claim some)

    pub start_fails : broken ≡ true → false ≡ claim_solves m es (claim_of n claim)
    start_fails t = parts false _ (start_is ∙ ap not t) refl

    pub start_solves : broken ≡ false → (line : ℕ) (change : Option Change) → change ≡ changed (changed_step m es (vectors_of n (lent n claim))) line
        → (none : Bool) → is_some change ≡ not none → none ≡ claim_solves m es (claim_of n claim)
    start_solves f line change found none kept =
        parts true none (start_is ∙ ap not f)
        (sym (fails-none (keeps m es) steps) ∙ sym (change_told _ line change none found kept))

  module _ (B : List (List ℕ)) (r : Bool) where
    pub misses_none_lem : length claim ≡ 0 → r ≡ not (eqb (pivot n B) m) → r ≡ misses_none m n B (claim_of n claim)
    misses_none_lem none e = e ∙ sym (ap (misses_none m n B) (claim_of_none n claim none))

    pub misses_some : (length claim ≡ 0 → ⊥) → r ≡ agree m n B (basis m n 0 (vectors_of n (lent n claim)))
        → r ≡ misses_none m n B (claim_of n claim)
    misses_some some e = e ∙ ap (misses_none m n B) (claim_of_some n claim some)

-- the mark, by whether the claim is right
module _ (m n : ℕ) (es : List Equation) (claim : Claim) (r : Bool) (right : r ≡ is_right m n es claim) where
  pub mark-fails : r ≡ false → Fail ≡ mark_of m n es claim
  unfolding mark_of
  mark-fails f = ap (λ (b : Bool). mark_with b (superfluous_in m n claim)) (sym f ∙ right)

  pub mark-right : r ≡ true → (k : ℕ) → k ≡ superfluous_in m n claim → mark_with true k ≡ mark_of m n es claim
  unfolding mark_of
  mark-right t k is = ap₂ mark_with (sym t ∙ right) is

module _ (m n : ℕ) (lines claim : List ℕ) (posed : Posed m n lines) (claimed : Claimed m n claim) where
  abbrev es : List Equation
  es = equations_of n lines

  abbrev both : Claim → Bool
  both c = claim_solves m es c && misses_none m n (tableau m n 0 es) c

  of_none : both no_solution ≡ is_right m n es no_solution
  of_none = by_test (true_or_false (eqb d m))
    where
      d : ℕ
      d = pivot n (tableau m n 0 es)

      right : (d ≡ m → is_right m n es no_solution ≡ false) × ((d ≡ m → ⊥) → is_right m n es no_solution ≡ true)
      right = marking-none m n 0 es (omega (arith, posed.modulus)) (equations-shaped n lines)

      by_test : (eqb d m ≡ true) ⊎ (eqb d m ≡ false) → not (eqb d m) ≡ is_right m n es no_solution
      by_test (inl t) = ap not t ∙ sym (right.0 (eqb-true d m t))
      by_test (inr t) = ap not t ∙ sym (right.1 (eqb-false d m t))

  of_some : (length claim ≡ 0 → ⊥)
      → both (from (take n claim) (vectors_of n (lent n claim))) ≡ is_right m n es (from (take n claim) (vectors_of n (lent n claim)))
  unfolding claim_right
  of_some some =
      marking m n 0 es (take n claim) (vectors_of n (lent n claim)) (omega (arith, posed.modulus)) (equations-shaped n lines)
      (vector_of m n (take n claim) (length-take-le n claim (claim_front m n claim claimed some))
      (below-take m n claim claimed.residues)) (vectors-long n (lent n claim))

  decided : (length claim ≡ 0) ⊎ (length claim ≡ 0 → ⊥) → both (claim_of n claim) ≡ is_right m n es (claim_of n claim)
  decided (inl none) = rw (claim_of_none n claim none) of_none
  decided (inr some) = rw (← claim_of_some n claim some) (of_some some)

  marked : claim_solves m (equations_of n lines) (claim_of n claim)
      && misses_none m n (tableau m n 0 (equations_of n lines)) (claim_of n claim)
      ≡ is_right m n (equations_of n lines) (claim_of n claim)
  marked = ⊎_elim (λ none. decided (inl none)) (λ some. decided (inr (λ none. omega arith))) (eq-zero-or-pos (length claim))

  -- the mark by the outcomes of the two parts, a and b; b is asked where a holds
  module _ (a : Bool) (first : a ≡ claim_solves m (equations_of n lines) (claim_of n claim)) where
    pub not_solved : a ≡ false → false ≡ is_right m n (equations_of n lines) (claim_of n claim)
    not_solved f = ap (λ (x : Bool). x && misses_none m n (tableau m n 0 es) (claim_of n claim)) (sym f ∙ first) ∙ marked

    pub solved : a ≡ true → (B : List (List ℕ)) → B ≡ tableau m n 0 (equations_of n lines) → (b : Bool)
        → b ≡ misses_none m n B (claim_of n claim) → b ≡ is_right m n (equations_of n lines) (claim_of n claim)
    solved t B same b second =
        second ∙ ap (λ (X : List (List ℕ)). misses_none m n X (claim_of n claim)) same
        ∙ ap (λ (x : Bool). x && misses_none m n (tableau m n 0 es) (claim_of n claim)) (sym t ∙ first) ∙ marked
