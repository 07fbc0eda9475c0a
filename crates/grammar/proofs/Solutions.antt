-- The equation made of a typed one is the typed one: it is solved by exactly the vectors at which the typed one holds.
--   made-length   it has n coefficients,
--   equation-shaped   which are residues, as its right side is
--   holds-solves      it is solved where the typed one holds, at every vector
use mathlib.Core.Path.{◌≡◌, sym, ◌∙◌}
use mathlib.Core.Logic.{◌↔◌}
use mathlib.Core.Bool.{true}
use mathlib.Core.List.{List}
use Prim.Native.Nat.{ℕ, ◌+◌, ◌*◌, ◌<◌}
use native.Mathlib.Omega.{arith}
use native.Mathlib.Nat.{mod-lt}
use borrow.Author.Tests.{eqb-true, eq-eqb}
use lib.Dec.{T}
use lib.ListN.{length}
use Rattle.residue.specs.Congruent.{Congruent}
use Rattle.residue.proofs.Congruent.{congruent_of, congruent_witness, congruent_sym, congruent_trans, congruent_mod}
use Rattle.residue.proofs.Whole.{whole_congruent}
use Rattle.equations.specs.Vectors.{Vector}
use Rattle.equations.specs.Equation.{dot, solves_one}
use Rattle.equations.proofs.Dot.{length-combine}
use Rattle.equations.proofs.Vectors.{vector_of, below-combine}
use Rattle.equations.proofs.Truth.{true_of, of_true}
use Rattle.grammar.specs.Tree.{Sides}
use Rattle.grammar.specs.Meaning.{value, HoldsMod}
use Rattle.grammar.specs.Linear.{minus_one, constant, coefficients, sides_within, sides_linear, within, linear, equation_of}
use Rattle.grammar.proofs.Tests.{both_left, both_right}
use Rattle.grammar.proofs.Meaning.{minus_one_lem, dot_two, length-coefficients, value-linear}

-- ---- the two sides brought together

module _ (m : ℕ) (pos : 0 < m) where
  -- d + c ≡ e + k says the same as d - e ≡ k - c
  apart : (d c e k : ℕ) → Congruent m (d + c) (e + k) → Congruent m (1 * d + minus_one m * e) (k + minus_one m * c)
  apart d c e k h =
      let w = congruent_witness h in
      congruent_of (c + w.k) (e + w.l) (omega (arith, w.eq, minus_one_lem m e pos, minus_one_lem m c pos))

  together : (d c e k : ℕ) → Congruent m (1 * d + minus_one m * e) (k + minus_one m * c) → Congruent m (d + c) (e + k)
  together d c e k h =
      let w = congruent_witness h in
      congruent_of (e + w.k) (c + w.l) (omega (arith, w.eq, minus_one_lem m e pos, minus_one_lem m c pos))

-- ---- the law

module _ (m n : ℕ) (e : Sides) (pos : 0 < m) (among : sides_within n e ≡ true) (is_linear : sides_linear e ≡ true)
    (v : List ℕ) where
  abbrev d : ℕ
  d = dot (coefficients m n e.left) v

  abbrev c : ℕ
  c = constant m e.left

  abbrev g : ℕ
  g = dot (coefficients m n e.right) v

  abbrev k : ℕ
  k = constant m e.right

  -- both sides, by their coefficients and numbers
  sides_say : HoldsMod m e v ↔ Congruent m (d + c) (g + k)
  sides_say =
      whole_congruent m (value v e.left) (value v e.right)
      (value-linear m n v pos e.left (both_left _ _ among) (both_left _ _ is_linear))
      (value-linear m n v pos e.right (both_right (within n e.left) _ among) (both_right (linear e.left) _ is_linear))

  -- and the equation added, by the same
  equation-says : T (solves_one m (equation_of m n e) v) ↔ Congruent m (1 * d + minus_one m * g) (k + minus_one m * c)
  unfolding equation_of
  equation-says = (
    λ t. congruent_trans (congruent_sym left) (congruent_trans (record { same = eqb-true _ _ (true_of _ t) }) right),
    λ h. of_true (eq-eqb _ _ (congruent_trans left (congruent_trans h (congruent_sym right))).same),
  )
    where
      left : Congruent m (dot (equation_of m n e).coefficients v) (1 * d + minus_one m * g)
      left = dot_two m n 1 (minus_one m) e.left e.right v

      right : Congruent m (equation_of m n e).right (k + minus_one m * c)
      right = congruent_mod m (k + minus_one m * c)

  pub holds-solves : HoldsMod m e v ↔ T (solves_one m (equation_of m n e) v)
  holds-solves = (
    λ h. equation-says.1 (apart m pos d c g k (sides_say.0 h)),
    λ t. sides_say.1 (together m pos d c g k (equation-says.0 t)),
  )

-- ---- its shape

pub made-length : (m n : ℕ) (e : Sides) → length (equation_of m n e).coefficients ≡ n
unfolding equation_of
made-length m n e =
    length-combine m 1 (minus_one m) (coefficients m n e.left) (coefficients m n e.right)
    (length-coefficients m n e.left ∙ sym (length-coefficients m n e.right))
    ∙ length-coefficients m n e.left

pub equation-shaped : (m n : ℕ) (e : Sides) → 0 < m
    → Vector m n (equation_of m n e).coefficients × ((equation_of m n e).right < m)
unfolding equation_of
equation-shaped m n e pos = (
  vector_of m n _ (made-length m n e) (below-combine m 1 (minus_one m) (coefficients m n e.left) (coefficients m n e.right) pos),
  mod-lt (constant m e.right + minus_one m * constant m e.left) pos,
)
