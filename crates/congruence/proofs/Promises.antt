-- The promises of specs/Promises.antt, kept: where m is allowed, by those of `residue` for the residues.
use mathlib.Core.Path.{◌≡◌, refl, sym, ap, subst, ◌∙◌}
use mathlib.Core.Logic.{◌↔◌}
use mathlib.Core.Bool.{Bool, true, false}
use Prim.Native.Nat.{ℕ}
use native.Mathlib.Omega.{arith}
use lib.Dec.{T}
use lib.Ieee.Bits.{is_true}
use lib.IntN.{ℤ}
use Rattle.std.specs.Prelude.{Option, Result, Ok, Err}
use Rattle.questions.specs.Questions.{allowed_modulus}
use Rattle.residue.specs.Residue.{residue_of}
use Rattle.residue.specs.Promises.{Describes}
use Rattle.residue.specs.declared.congruence.Solutions.{Solutions}
use Rattle.residue.proofs.Residue.{solving_residues}
use Rattle.residue.proofs.Promises as residue
use Rattle.congruence.specs.Congruence.{congruence_of}
use Rattle.congruence.specs.Promises.{SolvesWhole, RefusedByModulus, NoneByDivisor, NoneExactly, LeastAndSpacing}
use Rattle.congruence.proofs.Answers.{modulus_some, found, answer_is}
use Rattle.congruence.specs.Congruence.{solved}

-- where m is allowed, the answer is that for the residues
of_residues : (a b : ℤ) (m : ℕ) → T (allowed_modulus m) → congruence_of a b m ≡ Ok (found a b m)
of_residues a b m allowed = answer_is a b m true (is_true (allowed_modulus m) allowed)

-- and what it says then is what they have
is_found : (a b : ℤ) (m : ℕ) → T (allowed_modulus m) → {x : Option Solutions} → congruence_of a b m ≡ Ok x → found a b m ≡ x
is_found a b m allowed {x} said = let same : ◌≡◌ {A = Result (Option Solutions) ℕ} (Ok (found a b m)) (Ok x) = sym (of_residues a b m allowed) ∙ said in cc

-- ---- the promises

pub refused_by_modulus : RefusedByModulus
refused_by_modulus a b m k = by (allowed_modulus m) refl
  where
    by : (test : Bool) → allowed_modulus m ≡ test → (congruence_of a b m ≡ Err k) ↔ ((k ≡ 2) × (T test → ⊥))
    by true e = (
      (λ said.
          let same : ◌≡◌ {A = Result (Option Solutions) ℕ} (Ok (found a b m)) (Err k) = sym (answer_is a b m true e) ∙ said in
          let z : ◌≡◌ {A = ℕ} 0 1 = cc in absurd (omega arith)),
      λ (is, not). absurd (not tt),
    )
    by false e = (
      (λ said. let same : ◌≡◌ {A = Result (Option Solutions) ℕ} (Err 2) (Err k) = sym (answer_is a b m false e) ∙ said in (cc, λ t. t)),
      λ (is, not). answer_is a b m false e ∙ ap Err (sym is),
    )

pub none_by_divisor : NoneByDivisor
none_by_divisor a b m allowed =
    let none = residue.none_by_divisor (residue_of m a) (residue_of m b) m (modulus_some m allowed) in
    let is = of_residues a b m allowed in (
      (λ said. none.0 (is_found a b m allowed said)),
      λ h. is ∙ ap Ok (none.1 h),
    )

pub none-exactly : NoneExactly
none-exactly a b m allowed =
    let positive = modulus_some m allowed in
    let none = residue.none-exactly (residue_of m a) (residue_of m b) m positive in
    let is = of_residues a b m allowed in (
      (λ said u h. none.0 (is_found a b m allowed said) u ((solving_residues m a b u positive).0 h)),
      λ h. is ∙ ap Ok (none.1 (λ u e. h u ((solving_residues m a b u positive).1 e))),
    )

describes-same : {P Q : ℕ → Type 0} {m t spacing : ℕ} → ((u : ℕ) → P u ↔ Q u) → Describes Q m t spacing → Describes P m t spacing
describes-same same d = record {
  solves = (same _).1 d.solves;
  small = d.small;
  least = λ u h. d.least u ((same u).0 h);
  spaced = λ u h. d.spaced u ((same u).0 h);
  all = λ k. (same _).1 (d.all k);
}

pub least_and_spacing : LeastAndSpacing
least_and_spacing a b m t spacing said = by (allowed_modulus m) refl
  where
    by : (test : Bool) → allowed_modulus m ≡ test → Describes (SolvesWhole m a b) m t spacing
    by true e =
        let positive = modulus_some m (subst T (sym e) tt) in
        describes-same (λ u. solving_residues m a b u positive)
        (residue.least_and_spacing (residue_of m a) (residue_of m b) m t spacing positive
        (is_found a b m (subst T (sym e) tt) said))
    by false e =
        let same : ◌≡◌ {A = Result (Option Solutions) ℕ} (Err 2) (solved t spacing) = sym (answer_is a b m false e) ∙ said in
        let z : ◌≡◌ {A = ℕ} 0 1 = cc in
        absurd (omega arith)
