-- The promise of specs/Wanted.antt is kept.
--   every_claim_has_sheet
use mathlib.Core.Path.{◌≡◌, refl, sym, subst}
use mathlib.Core.List.{List, [], ◌∷◌, ◌++◌}
use Prim.Native.Nat.{ℕ, ◌<◌}
use native.Mathlib.Omega.{arith}
use lib.ListN.{length-replicate}
use lib.Dec.{T}
use Rattle.residue.proofs.Congruent.{congruent_of_eq, congruent_trans, congruent_small}
use Rattle.equations.specs.Equation.{solves}
use Rattle.equations.specs.Claim.{no_solution, from}
use Rattle.equations.specs.Promises.{constant}
use Rattle.equations.specs.Wanted.{Wants}
use Rattle.equations.proofs.Dot.{dot_zeros}
use Rattle.equations.proofs.Vectors.{below-append, below_zeros}
use Rattle.equations.proofs.Solving.{solves-cons}
use Rattle.equations.proofs.Claim.{describes-nothing}
use Rattle.elimination.proofs.Through.{through-wanted}
use Rattle.system.specs.Wanted.{EveryClaimHasSheet}
use Rattle.system.specs.Wanted.Body.{wanted-none, wanted-from}

-- nothing solves 0 = 1
one_line : (m n : ℕ) → 1 < m → 0 < n → Wants m n no_solution (constant n 1 ∷ [])
one_line m n large some = record {
  few = some;
  shaped = (length-replicate n 0, tt);
  residues = below-append m ((constant n 1).coefficients ++ (1 ∷ [])) []
      (below-append m (constant n 1).coefficients (1 ∷ []) (below_zeros m n (omega arith)) (large, tt)) tt;
  exactly = λ v vec. ((λ t. absurd (contradiction v t)), λ t. absurd (describes-nothing m v t));
  none = λ h. refl;
}
  where
    contradiction : (v : List ℕ) → T (solves m (constant n 1 ∷ []) v) → ⊥
    contradiction v t =
        let same : ◌≡◌ {A = ℕ} 0 1 =
        congruent_small (omega arith) large
        (congruent_trans (congruent_of_eq (sym (dot_zeros n v))) (solves-cons m (constant n 1) [] v t).0) in
        omega arith

pub every_claim_has_sheet : EveryClaimHasSheet
every_claim_has_sheet m n no_solution large some formed =
    subst (Wants m n no_solution) (sym (wanted-none m n)) (one_line m n large some)
every_claim_has_sheet m n (from c ss) large some formed =
    subst (Wants m n (from c ss)) (sym (wanted-from m n c ss)) (through-wanted m n (omega arith) c formed.0 ss formed.1)
