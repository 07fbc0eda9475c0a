-- What lies in the list of numbers of a claim.
--   claim_of_flat      a start with its steps, one behind the other, are found again
--   claim_start        the start of a claim that has one is a vector of n residues
--   claim_formed       a well-formed claim's vectors are vectors of n residues,
--   claim_described    and it describes no others
--   claim_right_for    one that is right, with the basis of the equations
use mathlib.Core.Path.{◌≡◌, refl, ap₂, ◌∙◌, ap}
use mathlib.Core.Bool.{true}
use mathlib.Core.List.{List, [], ◌∷◌, ◌++◌, flatten}
use Prim.Native.Nat.{ℕ, ◌<◌}
use native.Mathlib.Omega.{arith}
use lib.ListN.{length, take, drop, length-append}
use lib.Seq.{take_at, drop_at, length-take-le}
use lib.Dec.{T}
use Rattle.equations.specs.Vectors.{Vector, AllVectors}
use Rattle.equations.specs.Lines.{equations_of}
use Rattle.equations.specs.Claim.{Claim, no_solution, from, describes, is_right}
use Rattle.equations.specs.Reasons.{Formed}
use Rattle.equations.proofs.Truth.{of_true}
use Rattle.equations.proofs.Lines.{equations-shaped}
use Rattle.equations.proofs.Vectors.{vector-length, vector_of, below-take, below-drop}
use Rattle.equations.proofs.Claim.{describes-nothing}
use Rattle.equations.proofs.Listed.{described_vector}
use Rattle.elimination.specs.Tableau.{tableau}
use Rattle.system.specs.Claims.{vectors_of, claim_of, Claimed}
use Rattle.system.specs.Model.Reading.{rows_in}
use Rattle.system.specs.Model.Marking.{RightFor}
use Rattle.system.proofs.Chunks.{vectors_listed, vectors_flatten}
use Rattle.system.proofs.Marks.{claim_front}

claim_of_cons : (n : ℕ) (s : List ℕ) → 0 < length s → claim_of n s ≡ from (take n s) (vectors_of n (drop n s))
unfolding claim_of
claim_of_cons n [] h = absurd (omega arith)
claim_of_cons n (x ∷ s) h = refl

pub claim_of_flat : (m n : ℕ) (c : List ℕ) (ss : List (List ℕ)) → 0 < n → Vector m n c → AllVectors m n ss
    → claim_of n (c ++ flatten ss) ≡ from c ss
claim_of_flat m n c ss pos start steps =
    let long = vector-length m n c start in
    claim_of_cons n (c ++ flatten ss) (omega (arith, length-append c (flatten ss)))
    ∙ ap₂ from (take_at c (flatten ss) n long)
    (ap (vectors_of n) (drop_at c (flatten ss) n long) ∙ vectors_flatten m n ss pos steps)

pub claim_start : (m n : ℕ) (claim : List ℕ) → Claimed m n claim → (length claim ≡ 0 → ⊥) → Vector m n (take n claim)
claim_start m n claim claimed some =
    vector_of m n (take n claim) (length-take-le n claim (claim_front m n claim claimed some)) (below-take m n claim claimed.residues)

pub claim_formed : (m n : ℕ) (claim : List ℕ) → Claimed m n claim → Formed m n (claim_of n claim)
unfolding claim_of
claim_formed m n [] claimed = tt
claim_formed m n (x ∷ s) claimed =
    let claim : List ℕ = x ∷ s in (
      claim_start m n claim claimed (λ h. omega arith),
      vectors_listed m n (drop n claim) (below-drop m n claim claimed.residues),
    )

pub claim_right_for : (m n : ℕ) (lines claim : List ℕ) → Claimed m n claim → (s : List ℕ) → rows_in n s ≡ tableau m n 0 (equations_of n lines)
    → is_right m n (equations_of n lines) (claim_of n claim) ≡ true → RightFor m n (equations_of n lines) s (claim_of n claim)
claim_right_for m n lines claim claimed s rows right =
    record { shaped = equations-shaped n lines; rows = rows; formed = claim_formed m n claim claimed; right = of_true right }

formed_described : (m n : ℕ) → 0 < m → (claim : Claim) → Formed m n claim → (v : List ℕ) → T (describes m claim v) → Vector m n v
formed_described m n pos no_solution formed v t = absurd (describes-nothing m v t)
formed_described m n pos (from c ss) formed v t = described_vector m n pos c formed.0 ss formed.1 v t

pub claim_described : (m n : ℕ) (claim : List ℕ) → 0 < m → Claimed m n claim → (v : List ℕ)
    → T (describes m (claim_of n claim) v) → Vector m n v
claim_described m n claim pos claimed = formed_described m n pos (claim_of n claim) (claim_formed m n claim claimed)
