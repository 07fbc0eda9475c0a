-- A basis that is built from a list of lines, from the empty one on.
--   All, Long, Zeros           of every line of a list: it is in a set; has w entries; is 0 at X
--   all_into                   what leads from one set into another
--   long-vectors               vectors of n residues have n entries
--   length-basis, good_basis   its form and its closure
--   sat_basis                  where the lines are 0, so is the basis: for X of any length
--   zeros_basis                and back, for X of w entries
use mathlib.Core.Path.{◌≡◌, refl, sym, ap, ◌∙◌}
use mathlib.Core.List.{List, [], ◌∷◌}
use Prim.Native.Nat.{ℕ, zero, suc, ◌+◌, ◌≤◌, ◌<◌}
use native.Mathlib.Omega.{arith}
use lib.ListN.{length, length-replicate}
use Rattle.residue.specs.Congruent.{Congruent}
use Rattle.residue.proofs.Congruent.{congruent_of, congruent_of_eq}
use Rattle.equations.specs.Vectors.{AllVectors}
use Rattle.equations.specs.Equation.{dot}
use Rattle.equations.proofs.Dot.{dot_zeros}
use Rattle.equations.proofs.Vectors.{vector-length}
use Rattle.elimination.specs.Basis.{insert, inserts, empty, basis}
use Rattle.elimination.proofs.Zeros.{Shape, Sat, length-insert, sat_insert, insert_sat}
use Rattle.elimination.proofs.Closure.{Closure, Good, good_insert}

abbrev pub All : (List ℕ → Type 0) → List (List ℕ) → Type 0
All Q [] = Unit {0}
All Q (l ∷ ls) = Q l × All Q ls

abbrev pub Long : ℕ → List (List ℕ) → Type 0
Long w = All (λ l. length l ≡ w)

abbrev pub Zeros : ℕ → List (List ℕ) → List ℕ → Type 0
Zeros m ls X = All (λ l. Congruent m (dot l X) 0) ls

pub all_into : (Q K : List ℕ → Type 0) → ((l : List ℕ) → Q l → K l) → (ls : List (List ℕ)) → All Q ls → All K ls
all_into Q K f [] q = tt
all_into Q K f (l ∷ ls) q = (f l q.0, all_into Q K f ls q.1)

pub long-vectors : (m n : ℕ) (vs : List (List ℕ)) → AllVectors m n vs → Long n vs
long-vectors m n [] h = tt
long-vectors m n (v ∷ vs) h = (vector-length m n v h.0, long-vectors m n vs h.1)

-- ---- the empty basis

length-empty : (m k w : ℕ) → length (empty m k w) ≡ w
length-empty m k zero = refl
length-empty m k (suc w) = ap suc (length-empty m k w)

shape_empty : (m k w : ℕ) → 0 < m → Shape k (empty m k w)
shape_empty m k zero pos = tt
shape_empty m k (suc w) pos =
    (length-replicate (w + k) 0 ∙ ap (λ (z : ℕ). z + k) (sym (length-empty m k w)), pos, shape_empty m k w pos)

closure_empty : (m k w : ℕ) → Closure m (empty m k w)
closure_empty m k zero = tt
closure_empty m k (suc w) = (
  record { e = 1; factor = omega arith; zero = λ X lx sat. congruent_of_eq (rw dot_zeros refl) },
  closure_empty m k w,
)

good_empty : (m k w : ℕ) → 0 < m → Good m k (empty m k w)
good_empty m k w pos = record { shape = shape_empty m k w pos; closure = closure_empty m k w }

sat_empty : (m k w : ℕ) (X : List ℕ) → w ≤ length X → Sat m (empty m k w) X
sat_empty m k zero X h = tt
sat_empty m k (suc w) [] h = absurd (omega arith)
sat_empty m k (suc w) (x ∷ X) h = (congruent_of 0 x (rw dot_zeros (omega arith)), sat_empty m k w X (omega arith))

-- ---- line after line

module _ (m w k : ℕ) (pos : 0 < m) where
  length-inserts : (B ls : List (List ℕ)) → length (inserts m B ls) ≡ length B
  length-inserts B [] = refl
  length-inserts B (l ∷ ls) = length-inserts (insert m B l) ls ∙ length-insert m B l

  good_inserts : (B ls : List (List ℕ)) → length B ≡ w → Good m k B → Long (w + k) ls → Good m k (inserts m B ls)
  good_inserts B [] lb good long = good
  good_inserts B (l ∷ ls) lb good long =
      good_inserts (insert m B l) ls (length-insert m B l ∙ lb) (good_insert m k B l pos good (omega arith)) long.1

  sat_inserts : (B ls : List (List ℕ)) (X : List ℕ) → length B ≡ w → Good m k B → Long (w + k) ls
      → Sat m B X → Zeros m ls X → Sat m (inserts m B ls) X
  sat_inserts B [] X lb good long sat zeros = sat
  sat_inserts B (l ∷ ls) X lb good long sat zeros =
      sat_inserts (insert m B l) ls X (length-insert m B l ∙ lb) (good_insert m k B l pos good (omega arith)) long.1
      (sat_insert m k B l X pos good.shape (omega arith) sat zeros.0) zeros.1

  inserts_sat : (B ls : List (List ℕ)) (X : List ℕ) → length B ≡ w → Good m k B → Long (w + k) ls → length X ≡ w
      → Sat m (inserts m B ls) X → Sat m B X × Zeros m ls X
  inserts_sat B [] X lb good long lx sat = (sat, tt)
  inserts_sat B (l ∷ ls) X lb good long lx sat =
      let next = good_insert m k B l pos good (omega arith) in
      let after = inserts_sat (insert m B l) ls X (length-insert m B l ∙ lb) next long.1 lx sat in
      let before = insert_sat m k B l X pos good.shape (omega arith) (lx ∙ sym lb) after.0 in
      (before.0, (before.1, after.1))

  -- ---- from the empty basis

  pub length-basis : (ls : List (List ℕ)) → length (basis m w k ls) ≡ w
  unfolding basis
  length-basis ls = length-inserts (empty m k w) ls ∙ length-empty m k w

  pub good_basis : (ls : List (List ℕ)) → Long (w + k) ls → Good m k (basis m w k ls)
  unfolding basis
  good_basis ls long = good_inserts (empty m k w) ls (length-empty m k w) (good_empty m k w pos) long

  pub sat_basis : (ls : List (List ℕ)) (X : List ℕ) → Long (w + k) ls → w ≤ length X → Zeros m ls X
      → Sat m (basis m w k ls) X
  unfolding basis
  sat_basis ls X long lx zeros =
      sat_inserts (empty m k w) ls X (length-empty m k w) (good_empty m k w pos) long (sat_empty m k w X lx) zeros

  pub zeros_basis : (ls : List (List ℕ)) (X : List ℕ) → Long (w + k) ls → length X ≡ w → Sat m (basis m w k ls) X
      → Zeros m ls X
  unfolding basis
  zeros_basis ls X long lx sat =
      (inserts_sat (empty m k w) ls X (length-empty m k w) (good_empty m k w pos) long lx sat).1
