-- Behind its pivot a row of a basis has residues only, whatever the lines are: a row begins as zeros, and a step
-- reduces. (The pivot is a divisor of m, so at most m.)
--   TailsBelow                     every row's entries behind its pivot are below m
--   tails_insert, rows-below       through an insertion, and of a whole basis
use mathlib.Core.List.{List, [], ◌∷◌}
use Prim.Native.Nat.{ℕ, zero, suc, ◌+◌, ◌<◌}
use Rattle.equations.specs.Vectors.{Below}
use Rattle.equations.proofs.Vectors.{below-combine, below_zeros}
use Rattle.elimination.specs.Basis.{insert, inserts, empty, basis}

abbrev pub TailsBelow : ℕ → List (List ℕ) → Type 0
TailsBelow m [] = Unit {0}
TailsBelow m ([] ∷ B) = TailsBelow m B
TailsBelow m ((d ∷ r) ∷ B) = Below m r × TailsBelow m B

tails_empty : (m k w : ℕ) → 0 < m → TailsBelow m (empty m k w)
tails_empty m k zero pos = tt
tails_empty m k (suc w) pos = (below_zeros m (w + k) pos, tails_empty m k w pos)

pub tails_insert : (m : ℕ) (B : List (List ℕ)) (W : List ℕ) → 0 < m → TailsBelow m B → TailsBelow m (insert m B W)
tails_insert m [] W pos tails = tt
tails_insert m ([] ∷ B) W pos tails = tails
tails_insert m ((d ∷ r) ∷ B) [] pos tails = tails
tails_insert m ((d ∷ r) ∷ B) (zero ∷ W) pos tails = (tails.0, tails_insert m B W pos tails.1)
tails_insert m ((d ∷ r) ∷ B) (suc v ∷ W) pos tails = (below-combine m _ _ r W pos, tails_insert m B _ pos tails.1)

tails_inserts : (m : ℕ) (B ls : List (List ℕ)) → 0 < m → TailsBelow m B → TailsBelow m (inserts m B ls)
tails_inserts m B [] pos tails = tails
tails_inserts m B (l ∷ ls) pos tails = tails_inserts m (insert m B l) ls pos (tails_insert m B l pos tails)

pub rows-below : (m w k : ℕ) (ls : List (List ℕ)) → 0 < m → TailsBelow m (basis m w k ls)
unfolding basis
rows-below m w k ls pos = tails_inserts m (empty m k w) ls pos (tails_empty m k w pos)
