-- Turning, lock by lock: after the turns each lock is its value plus the turns in its row and column, mod m.
--   shifted             the locks with these sums added
--   after_is            so are the locks after the turns
--   length_shifted      there are as many locks as before
--   shifted_at_lem          the lock at one place
--   all-zero            all are 0 if and only if each is
use mathlib.Core.Bool.{Bool, true, false, cond}
use mathlib.Core.List.{List, [], ◌∷◌}
use mathlib.Core.Logic.{◌↔◌}
use mathlib.Core.Path.{◌≡◌, refl, sym, ap, ap₂, ◌∙◌}
use Prim.Native.Nat.{ℕ, zero, suc, ◌+◌, ◌%◌, ◌<◌}
use native.Mathlib.Nat.{mod-lt, mod-eq_of_lt}
use native.Mathlib.Omega.{arith}
use lib.Dec.{T, eqb, eqb→eq}
use lib.ListN.{length, get_or}
use mir.Facts.{and_yes, yes_and, yes_eqb}
use Rattle.residue.proofs.Congruent.{congruent_of_eq, congruent_refl, congruent_trans, congruent_add, congruent_mod}
use Rattle.equations.specs.Lists.{every}
use Rattle.equations.specs.Vectors.{Below}
use Rattle.safe.specs.Locks.{meets, turned_from, turned, after_from, after_turns}
use Rattle.safe.specs.Promises.{sum_from}

abbrev pub shifted : ℕ → ℕ → ℕ → List ℕ → ℕ → List ℕ → List ℕ
shifted m columns p turns i [] = []
shifted m columns p turns i (x ∷ locks) = (x + sum_from columns i p turns) % m ∷ shifted m columns p turns (suc i) locks

-- ---- one lock turned

turned-below : (m columns p t i : ℕ) (locks : List ℕ) → Below m locks → Below m (turned_from m columns p t i locks)
turned-below m columns p t i [] b = tt
turned-below m columns p t i (x ∷ locks) b = (one (meets columns p i), turned-below m columns p t (suc i) locks b.1)
  where
    one : (c : Bool) → cond c ((x + t) % m) x < m
    one true = mod-lt (x + t) (omega (arith, b.0))
    one false = b.0

module _ (m columns p t : ℕ) (turns : List ℕ) where
  -- the turn at p now, or among the others
  shifted_turned : (i : ℕ) (locks : List ℕ)
      → shifted m columns (suc p) turns i (turned_from m columns p t i locks) ≡ shifted m columns p (t ∷ turns) i locks
  shifted_turned i [] = refl
  shifted_turned i (x ∷ locks) =
      ap₂ ◌∷◌ (one (meets columns p i) (sum_from columns i (suc p) turns)) (shifted_turned (suc i) locks)
    where
      one : (c : Bool) (s : ℕ) → (cond c ((x + t) % m) x + s) % m ≡ (x + (cond c t 0 + s)) % m
      one true s =
          (congruent_trans {c = x + (t + s)} (congruent_add (congruent_mod m (x + t)) (congruent_refl {a = s}))
          (congruent_of_eq (omega arith))).same
      one false s = ap (λ (z : ℕ). z % m) (omega arith)

-- ---- all of them

shifted_none : (m columns p i : ℕ) (locks : List ℕ) → Below m locks → shifted m columns p [] i locks ≡ locks
shifted_none m columns p i [] b = refl
shifted_none m columns p i (x ∷ locks) b =
    ap₂ ◌∷◌ (ap (λ (z : ℕ). z % m) (omega arith) ∙ mod-eq_of_lt b.0) (shifted_none m columns p (suc i) locks b.1)

after-from : (m columns p : ℕ) (turns locks : List ℕ) → Below m locks
    → after_from m columns p turns locks ≡ shifted m columns p turns 0 locks
after-from m columns p [] locks b = sym (shifted_none m columns p 0 locks b)
after-from m columns p (t ∷ turns) locks b =
    after-from m columns (suc p) turns (turned m columns p t locks) (turned-below m columns p t 0 locks b)
    ∙ shifted_turned m columns p t turns 0 locks

pub after_is : (m columns : ℕ) (turns locks : List ℕ) → Below m locks
    → after_turns m columns turns locks ≡ shifted m columns 0 turns 0 locks
unfolding after_turns
after_is m columns turns locks b = after-from m columns 0 turns locks b

-- ---- place by place

pub length_shifted : (m columns p : ℕ) (turns : List ℕ) (i : ℕ) (locks : List ℕ)
    → length (shifted m columns p turns i locks) ≡ length locks
length_shifted m columns p turns i [] = refl
length_shifted m columns p turns i (x ∷ locks) = ap suc (length_shifted m columns p turns (suc i) locks)

pub shifted_at_lem : (m columns p : ℕ) (turns : List ℕ) (i k j : ℕ) (locks : List ℕ) → j ≡ i + k → k < length locks
    → get_or (shifted m columns p turns i locks) k 0 ≡ (get_or locks k 0 + sum_from columns j p turns) % m
shifted_at_lem m columns p turns i k j [] e lt = absurd (omega arith)
shifted_at_lem m columns p turns i zero j (x ∷ locks) e lt =
    let same : i ≡ j = omega arith in ap (λ (z : ℕ). (x + sum_from columns z p turns) % m) same
shifted_at_lem m columns p turns i (suc k) j (x ∷ locks) e lt =
    shifted_at_lem m columns p turns (suc i) k j locks (omega arith) (omega arith)

pub all-zero : (xs : List ℕ) → T (every (λ x. eqb x 0) xs) ↔ ((i : ℕ) → i < length xs → get_or xs i 0 ≡ 0)
all-zero [] = ((λ t i lt. absurd (omega arith)), λ f. tt)
all-zero (x ∷ xs) = (
  (λ t. let b = and_yes (eqb x 0) (every (λ y. eqb y 0) xs) t in at (eqb→eq x 0 b.0) ((all-zero xs).0 b.1)),
  λ f. yes_and (eqb x 0) (every (λ y. eqb y 0) xs) (yes_eqb (f 0 (omega arith)))
      ((all-zero xs).1 (λ i lt. f (suc i) (omega arith))),
)
  where
    at : x ≡ 0 → ((i : ℕ) → i < length xs → get_or xs i 0 ≡ 0) → (i : ℕ) → i < suc (length xs) → get_or (x ∷ xs) i 0 ≡ 0
    at e rest zero lt = e
    at e rest (suc i) lt = rest i (omega arith)
