-- Vectors of residues and their dictionary order.
--   vector-length, vector-below    a vector has n entries, below m
--   vector-same-length             two vectors have the same length
--   vector_of                      such a list is a vector
--   below-combine                  a combination mod m has entries below m
--   below_zeros                    zeros are below m
--   below_at, below-take, below-drop   an entry, the front and the rest of a list of residues
--   below-append, below_parts      residues behind residues
--   below_mono                     what is below m is below a larger number
--   all-below                      `all_below` is the test of that
--   all_below_on, all_below_stop   one number more is looked at: it is below m, or it is not
--   before_asym, before_irrefl     the order is strict
--   before_trans, before-total     and goes on; of two vectors one comes before the other, or they are equal
--   nothing_before_zeros           and begins with the zeros
use mathlib.Core.Path.{◌≡◌, refl, sym, ap, ap₂, ◌∙◌}
use mathlib.Core.Logic.{◌⊎◌, inl, inr, ◌↔◌}
use mathlib.Core.List.{List, [], ◌∷◌, ◌++◌}
use mathlib.Core.Bool.{false}
use Prim.Native.Nat.{ℕ, zero, suc, ◌+◌, ◌≤◌, ◌<◌}
use native.Mathlib.Nat.{suc_inj, mod-lt}
use native.Mathlib.Numerals.{add-one}
use native.Mathlib.Omega.{arith}
use lib.ListN.{length, take, drop, get_or, replicate}
use lib.Seq.{drop-cons}
use lib.Dec.{T, ltb, ltb→lt, lt→ltb}
use mir.Facts.{and_yes, yes_and}
use borrow.Author.Tests.{lt-ltb, le-ltb}
use Rattle.equations.specs.Vectors.{Vector, Below, Before, combine}
use Rattle.equations.specs.Multipliers.{all_below}

pub vector-length : (m n : ℕ) (v : List ℕ) → Vector m n v → length v ≡ n
vector-length m zero [] h = refl
vector-length m zero (x ∷ v) h = absurd h
vector-length m (suc n) [] h = absurd h
vector-length m (suc n) (x ∷ v) h = ap suc (vector-length m n v h.1)

pub vector-same-length : (m n : ℕ) (v w : List ℕ) → Vector m n v → Vector m n w → length v ≡ length w
vector-same-length m n v w a b = vector-length m n v a ∙ sym (vector-length m n w b)

pub vector-below : (m n : ℕ) (v : List ℕ) → Vector m n v → Below m v
vector-below m zero [] h = tt
vector-below m zero (x ∷ v) h = absurd h
vector-below m (suc n) [] h = absurd h
vector-below m (suc n) (x ∷ v) h = (h.0, vector-below m n v h.1)

pub vector_of : (m n : ℕ) (v : List ℕ) → length v ≡ n → Below m v → Vector m n v
vector_of m zero [] h b = tt
vector_of m zero (x ∷ v) h b = absurd (omega arith)
vector_of m (suc n) [] h b = absurd (omega arith)
vector_of m (suc n) (x ∷ v) h b = (b.0, vector_of m n v (suc_inj h) b.1)

pub below-combine : (m s t : ℕ) (v w : List ℕ) → 0 < m → Below m (combine m s t v w)
below-combine m s t [] w pos = tt
below-combine m s t (x ∷ v) [] pos = tt
below-combine m s t (x ∷ v) (y ∷ w) pos = (mod-lt _ pos, below-combine m s t v w pos)

pub below_at : (m i : ℕ) (v : List ℕ) → Below m v → i < length v → get_or v i 0 < m
below_at m i [] h l = absurd (omega arith)
below_at m zero (x ∷ v) h l = h.0
below_at m (suc i) (x ∷ v) h l = below_at m i v h.1 (omega arith)

pub below-take : (m i : ℕ) (v : List ℕ) → Below m v → Below m (take i v)
below-take m zero v h = tt
below-take m (suc i) [] h = tt
below-take m (suc i) (x ∷ v) h = (h.0, below-take m i v h.1)

pub below-drop : (m i : ℕ) (v : List ℕ) → Below m v → Below m (drop i v)
below-drop m zero v h = h
below-drop m (suc i) [] h = tt
below-drop m (suc i) (x ∷ v) h = below-drop m i v h.1

pub below-append : (m : ℕ) (v w : List ℕ) → Below m v → Below m w → Below m (v ++ w)
below-append m [] w a b = b
below-append m (x ∷ v) w a b = (a.0, below-append m v w a.1 b)

pub below_parts : (m : ℕ) (v w : List ℕ) → Below m (v ++ w) → Below m v × Below m w
below_parts m [] w b = (tt, b)
below_parts m (x ∷ v) w b = let rest = below_parts m v w b.1 in ((b.0, rest.0), rest.1)

pub below_mono : (m k : ℕ) (v : List ℕ) → m ≤ k → Below m v → Below k v
below_mono m k [] h b = tt
below_mono m k (x ∷ v) h b = (omega (arith, b.0), below_mono m k v h b.1)

pub below_zeros : (m j : ℕ) → 0 < m → Below m (replicate j 0)
below_zeros m zero pos = tt
below_zeros m (suc j) pos = (pos, below_zeros m j pos)

pub all-below : (m : ℕ) (ks : List ℕ) → T (all_below m ks) ↔ Below m ks
all-below m [] = ((λ t. tt), λ b. tt)
all-below m (k ∷ ks) = (
  (λ t. let b = and_yes (ltb k m) (all_below m ks) t in (ltb→lt k m b.0, (all-below m ks).0 b.1)),
  λ b. yes_and (ltb k m) (all_below m ks) (lt→ltb k m b.0) ((all-below m ks).1 b.1),
)

module _ (m : ℕ) (xs : List ℕ) (i : ℕ) (at : i < length xs) where
  pub all_below_on : get_or xs i 0 < m → all_below m (drop i xs) ≡ all_below m (drop (i + 1) xs)
  all_below_on h = rw (add-one, drop-cons xs i 0 at, lt-ltb (get_or xs i 0) m h)

  pub all_below_stop : m ≤ get_or xs i 0 → all_below m (drop i xs) ≡ false
  all_below_stop h = rw (drop-cons xs i 0 at, le-ltb (get_or xs i 0) m h)

pub before_asym : (v w : List ℕ) → Before v w → Before w v → ⊥
before_asym [] w p q = p
before_asym (x ∷ v) [] p q = p
before_asym (x ∷ v) (y ∷ w) (inl p) (inl q) = omega arith
before_asym (x ∷ v) (y ∷ w) (inl p) (inr q) = omega arith
before_asym (x ∷ v) (y ∷ w) (inr p) (inl q) = omega arith
before_asym (x ∷ v) (y ∷ w) (inr p) (inr q) = before_asym v w p.1 q.1

pub before_irrefl : (v : List ℕ) → Before v v → ⊥
before_irrefl [] p = p
before_irrefl (x ∷ v) (inl p) = omega arith
before_irrefl (x ∷ v) (inr p) = before_irrefl v p.1

pub before_trans : (u v w : List ℕ) → Before u v → Before v w → Before u w
before_trans [] v w p q = p
before_trans (x ∷ u) [] w p q = absurd p
before_trans (x ∷ u) (y ∷ v) [] p q = q
before_trans (x ∷ u) (y ∷ v) (z ∷ w) (inl p) (inl q) = inl (omega arith)
before_trans (x ∷ u) (y ∷ v) (z ∷ w) (inl p) (inr q) = inl (omega arith)
before_trans (x ∷ u) (y ∷ v) (z ∷ w) (inr p) (inl q) = inl (omega arith)
before_trans (x ∷ u) (y ∷ v) (z ∷ w) (inr p) (inr q) = inr (p.0 ∙ q.0, before_trans u v w p.1 q.1)

three_ways : (x y : ℕ) → (x < y) ⊎ ((x ≡ y) ⊎ (y < x))
three_ways zero zero = inr (inl refl)
three_ways zero (suc y) = inl (omega arith)
three_ways (suc x) zero = inr (inr (omega arith))
three_ways (suc x) (suc y) = go (three_ways x y)
  where
    go : (x < y) ⊎ ((x ≡ y) ⊎ (y < x)) → (suc x < suc y) ⊎ ((suc x ≡ suc y) ⊎ (suc y < suc x))
    go (inl lt) = inl (omega arith)
    go (inr (inl e)) = inr (inl (ap suc e))
    go (inr (inr gt)) = inr (inr (omega arith))

pub before-total : (m n : ℕ) (v w : List ℕ) → Vector m n v → Vector m n w → Before v w ⊎ ((v ≡ w) ⊎ Before w v)
before-total m zero [] [] a b = inr (inl refl)
before-total m zero [] (y ∷ w) a b = absurd b
before-total m zero (x ∷ v) w a b = absurd a
before-total m (suc n) [] w a b = absurd a
before-total m (suc n) (x ∷ v) [] a b = absurd b
before-total m (suc n) (x ∷ v) (y ∷ w) a b = go (three_ways x y) (before-total m n v w a.1 b.1)
  where
    go : (x < y) ⊎ ((x ≡ y) ⊎ (y < x)) → Before v w ⊎ ((v ≡ w) ⊎ Before w v)
        → Before (x ∷ v) (y ∷ w) ⊎ (((x ∷ v) ≡ (y ∷ w)) ⊎ Before (y ∷ w) (x ∷ v))
    go (inl lt) rest = inl (inl lt)
    go (inr (inr gt)) rest = inr (inr (inl gt))
    go (inr (inl e)) (inl b) = inl (inr (e, b))
    go (inr (inl e)) (inr (inl h)) = inr (inl (ap₂ ◌∷◌ e h))
    go (inr (inl e)) (inr (inr b)) = inr (inr (inr (sym e, b)))

pub nothing_before_zeros : (n : ℕ) (w : List ℕ) → Before w (replicate n 0) → ⊥
nothing_before_zeros zero [] b = b
nothing_before_zeros zero (x ∷ w) b = b
nothing_before_zeros (suc n) [] b = b
nothing_before_zeros (suc n) (x ∷ w) (inl lt) = omega arith
nothing_before_zeros (suc n) (x ∷ w) (inr b) = nothing_before_zeros n w b.1
