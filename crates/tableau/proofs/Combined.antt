-- A combination of two lists a and b that is stored over a third one o (in use a or b itself), an entry in each turn: after i
-- turns the list x is a combination in front and o behind it.
--   combined-next          one turn
--   combined-read          what the next turn reads is still that of o
--   beside-next, -below    the same where o is b, and what is read of residues is below m
--   Both, both_next        two combinations at once, the first stored over a and the second over b
--   both_below             what the next turn reads of residues is below m
--   multiple_is            a multiple is a combination with a list that is taken 0 times
--   minus_is               p·a - b is the combination with minus 1
use mathlib.Core.Path.{◌≡◌, refl, sym, ap, ap₂, ◌∙◌}
use mathlib.Core.List.{List, [], ◌∷◌, ◌++◌}
use Prim.Native.Nat.{ℕ, zero, suc, ◌+◌, ◌*◌, ◌%◌, ◌<◌}
use native.Mathlib.Nat.{suc_inj, mod-eq_of_lt}
use native.Mathlib.Numerals.{add-one}
use native.Mathlib.Omega.{arith}
use lib.ListN.{length, take, drop, get_or, set}
use Rattle.residue.specs.Congruent.{Congruent}
use Rattle.residue.specs.Negative.{negative}
use Rattle.residue.proofs.Congruent.{congruent_of, congruent_of_eq, congruent_refl, congruent_sym, congruent_trans}
use Rattle.residue.proofs.Congruent.{congruent_add, congruent_mul, congruent_mod, congruent_cancel}
use Rattle.residue.proofs.Negative.{negative_is}
use Rattle.equations.specs.Vectors.{combine, Below}
use Rattle.equations.proofs.Vectors.{below_at}

abbrev pub Combined : ℕ → ℕ → ℕ → List ℕ → List ℕ → List ℕ → ℕ → List ℕ → Type 0
Combined m s t a b o i x = x ≡ combine m s t (take i a) (take i b) ++ drop i o

module _ (m s t : ℕ) where
  read : (i : ℕ) (a b o : List ℕ) → length a ≡ length b → length o ≡ length a → i < length a
      → get_or (combine m s t (take i a) (take i b) ++ drop i o) i 0 ≡ get_or o i 0
  read i [] b o h g l = absurd (omega arith)
  read i (x ∷ a) [] o h g l = absurd (omega arith)
  read i (x ∷ a) (y ∷ b) [] h g l = absurd (omega arith)
  read zero (x ∷ a) (y ∷ b) (z ∷ o) h g l = refl
  read (suc i) (x ∷ a) (y ∷ b) (z ∷ o) h g l = read i a b o (suc_inj h) (suc_inj g) (omega arith)

  write : (i : ℕ) (a b o : List ℕ) → length a ≡ length b → length o ≡ length a → i < length a
      → set (combine m s t (take i a) (take i b) ++ drop i o) i ((s * get_or a i 0 + t * get_or b i 0) % m)
      ≡ combine m s t (take (suc i) a) (take (suc i) b) ++ drop (suc i) o
  write i [] b o h g l = absurd (omega arith)
  write i (x ∷ a) [] o h g l = absurd (omega arith)
  write i (x ∷ a) (y ∷ b) [] h g l = absurd (omega arith)
  write zero (x ∷ a) (y ∷ b) (z ∷ o) h g l = refl
  write (suc i) (x ∷ a) (y ∷ b) (z ∷ o) h g l =
      ap {B = List ℕ} (λ r. (s * x + t * y) % m ∷ r) (write i a b o (suc_inj h) (suc_inj g) (omega arith))

  pub combined-read : (i : ℕ) (a b o x : List ℕ) → length a ≡ length b → length o ≡ length a → i < length a
      → Combined m s t a b o i x → get_or x i 0 ≡ get_or o i 0
  combined-read i a b o x h g l e = ap (λ (z : List ℕ). get_or z i 0) e ∙ read i a b o h g l

  -- y and z are the entries of a and b as the turn has read them
  pub combined-next : (i v y z : ℕ) (a b o x : List ℕ) → length a ≡ length b → length o ≡ length a → i < length a
      → Combined m s t a b o i x → y ≡ get_or a i 0 → z ≡ get_or b i 0 → v ≡ (s * y + t * z) % m
      → Combined m s t a b o (i + 1) (set x i v)
  combined-next i v y z a b o x h g l e f k d =
      ap₂ (λ (z : List ℕ) (k : ℕ). set z i k) e (d ∙ ap₂ (λ (u w : ℕ). (s * u + t * w) % m) f k) ∙ write i a b o h g l
      ∙ ap (λ (k : ℕ). combine m s t (take k a) (take k b) ++ drop k o) (sym (add-one i))

  -- where the second list is the one written over: what a turn reads of it is as it was, and so below m where all of it is
  module _ (i : ℕ) (a b x : List ℕ) (long : length a ≡ length b) (here : i < length a) where
    pub beside-next : (v : ℕ) → Combined m s t a b b i x → v ≡ (s * get_or a i 0 + t * get_or x i 0) % m
        → Combined m s t a b b (i + 1) (set x i v)
    beside-next v e d =
        combined-next i v (get_or a i 0) (get_or x i 0) a b b x long (sym long) here e refl
        (combined-read i a b b x long (sym long) here e) d

    pub beside-below : Below m b → Combined m s t a b b i x → get_or x i 0 < m
    beside-below h e = omega (arith, combined-read i a b b x long (sym long) here e, below_at m i b h (omega arith))

-- ---- two combinations at once, the first over a and the second over b: what a turn reads of both is as it was

abbrev pub Both : ℕ → ℕ → ℕ → ℕ → ℕ → List ℕ → List ℕ → ℕ → List ℕ → List ℕ → Type 0
Both m s t p n a b i row line = Combined m s t a b a i row × Combined m p n a b b i line

module _ (m s t p n i : ℕ) (a b row line : List ℕ) (long : length a ≡ length b) (here : i < length a) where
  pub both_below : Below m a → Below m b → Both m s t p n a b i row line → (get_or row i 0 < m) × (get_or line i 0 < m)
  both_below h g (e, f) = (
    omega (arith, combined-read m s t i a b a row long refl here e, below_at m i a h here),
    omega (arith, combined-read m p n i a b b line long (sym long) here f, below_at m i b g (omega arith)),
  )

  pub both_next : (x y : ℕ) → Both m s t p n a b i row line → x ≡ (s * get_or row i 0 + t * get_or line i 0) % m
      → y ≡ (p * get_or row i 0 + n * get_or line i 0) % m → Both m s t p n a b (i + 1) (set row i x) (set line i y)
  both_next x y (e, f) g h =
      let u = combined-read m s t i a b a row long refl here e in
      let v = combined-read m p n i a b b line long (sym long) here f in (
        combined-next m s t i x (get_or row i 0) (get_or line i 0) a b a row long refl here e u v g,
        combined-next m p n i y (get_or row i 0) (get_or line i 0) a b b line long (sym long) here f u v h,
      )

-- ---- entries

pub multiple_is : {v : ℕ} (m t b a : ℕ) → v ≡ t * b % m → v ≡ (0 * a + t * b) % m
multiple_is m t b a is = let alone : t * b ≡ 0 * a + t * b = omega arith in is ∙ ap (λ (z : ℕ). z % m) alone

-- r + b is p·a up to one m
pub minus_is : (m p a b r k : ℕ) → r < m → r + b ≡ (p * a) % m + k * m → r ≡ (p * a + negative m 1 % m * b) % m
minus_is m p a b r k h e = sym (mod-eq_of_lt h) ∙ same
  where
    none : Congruent m (negative m 1 % m * b + b) 0
    none =
        congruent_trans {b = (1 + negative m 1) * b}
        (congruent_trans {b = negative m 1 * b + b}
        (congruent_add (congruent_mul (congruent_mod m (negative m 1)) (congruent_refl {a = b})) congruent_refl)
        (congruent_of_eq (omega arith)))
        (congruent_trans {b = 0 * b} (congruent_mul (negative_is m 1 (omega arith)) (congruent_refl {a = b}))
        (congruent_of_eq (omega arith)))

    sum : Congruent m (r + b) (p * a + negative m 1 % m * b + b)
    sum =
        congruent_trans {b = p * a % m}
        (congruent_of 0 k (omega (arith, e)))
        (congruent_trans {b = p * a + 0} (congruent_trans (congruent_mod m (p * a)) (congruent_of_eq (omega arith)))
        (congruent_trans (congruent_add (congruent_refl {a = p * a}) (congruent_sym none)) (congruent_of_eq (omega arith))))

    same : r % m ≡ (p * a + negative m 1 % m * b) % m
    same = (congruent_cancel b sum).same
