-- Sums of products: of small ones as they are, of others by their low and high halves, of 32 bits each, which are summed apart.
--   dot_more, dot-all                   the sum of the first products: of one more, of all
--   small_product                       a product of residues of a small modulus
--   Halves, halves_start, -next, -end   the two sums: of no product, of one more, of all
--   high_fits                           the sum of the high halves fits 64 bits
--   join_is                             the remainder of the high sum, with what the low one carries, will do
--   dot-short                           entries past the end of the other list do not count
use mathlib.Core.Path.{◌≡◌, refl, sym, ap, ap₂, ◌∙◌}
use mathlib.Core.List.{List, [], ◌∷◌}
use Prim.Native.Nat.{ℕ, zero, suc, ◌+◌, ◌*◌, ◌/◌, ◌%◌, ◌≤◌, ◌<◌}
use native.Mathlib.Nat.{suc_inj, mul-le-mul, div-add-mod'}
use native.Mathlib.Numerals.{add-one}
use native.Mathlib.Omega.{arith}
use lib.ListN.{length, take, get_or}
use lib.Seq.{take-length}
use Rattle.residue.proofs.Congruent.{congruent_refl, congruent_add, congruent_mul, congruent_mod}
use Rattle.equations.specs.Equation.{dot}
use Rattle.equations.proofs.Dot.{dot-nil}

dot_grow : (i : ℕ) (a b : List ℕ) → length a ≡ length b → i < length a
    → dot (take (suc i) a) (take (suc i) b) ≡ dot (take i a) (take i b) + get_or a i 0 * get_or b i 0
dot_grow i [] b h l = absurd (omega arith)
dot_grow i (x ∷ a) [] h l = absurd (omega arith)
dot_grow zero (x ∷ a) (y ∷ b) h l = omega arith
dot_grow (suc i) (x ∷ a) (y ∷ b) h l = omega (arith, dot_grow i a b (suc_inj h) (omega arith))

-- the sum of the first i products: with one more, and where these are all
module _ (i : ℕ) (a b : List ℕ) (h : length a ≡ length b) where
  pub dot_more : i < length a → dot (take i a) (take i b) + get_or a i 0 * get_or b i 0 ≡ dot (take (i + 1) a) (take (i + 1) b)
  dot_more l = sym (dot_grow i a b h l) ∙ ap (λ (k : ℕ). dot (take k a) (take k b)) (sym (add-one i))

  pub dot-all : i ≡ length a → dot (take i a) (take i b) ≡ dot a b
  dot-all e = ap₂ dot (ap (λ (k : ℕ). take k a) e ∙ take-length a) (ap (λ (k : ℕ). take k b) (e ∙ h) ∙ take-length b)

pub small_product : (m x y : ℕ) → m ≤ 16777216 → x < m → y < m → x * y ≤ 281474943156225
small_product m x y small h g = mul-le-mul {n₁ = x} {m₁ = y} {n₂ = 16777215} {m₂ = 16777215} (omega arith) (omega arith)

-- the two sums make n. It stays shut, so that omega does not meet it where only the sums' sizes matter.
unfoldable pub Halves : ℕ → ℕ → ℕ → Type 0
Halves low high n = low + high * 4294967296 ≡ n

pub halves_start : (a b : List ℕ) → Halves 0 0 (dot (take 0 a) (take 0 b))
unfolding Halves
halves_start a b = refl

pub halves_next : (i low high p q : ℕ) (a b : List ℕ) → length a ≡ length b → i < length a
    → Halves low high (dot (take i a) (take i b))
    → p ≡ get_or a i 0 * get_or b i 0 % 4294967296 → q ≡ get_or a i 0 * get_or b i 0 / 4294967296
    → Halves (low + p) (high + q) (dot (take (i + 1) a) (take (i + 1) b))
unfolding Halves
halves_next i low high p q a b h l e f g =
    omega (arith, e, f, g, div-add-mod' (get_or a i 0 * get_or b i 0) 4294967296) ∙ dot_more i a b h l

pub halves_end : (i low high : ℕ) (a b : List ℕ) → length a ≡ length b → i ≡ length a
    → Halves low high (dot (take i a) (take i b)) → low + high * 4294967296 ≡ dot a b
unfolding Halves
halves_end i low high a b h e f = f ∙ dot-all i a b h e

high_half : (x : ℕ) → x ≤ 18446744065119617025 → x / 4294967296 ≤ 4294967295
high_half x h = omega arith

pub high_fits : (i n high x q : ℕ) → i < n → n ≤ 65536 → high ≤ i * 4294967295 → x ≤ 18446744065119617025
    → q ≡ x / 4294967296 → high + q < 18446744073709551616
high_fits i n high x q h g e f is = sum (rw is (high_half x f))
  where
    sum : q ≤ 4294967295 → high + q < 18446744073709551616
    sum k = omega arith

pub join_is : (m low high p q h : ℕ) → p ≡ low % 4294967296 → q ≡ low / 4294967296 → h ≡ (high + q) % m
    → (h * 4294967296 + p) % m ≡ (low + high * 4294967296) % m
join_is m low high p q h rest carry e =
    rw e (congruent_add (congruent_mul (congruent_mod m (high + q)) (congruent_refl {a = 4294967296})) congruent_refl).same
    ∙ ap (λ (n : ℕ). n % m) carried
  where
    carried : (high + q) * 4294967296 + p ≡ low + high * 4294967296
    carried = omega (arith, rest, carry, div-add-mod' low 4294967296)

pub dot-short : (p q : ℕ) (a v : List ℕ) → length v ≤ p → length v ≤ q → dot (take p a) v ≡ dot (take q a) v
dot-short p q a [] h g = dot-nil (take p a) ∙ sym (dot-nil (take q a))
dot-short zero q a (x ∷ v) h g = absurd (omega arith)
dot-short (suc p) zero a (x ∷ v) h g = absurd (omega arith)
dot-short (suc p) (suc q) [] (x ∷ v) h g = refl
dot-short (suc p) (suc q) (y ∷ a) (x ∷ v) h g = omega (arith, dot-short p q a v (omega arith) (omega arith))
