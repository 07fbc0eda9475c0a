-- Lines with a modulus of their own are equations mod m, once both sides are multiplied by m/q: this is the only bridge
-- between the two, and all that is known of equations comes over it.
--   times-whole, times_positive   m/q times q is m; m/q is not 0
--   dot-scaled                    a multiple of the coefficients gives that multiple of the sum
--   one-scaled, holds-scaled      a line holds exactly where its scaled equation is solved
--   scaled-level                  right sides put to 0, before or after
--   moduli-level                  that changes no modulus
--   holds-level-scaled            so the lines with right sides 0 hold where the scaled equations with right sides 0 do
--   scaled-shaped                 scaled lines have n coefficients
--   scaled_small, scaled-below    residues mod q become residues mod m
use mathlib.Core.Path.{◌≡◌, refl, ap, ap₂, ◌∙◌, sym, subst}
use mathlib.Core.List.{List, [], ◌∷◌, map}
use mathlib.Core.Bool.{◌&&◌}
use Prim.Native.Nat.{ℕ, ◌*◌, ◌/◌, ◌<◌}
use native.Mathlib.Nat.{mul_comm, div-eq_of_eq-mul_right, mul-lt-mul_of_pos_left}
use native.Mathlib.Omega.{arith}
use lib.ListN.{length-map}
use lib.Dec.{T}
use Rattle.residue.specs.Congruent.{Congruent}
use Rattle.residue.specs.Divides.{Divides}
use Rattle.residue.proofs.Congruent.{congruent_of_eq, congruent_trans, congruent_sym, congruent_scale, congruent_unscale}
use Rattle.residue.proofs.Divides.{factor_positive}
use Rattle.equations.specs.Vectors.{Below}
use Rattle.equations.specs.Equation.{Equation, dot, solves_one, solves, homogeneous, Shaped}
use Rattle.equations.specs.Line.{Line, Moduli, holds_one, holds, level_one, level, ShapedLines, scaled_one, scaled}
use Rattle.equations.proofs.Truth.{same_of_both}
use Rattle.equations.proofs.Solving.{solves_congruent}

-- ---- m/q

module _ (m q : ℕ) (pos : 0 < m) (divides : Divides q m) where
  pub times-whole : m ≡ m / q * q
  times-whole =
      let e : m / q ≡ divides.quotient =
      div-eq_of_eq-mul_right (factor_positive m q divides.quotient divides.eq pos) divides.eq in
      divides.eq ∙ mul_comm q divides.quotient ∙ ap (λ (z : ℕ). z * q) (sym e)

  pub times_positive : 0 < m / q
  times_positive = factor_positive m (m / q) q times-whole pos

  pub scaled_small : (a : ℕ) → a < q → m / q * a < m
  scaled_small a lt =
      let l : m / q * a < m / q * q = mul-lt-mul_of_pos_left lt times_positive in
      subst (λ (z : ℕ). m / q * a < z) (sym times-whole) l

  pub scaled-below : (xs : List ℕ) → Below q xs → Below m (map (λ (a : ℕ). m / q * a) xs)
  scaled-below [] h = tt
  scaled-below (x ∷ xs) h = (scaled_small x h.0, scaled-below xs h.1)

pub dot-scaled : (k : ℕ) (xs v : List ℕ) → dot (map (λ (a : ℕ). k * a) xs) v ≡ k * dot xs v
dot-scaled k [] v = omega arith
dot-scaled k (x ∷ xs) [] = omega arith
dot-scaled k (x ∷ xs) (y ∷ v) = omega (arith, dot-scaled k xs v)

-- ---- one line

module _ (m : ℕ) (pos : 0 < m) (l : Line) (divides : Divides l.modulus m) (v : List ℕ) where
  abbrev k : ℕ
  k = m / l.modulus

  abbrev left : ℕ
  left = dot l.equation.coefficients v

  whole : m ≡ k * l.modulus
  whole = times-whole m l.modulus pos divides

  sum : dot (scaled_one m l).coefficients v ≡ k * left
  sum = dot-scaled k l.equation.coefficients v

  up : T (holds_one l v) → T (solves_one m (scaled_one m l) v)
  up t =
      (solves_congruent m (scaled_one m l) v).1
      (congruent_trans (congruent_of_eq sum)
      (subst (λ (z : ℕ). Congruent z (k * left) (k * l.equation.right)) (sym whole)
      (congruent_scale k ((solves_congruent l.modulus l.equation v).0 t))))

  down : T (solves_one m (scaled_one m l) v) → T (holds_one l v)
  down t =
      (solves_congruent l.modulus l.equation v).1
      (congruent_unscale k (times_positive m l.modulus pos divides)
      (subst (λ (z : ℕ). Congruent z (k * left) (k * l.equation.right)) whole
      (congruent_trans (congruent_sym (congruent_of_eq sum)) ((solves_congruent m (scaled_one m l) v).0 t))))

  pub one-scaled : holds_one l v ≡ solves_one m (scaled_one m l) v
  one-scaled = same_of_both (holds_one l v) (solves_one m (scaled_one m l) v) up down

-- ---- all lines

pub holds-scaled : (m : ℕ) → 0 < m → (ls : List Line) → Moduli m ls → (v : List ℕ)
    → holds ls v ≡ solves m (scaled m ls) v
holds-scaled m pos [] h v = refl
holds-scaled m pos (l ∷ ls) h v =
    ap₂ ◌&&◌ (one-scaled m pos l h.0 v) (holds-scaled m pos ls h.1 v)

level-one : (m : ℕ) (l : Line) → record { coefficients = (scaled_one m l).coefficients; right = 0 } ≡ scaled_one m (level_one l)
level-one m l =
    let zero_right : 0 ≡ m / l.modulus * 0 = omega arith in
    ap {B = Equation} (λ (r : ℕ). record { coefficients = (scaled_one m l).coefficients; right = r }) zero_right

pub scaled-level : (m : ℕ) (ls : List Line) → homogeneous (scaled m ls) ≡ scaled m (level ls)
scaled-level m [] = refl
scaled-level m (l ∷ ls) = ap₂ {C = List Equation} ◌∷◌ (level-one m l) (scaled-level m ls)

pub moduli-level : (m : ℕ) (ls : List Line) → Moduli m ls → Moduli m (level ls)
moduli-level m [] h = tt
moduli-level m (l ∷ ls) h = (h.0, moduli-level m ls h.1)

pub holds-level-scaled : (m : ℕ) → 0 < m → (ls : List Line) → Moduli m ls → (v : List ℕ)
    → holds (level ls) v ≡ solves m (homogeneous (scaled m ls)) v
holds-level-scaled m pos ls h v =
    holds-scaled m pos (level ls) (moduli-level m ls h) v
    ∙ ap (λ (es : List Equation). solves m es v) (sym (scaled-level m ls))

pub scaled-shaped : (m n : ℕ) (ls : List Line) → ShapedLines n ls → Shaped n (scaled m ls)
scaled-shaped m n [] h = tt
scaled-shaped m n (l ∷ ls) h =
    (length-map l.equation.coefficients (λ (a : ℕ). m / l.modulus * a) ∙ h.0, scaled-shaped m n ls h.1)
