-- Lines and how they lie in a sheet.
--   own_divides, own_of_divides     a modulus of 2 at least is allowed exactly where it divides m
--   product-below                   one of the products of a line
--   plain_fits, all_plain           whatever lies there can be a plain line,
--   plain-times                     which is not multiplied
--   stored-scaled, scaled_fits      a line that is multiplied can lie there, and is the line that lies there
--   stored-small, stored-below      residues mod m are residues mod q times m/q
--   scaled-stored                   what lies there is the lines, multiplied
--   stored-count, stored-moduli, stored-shaped   as many lines, whose moduli divide m, with n coefficients
--   stored_snoc, fit_snoc           a line more
--   stored-without, fit-without     a line less
--   fit-step                        the first line, off its numbers, and the lines behind it
use mathlib.Core.Path.{◌≡◌, refl, sym, ap, ap₂, ◌∙◌}
use mathlib.Core.Bool.{true, ◌&&◌}
use mathlib.Core.List.{List, [], ◌∷◌, ◌++◌, map}
use Prim.Native.Nat.{ℕ, zero, suc, ◌+◌, ◌*◌, ◌/◌, ◌%◌, ◌≤◌, ◌<◌}
use native.Mathlib.Nat.{mod_self, mod-one, div_self, one-mul, mul_comm, mul-mod_right, mul-div_cancel_left, div-add-mod, div-lt_iff_lt-mul}
use native.Mathlib.Numerals.{add-one}
use native.Mathlib.Omega.{arith}
use lib.Dec.{T, eqb, leb, le→leb, eqb→eq}
use lib.ListN.{length, take, drop, get_or, length-map}
use lib.Seq.{take-suc}
use mir.Facts.{and_yes, yes_and, yes_eqb}
use Rattle.residue.specs.Divides.{Divides}
use Rattle.residue.proofs.Divides.{divides_of_remainder, remainder_of_divides}
use Rattle.questions.specs.Questions.{allowed_own}
use Rattle.equations.specs.Lists.{every, without}
use Rattle.equations.specs.Vectors.{Below}
use Rattle.equations.specs.Equation.{Equation, Shaped}
use Rattle.equations.specs.Lines.{equations_of}
use Rattle.equations.specs.Line.{Line, Moduli, ShapedLines, scaled_one, scaled}
use Rattle.equations.proofs.Truth.{true_of}
use Rattle.equations.proofs.Lines.{equations_more}
use Rattle.equations.proofs.Scaled.{times-whole, times_positive}
use Rattle.lines.specs.Stored.{in_row, multiples, fits, all_fit, stored_one, stored}

pub own_divides : (m q : ℕ) → T (allowed_own m q) → Divides q m
own_divides m q t = divides_of_remainder (eqb→eq (m % q) 0 (and_yes (leb 2 q) (eqb (m % q) 0) t).1)

pub product-below : (b k : ℕ) (xs : List ℕ) (i : ℕ) → Below b (map (λ (a : ℕ). k * a) xs) → i < length xs → k * get_or xs i 0 < b
product-below b k [] i below at = absurd (omega arith)
product-below b k (x ∷ xs) zero below at = below.0
product-below b k (x ∷ xs) (suc i) below at = product-below b k xs i below.1 (omega arith)

pub own_of_divides : (m q : ℕ) → 2 ≤ q → Divides q m → T (allowed_own m q)
own_of_divides m q two divides =
    yes_and (leb 2 q) (eqb (m % q) 0) (le→leb 2 q two) (yes_eqb (remainder_of_divides divides))

-- ---- plain lines

multiples_once : (k : ℕ) (xs : List ℕ) → k ≡ 1 → multiples k xs ≡ true
multiples_once k [] one = refl
multiples_once k (x ∷ xs) one =
    let none : x % k ≡ 0 = ap (λ (z : ℕ). x % z) one ∙ mod-one x in
    rw (none, multiples_once k xs one)

-- m divides itself once, and all numbers are multiples of 1
pub plain_fits : (m q : ℕ) (xs : List ℕ) → 2 ≤ m → q ≡ m → (allowed_own m q && multiples (m / q) xs) ≡ true
plain_fits m q xs two same =
    let once : m / q ≡ 1 = ap (λ (z : ℕ). m / z) same ∙ div_self (omega arith) in
    let none : m % q ≡ 0 = ap (λ (z : ℕ). m % z) same ∙ mod_self m in
    rw (true_of (leb 2 q) (le→leb 2 q (omega arith)), none, multiples_once (m / q) xs once)

-- nothing is multiplied
pub plain-times : (m q : ℕ) (xs : List ℕ) → 0 < m → q ≡ m → map (λ (a : ℕ). m / q * a) xs ≡ xs
plain-times m q [] pos same = refl
plain-times m q (x ∷ xs) pos same =
    let once : m / q ≡ 1 = ap (λ (z : ℕ). m / z) same ∙ div_self pos in
    ap₂ {C = List ℕ} ◌∷◌ (ap (λ (z : ℕ). z * x) once ∙ one-mul x) (plain-times m q xs pos same)

pub all_plain : (m : ℕ) (qs : List ℕ) (es : List Equation) → 2 ≤ m → T (every (λ (q : ℕ). eqb q m) qs) → all_fit m qs es ≡ true
all_plain m [] es two all = refl
all_plain m (q ∷ qs) [] two all = refl
all_plain m (q ∷ qs) (e ∷ es) two all =
    let both = and_yes (eqb q m) (every (λ (q : ℕ). eqb q m) qs) all in
    rw (plain_fits m q (in_row e) two (eqb→eq q m both.0), all_plain m qs es two both.1)

-- ---- one line

row-multiples : (k : ℕ) (xs : List ℕ) (y : ℕ) → T (multiples k (xs ++ (y ∷ []))) → T (multiples k xs) × (y % k ≡ 0)
row-multiples k [] y t = (tt, eqb→eq (y % k) 0 (and_yes (eqb (y % k) 0) true t).0)
row-multiples k (x ∷ xs) y t =
    let both = and_yes (eqb (x % k) 0) (multiples k (xs ++ (y ∷ []))) t in
    let rest = row-multiples k xs y both.1 in
    (yes_and (eqb (x % k) 0) (multiples k xs) both.0 rest.0, rest.1)

multiples-row : (k : ℕ) (xs : List ℕ) (y : ℕ) → T (multiples k (map (λ (a : ℕ). k * a) xs ++ (k * y ∷ [])))
multiples-row k [] y = yes_and (eqb (k * y % k) 0) true (yes_eqb (mul-mod_right k y)) tt
multiples-row k (x ∷ xs) y =
    yes_and (eqb (k * x % k) 0) (multiples k (map (λ (a : ℕ). k * a) xs ++ (k * y ∷ []))) (yes_eqb (mul-mod_right k x))
    (multiples-row k xs y)

times_back : (k x : ℕ) → x % k ≡ 0 → k * (x / k) ≡ x
times_back k x none = omega (arith, div-add-mod x k)

all_times_back : (k : ℕ) (xs : List ℕ) → T (multiples k xs)
    → map (λ (a : ℕ). k * a) (map (λ (x : ℕ). x / k) xs) ≡ xs
all_times_back k [] t = refl
all_times_back k (x ∷ xs) t =
    let both = and_yes (eqb (x % k) 0) (multiples k xs) t in
    ap₂ {C = List ℕ} ◌∷◌ (times_back k x (eqb→eq (x % k) 0 both.0)) (all_times_back k xs both.1)

all_divided_back : (k : ℕ) → 0 < k → (xs : List ℕ) → map (λ (x : ℕ). x / k) (map (λ (a : ℕ). k * a) xs) ≡ xs
all_divided_back k pos [] = refl
all_divided_back k pos (x ∷ xs) = ap₂ {C = List ℕ} ◌∷◌ (mul-div_cancel_left x pos) (all_divided_back k pos xs)

scaled-one : (m q : ℕ) (e : Equation) → T (fits m q e) → scaled_one m (stored_one m q e) ≡ e
scaled-one m q e t =
    let parts = row-multiples (m / q) e.coefficients e.right (and_yes (allowed_own m q) (multiples (m / q) (in_row e)) t).1 in
    ap₂ {C = Equation} (λ (cs : List ℕ) (r : ℕ). record { coefficients = cs; right = r })
    (all_times_back (m / q) e.coefficients parts.0) (times_back (m / q) e.right parts.1)

module _ (m : ℕ) (pos : 0 < m) (l : Line) (own : T (allowed_own m l.modulus)) where
  abbrev k : ℕ
  k = m / l.modulus

  positive : 0 < m / l.modulus
  positive = times_positive m l.modulus pos (own_divides m l.modulus own)

  pub stored-scaled : stored_one m l.modulus (scaled_one m l) ≡ l
  stored-scaled =
      ap₂ {C = Line}
      (λ (cs : List ℕ) (r : ℕ). record { modulus = l.modulus; equation = record { coefficients = cs; right = r } })
      (all_divided_back k positive l.equation.coefficients) (mul-div_cancel_left l.equation.right positive)

  pub scaled_fits : T (fits m l.modulus (scaled_one m l))
  scaled_fits =
      yes_and (allowed_own m l.modulus) (multiples k (in_row (scaled_one m l))) own
      (multiples-row k l.equation.coefficients l.equation.right)

module _ (m q : ℕ) (pos : 0 < m) (own : T (allowed_own m q)) where
  pub stored-small : (x : ℕ) → x < m → x / (m / q) < q
  stored-small x lt =
      let whole = times-whole m q pos (own_divides m q own) in
      (div-lt_iff_lt-mul (times_positive m q pos (own_divides m q own))).1 (omega (arith, mul_comm q (m / q)))

  pub stored-below : (xs : List ℕ) → Below m xs → Below q (map (λ (x : ℕ). x / (m / q)) xs)
  stored-below [] below = tt
  stored-below (x ∷ xs) below = (stored-small x below.0, stored-below xs below.1)

-- ---- all lines

pub scaled-stored : (m : ℕ) (qs : List ℕ) (es : List Equation) → length qs ≡ length es → T (all_fit m qs es)
    → scaled m (stored m qs es) ≡ es
scaled-stored m [] [] same t = refl
scaled-stored m [] (e ∷ es) same t = absurd (omega (arith, same))
scaled-stored m (q ∷ qs) [] same t = absurd (omega (arith, same))
scaled-stored m (q ∷ qs) (e ∷ es) same t =
    let both = and_yes (fits m q e) (all_fit m qs es) t in
    ap₂ {C = List Equation} ◌∷◌ (scaled-one m q e both.0) (scaled-stored m qs es (omega (arith, same)) both.1)

pub stored-count : (m : ℕ) (qs : List ℕ) (es : List Equation) → length qs ≡ length es → length (stored m qs es) ≡ length qs
stored-count m [] es same = refl
stored-count m (q ∷ qs) [] same = absurd (omega (arith, same))
stored-count m (q ∷ qs) (e ∷ es) same = ap suc (stored-count m qs es (omega (arith, same)))

pub stored-moduli : (m : ℕ) (qs : List ℕ) (es : List Equation) → T (all_fit m qs es) → Moduli m (stored m qs es)
stored-moduli m [] es t = tt
stored-moduli m (q ∷ qs) [] t = tt
stored-moduli m (q ∷ qs) (e ∷ es) t =
    let both = and_yes (fits m q e) (all_fit m qs es) t in
    (own_divides m q (and_yes (allowed_own m q) (multiples (m / q) (in_row e)) both.0).0, stored-moduli m qs es both.1)

pub stored-shaped : (m n : ℕ) (qs : List ℕ) (es : List Equation) → Shaped n es → ShapedLines n (stored m qs es)
stored-shaped m n [] es shaped = tt
stored-shaped m n (q ∷ qs) [] shaped = tt
stored-shaped m n (q ∷ qs) (e ∷ es) shaped =
    (length-map e.coefficients (λ (x : ℕ). x / (m / q)) ∙ shaped.0, stored-shaped m n qs es shaped.1)

module _ (m q : ℕ) (e : Equation) where
  pub stored_snoc : (qs : List ℕ) (es : List Equation) → length qs ≡ length es
      → stored m (qs ++ (q ∷ [])) (es ++ (e ∷ [])) ≡ stored m qs es ++ (stored_one m q e ∷ [])
  stored_snoc [] [] same = refl
  stored_snoc [] (d ∷ es) same = absurd (omega (arith, same))
  stored_snoc (p ∷ qs) [] same = absurd (omega (arith, same))
  stored_snoc (p ∷ qs) (d ∷ es) same = ap (λ (ls : List Line). stored_one m p d ∷ ls) (stored_snoc qs es (omega (arith, same)))

  pub fit_snoc : (qs : List ℕ) (es : List Equation) → length qs ≡ length es → T (all_fit m qs es) → T (fits m q e)
      → T (all_fit m (qs ++ (q ∷ [])) (es ++ (e ∷ [])))
  fit_snoc [] [] same t one = yes_and (fits m q e) true one tt
  fit_snoc [] (d ∷ es) same t one = absurd (omega (arith, same))
  fit_snoc (p ∷ qs) [] same t one = absurd (omega (arith, same))
  fit_snoc (p ∷ qs) (d ∷ es) same t one =
      let both = and_yes (fits m p d) (all_fit m qs es) t in
      yes_and (fits m p d) (all_fit m (qs ++ (q ∷ [])) (es ++ (e ∷ []))) both.0 (fit_snoc qs es (omega (arith, same)) both.1 one)

module _ (m : ℕ) where
  pub stored-without : (j : ℕ) (qs : List ℕ) (es : List Equation) → length qs ≡ length es
      → stored m (without j qs) (without j es) ≡ without j (stored m qs es)
  stored-without zero [] [] same = refl
  stored-without (suc j) [] [] same = refl
  stored-without j [] (e ∷ es) same = absurd (omega (arith, same))
  stored-without j (q ∷ qs) [] same = absurd (omega (arith, same))
  stored-without zero (q ∷ qs) (e ∷ es) same = refl
  stored-without (suc j) (q ∷ qs) (e ∷ es) same =
      ap (λ (ls : List Line). stored_one m q e ∷ ls) (stored-without j qs es (omega (arith, same)))

  pub fit-without : (j : ℕ) (qs : List ℕ) (es : List Equation) → length qs ≡ length es → T (all_fit m qs es)
      → T (all_fit m (without j qs) (without j es))
  fit-without zero [] [] same t = tt
  fit-without (suc j) [] [] same t = tt
  fit-without j [] (e ∷ es) same t = absurd (omega (arith, same))
  fit-without j (q ∷ qs) [] same t = absurd (omega (arith, same))
  fit-without zero (q ∷ qs) (e ∷ es) same t = (and_yes (fits m q e) (all_fit m qs es) t).1
  fit-without (suc j) (q ∷ qs) (e ∷ es) same t =
      let both = and_yes (fits m q e) (all_fit m qs es) t in
      yes_and (fits m q e) (all_fit m (without j qs) (without j es)) both.0 (fit-without j qs es (omega (arith, same)) both.1)

-- ---- line by line, off the numbers that they lie in

pub fit-step : (m n q : ℕ) (qs numbers : List ℕ) → n < length numbers
    → all_fit m (q ∷ qs) (equations_of n numbers)
    ≡ ((allowed_own m q && multiples (m / q) (take (n + 1) numbers)) && all_fit m qs (equations_of n (drop (n + 1) numbers)))
fit-step m n q qs numbers long =
    ap (all_fit m (q ∷ qs)) (equations_more n numbers long)
    ∙ ap (λ (xs : List ℕ). (allowed_own m q && multiples (m / q) xs) && all_fit m qs (equations_of n (drop (n + 1) numbers)))
    (sym (take-suc numbers n 0 long) ∙ ap (λ (c : ℕ). take c numbers) (sym (add-one n)))
