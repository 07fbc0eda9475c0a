-- Equations that lie in one list of numbers.
--   equations-none, equations_more   a list without a whole line, and with one
--   equation-front                   an equation is read off the line alone
--   equations-shaped                 each has n coefficients
--   length-equations                 there is one for each n + 1 numbers
--   equations-few                    at most 16 of them
--   equations-count                  c whole lines are c of them
--   equations_snoc                   one line more
--   equations-take                   the first c lines
--   equation-row                     an equation is read off its own row
--   rows-length                      equations in rows are n + 1 numbers each
--   rows_back                        and they are read again
use mathlib.Core.Path.{◌≡◌, refl, sym, ap, ap₂, ◌∙◌}
use mathlib.Core.List.{List, [], ◌∷◌, ◌++◌, append_assoc}
use Prim.Native.Nat.{ℕ, zero, suc, ◌+◌, ◌*◌, ◌/◌, ◌≤◌, ◌<◌}
use native.Mathlib.Nat.{div-eq_of_lt, div-eq-sub-div, div-eq_of_eq-mul_left, div-mul-le_self, div-le_of_le-mul, le-div_iff_mul-le}
use native.Mathlib.Numerals.{add-one}
use native.Mathlib.Omega.{arith}
use lib.ListN.{length, take, drop, length-append, length-drop, get_or-append}
use lib.Seq.{length-take-le, take-append-le, drop-append-le, take-take, get_or-take, take-add, take_at, drop_at, get_or_at}
use Rattle.equations.specs.Equation.{Equation, Shaped}
use Rattle.equations.specs.Lines.{equation_at, equations_within, equations_of, as_row, as_rows}

pub equations-none : (n : ℕ) (s : List ℕ) → length s ≤ n → equations_of n s ≡ []
unfolding equations_of
equations-none n s h =
    let e : length s / suc n ≡ 0 = div-eq_of_lt (omega arith) in
    ap (λ (c : ℕ). equations_within c n s) e

pub equations_more : (n : ℕ) (s : List ℕ) → n < length s → equations_of n s ≡ equation_at n s ∷ equations_of n (drop (n + 1) s)
unfolding equations_of
equations_more n s h =
    let e : length s / suc n ≡ suc (length (drop (suc n) s) / suc n) =
    div-eq-sub-div (omega arith) (omega arith) ∙ add-one _ ∙ ap (λ (k : ℕ). suc (k / suc n)) (sym (length-drop (suc n) s)) in
    ap (λ (c : ℕ). equations_within c n s) e
    ∙ ap (λ (j : ℕ). equation_at n s ∷ equations_within (length (drop j s) / suc n) n (drop j s)) (sym (add-one n))

equation-take : (n k : ℕ) (s : List ℕ) → n < k → equation_at n (take k s) ≡ equation_at n s
equation-take n k s h =
    ap₂ {C = Equation} (λ c r. record { coefficients = c; right = r }) (take-take n k s (omega arith)) (get_or-take k s n 0 h)

pub equation-front : (n : ℕ) (s : List ℕ) → equation_at n (take (n + 1) s) ≡ equation_at n s
equation-front n s = equation-take n (n + 1) s (omega arith)

shaped-within : (c n : ℕ) (s : List ℕ) → c * suc n ≤ length s → Shaped n (equations_within c n s)
shaped-within zero n s h = tt
shaped-within (suc c) n s h =
    (length-take-le n s (omega arith), shaped-within c n (drop (suc n) s) (omega (arith, length-drop (suc n) s)))

pub equations-shaped : (n : ℕ) (s : List ℕ) → Shaped n (equations_of n s)
unfolding equations_of
equations-shaped n s = shaped-within (length s / suc n) n s (div-mul-le_self (length s) (suc n))

length-within : (c n : ℕ) (s : List ℕ) → length (equations_within c n s) ≡ c
length-within zero n s = refl
length-within (suc c) n s = ap suc (length-within c n (drop (suc n) s))

pub length-equations : (n : ℕ) (s : List ℕ) → length (equations_of n s) ≡ length s / (n + 1)
unfolding equations_of
length-equations n s = length-within (length s / suc n) n s ∙ ap (λ (k : ℕ). length s / k) (sym (add-one n))

pub equations-few : (n : ℕ) (s : List ℕ) → length s ≤ 16 * (n + 1) → length s / (n + 1) ≤ 16
equations-few n s h = div-le_of_le-mul (n + 1) (omega arith)

-- ---- c whole lines

pub equations-count : (c n : ℕ) (s : List ℕ) → length s ≡ c * (n + 1) → length (equations_of n s) ≡ c
equations-count c n s h = length-equations n s ∙ div-eq_of_eq-mul_left (omega arith) h

within : (c n : ℕ) (s : List ℕ) → length s ≡ c * (n + 1) → equations_of n s ≡ equations_within c n s
unfolding equations_of
within c n s h =
    ap (λ (k : ℕ). equations_within k n s) (div-eq_of_eq-mul_left {n = suc n} {k = c} (omega arith) (omega (arith, h)))

snoc_within : (c n : ℕ) (xs ys : List ℕ) → length xs ≡ c * (n + 1)
    → equations_within (suc c) n (xs ++ ys) ≡ equations_within c n xs ++ (equation_at n ys ∷ [])
snoc_within zero n [] ys h = refl
snoc_within zero n (x ∷ xs) ys h = absurd (omega arith)
snoc_within (suc c) n xs ys h =
    ap₂ {C = List Equation} ◌∷◌
    (ap₂ {C = Equation} (λ cs r. record { coefficients = cs; right = r }) (take-append-le n xs ys (omega arith))
    (get_or-append xs ys 0 n (omega arith)))
    (ap (equations_within (suc c) n) (drop-append-le (suc n) xs ys (omega arith))
    ∙ snoc_within c n (drop (suc n) xs) ys (omega (arith, length-drop (suc n) xs)))

pub equations_snoc : (c n : ℕ) (xs ys : List ℕ) → length xs ≡ c * (n + 1) → length ys ≡ n + 1
    → equations_of n (xs ++ ys) ≡ equations_of n xs ++ (equation_at n ys ∷ [])
equations_snoc c n xs ys h k =
    within (suc c) n (xs ++ ys) (omega (arith, length-append xs ys)) ∙ snoc_within c n xs ys h
    ∙ ap (λ (es : List Equation). es ++ (equation_at n ys ∷ [])) (sym (within c n xs h))

take_within : (c d n : ℕ) (s : List ℕ) → c ≤ d → c * suc n ≤ length s
    → equations_within c n (take (c * suc n) s) ≡ take c (equations_within d n s)
take_within zero d n s h k = refl
take_within (suc c) zero n s h k = absurd (omega arith)
take_within (suc c) (suc d) n s h k =
    ap₂ {C = List Equation} ◌∷◌ (equation-take n (suc c * suc n) s (omega arith))
    (ap (equations_within c n) rest
    ∙ take_within c d n (drop (suc n) s) (omega arith) (omega (arith, length-drop (suc n) s)))
  where
    rest : drop (suc n) (take (suc c * suc n) s) ≡ take (c * suc n) (drop (suc n) s)
    rest =
        let e : suc c * suc n ≡ suc n + c * suc n = omega arith in
        ap (λ (j : ℕ). drop (suc n) (take j s)) e ∙ ap (drop (suc n)) (take-add (suc n) (c * suc n) s)
        ∙ drop_at (take (suc n) s) (take (c * suc n) (drop (suc n) s)) (suc n) (length-take-le (suc n) s (omega arith))

pub equations-take : (c n : ℕ) (s : List ℕ) → c * (n + 1) ≤ length s
    → equations_of n (take (c * (n + 1)) s) ≡ take c (equations_of n s)
unfolding equations_of
equations-take c n s h =
    within c n (take (c * (n + 1)) s) (length-take-le (c * (n + 1)) s h)
    ∙ ap (λ (j : ℕ). equations_within c n (take (c * j) s)) (add-one n)
    ∙ take_within c (length s / suc n) n s ((le-div_iff_mul-le (omega arith)).1 (omega arith)) (omega arith)

-- ---- rows

row-length : (n : ℕ) (e : Equation) → length e.coefficients ≡ n → length (as_row e) ≡ n + 1
row-length n e h = length-append e.coefficients (e.right ∷ []) ∙ omega arith

-- an equation in front of other numbers
row-front : (n : ℕ) (e : Equation) (s : List ℕ) → length e.coefficients ≡ n
    → equation_at n (e.coefficients ++ (e.right ∷ s)) ≡ e
row-front n e s h =
    ap₂ {C = Equation} (λ cs r. record { coefficients = cs; right = r }) (take_at e.coefficients (e.right ∷ s) n h)
    (get_or_at e.coefficients e.right s 0 n h)

pub equation-row : (n : ℕ) (e : Equation) → length e.coefficients ≡ n → equation_at n (as_row e) ≡ e
equation-row n e h = row-front n e [] h

pub rows-length : (n : ℕ) (es : List Equation) → Shaped n es → length (as_rows es) ≡ length es * (n + 1)
rows-length n [] h = omega arith
rows-length n (e ∷ es) h =
    omega (arith, length-append (as_row e) (as_rows es), row-length n e h.0, rows-length n es h.1)

pub rows_back : (n : ℕ) (es : List Equation) → Shaped n es → equations_of n (as_rows es) ≡ es
rows_back n [] h = equations-none n [] (omega arith)
rows_back n (e ∷ es) h =
    let long = row-length n e h.0 in
    equations_more n (as_rows (e ∷ es)) (omega (arith, length-append (as_row e) (as_rows es)))
    ∙ ap₂ {C = List Equation} ◌∷◌
    (ap (equation_at n) (append_assoc e.coefficients (e.right ∷ []) (as_rows es)) ∙ row-front n e (as_rows es) h.0)
    (ap (equations_of n) (drop_at (as_row e) (as_rows es) (n + 1) long) ∙ rows_back n es h.1)
