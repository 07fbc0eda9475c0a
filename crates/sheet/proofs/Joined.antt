-- Whole lines one behind the other, and the equations that lie in them.
--   equations-append   the equations of both parts
--   equations-drop     those behind the first c lines
--   line-whole         and a line is its coefficients and its right side
--   row-map            a function of each number of a line
--   drop-take          what lies behind a of the first b numbers
use mathlib.Core.Path.{◌≡◌, sym, ap, ap₂, ◌∙◌}
use mathlib.Core.List.{List, [], ◌∷◌, ◌++◌, map, map-append}
use Prim.Native.Nat.{ℕ, zero, suc, ◌+◌, ◌-◌, ◌*◌, ◌≤◌, ◌<◌}
use native.Mathlib.Omega.{arith}
use lib.ListN.{length, take, drop, get_or, length-append, length-drop, take-append-drop, get_or-append}
use lib.Seq.{length-take-le, take-append-le, drop-append-le, take-suc, take_all, take-nil, drop_at}
use Rattle.equations.specs.Equation.{Equation}
use Rattle.equations.specs.Lines.{equation_at, equations_of}
use Rattle.equations.proofs.Lines.{equations-none, equations_more, equations-count}

equation-append : (n : ℕ) (xs ys : List ℕ) → n < length xs → equation_at n (xs ++ ys) ≡ equation_at n xs
equation-append n xs ys h =
    ap₂ {C = Equation} (λ cs r. record { coefficients = cs; right = r }) (take-append-le n xs ys (omega arith))
    (get_or-append xs ys 0 n h)

pub equations-append : (c n : ℕ) (xs ys : List ℕ) → length xs ≡ c * (n + 1)
    → equations_of n (xs ++ ys) ≡ equations_of n xs ++ equations_of n ys
equations-append zero n [] ys h = ap (λ (es : List Equation). es ++ equations_of n ys) (sym (equations-none n [] (omega arith)))
equations-append zero n (x ∷ xs) ys h = absurd (omega arith)
equations-append (suc c) n xs ys h =
    equations_more n (xs ++ ys) (omega (arith, length-append xs ys))
    ∙ ap₂ {C = List Equation} ◌∷◌ (equation-append n xs ys (omega arith))
    (ap (equations_of n) (drop-append-le (n + 1) xs ys (omega arith))
    ∙ equations-append c n (drop (n + 1) xs) ys (omega (arith, length-drop (n + 1) xs)))
    ∙ ap (λ (es : List Equation). es ++ equations_of n ys) (sym (equations_more n xs (omega arith)))

pub equations-drop : (c n : ℕ) (s : List ℕ) → c * (n + 1) ≤ length s
    → equations_of n (drop (c * (n + 1)) s) ≡ drop c (equations_of n s)
equations-drop c n s h =
    let front = take (c * (n + 1)) s in
    let long : length front ≡ c * (n + 1) = length-take-le (c * (n + 1)) s h in
    let both : equations_of n s ≡ equations_of n front ++ equations_of n (drop (c * (n + 1)) s) =
    ap (equations_of n) (sym (take-append-drop (c * (n + 1)) s)) ∙ equations-append c n front (drop (c * (n + 1)) s) long in
    sym (ap (drop c) both ∙ drop_at (equations_of n front) (equations_of n (drop (c * (n + 1)) s)) c (equations-count c n front long))

pub line-whole : (n : ℕ) (xs : List ℕ) → length xs ≡ n + 1 → take n xs ++ (get_or xs n 0 ∷ []) ≡ xs
line-whole n xs long = sym (take-suc xs n 0 (omega arith)) ∙ take_all (suc n) xs (omega arith)

pub row-map : (f : ℕ → ℕ) (n : ℕ) (xs : List ℕ) → length xs ≡ n + 1 → map f (take n xs) ++ (f (get_or xs n 0) ∷ []) ≡ map f xs
row-map f n xs long = sym (map-append f (take n xs) (get_or xs n 0 ∷ [])) ∙ ap (map f) (line-whole n xs long)

pub drop-take : (a b : ℕ) (xs : List ℕ) → drop a (take b xs) ≡ take (b - a) (drop a xs)
drop-take zero b xs = let same : b ≡ b - 0 = omega arith in ap (λ (k : ℕ). take k xs) same
drop-take (suc a) zero xs = let none : 0 ≡ 0 - suc a = omega arith in ap (λ (k : ℕ). take k (drop (suc a) xs)) none
drop-take (suc a) (suc b) [] = sym (take-nil (suc b - suc a))
drop-take (suc a) (suc b) (x ∷ xs) =
    let same : b - a ≡ suc b - suc a = omega arith in
    drop-take a b xs ∙ ap (λ (k : ℕ). take k (drop a xs)) same
