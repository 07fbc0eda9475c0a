-- The line of two forms.
use mathlib.Core.Path.{◌≡◌, ap, ap₂, ◌∙◌}
use mathlib.Core.List.{List, ◌++◌}
use Prim.Native.Nat.{ℕ, ◌+◌, ◌*◌, ◌%◌, ◌≤◌, ◌<◌}
use native.Mathlib.Omega.{arith}
use lib.ListN.{length, take, drop, set, length-append, length-drop}
use lib.Seq.{length-take-le, take-set-le, take-append_seam, get_or-set_same}
use Rattle.equations.specs.Vectors.{combine}
use Rattle.equations.specs.Equation.{Equation}
use Rattle.equations.specs.Lines.{equation_at}
use Rattle.typed.specs.declared.forms.Form.{Form}
use Rattle.grammar.specs.Linear.{minus_one}
use Rattle.typed.specs.Model.Forms.{forms_equation}
use Rattle.typed.proofs.Folded.{take-combine}

one-first : (x y : ℕ) → 1 * x + y ≡ x + y
one-first x y = omega arith

seam : {A : Type 0} (n : ℕ) (xs ys : List A) → length xs ≡ n → take n (xs ++ ys) ≡ xs
seam n xs ys e = rw (← e) (take-append_seam xs ys)

-- the first n of the numbers cs, and k behind them, in a line
pub line_made : (m n : ℕ) (a b : Form) (old : List ℕ) {cs front : List ℕ} {k : ℕ} → n ≤ length cs → n < length old → front ≡ take n cs
    → cs ≡ combine m 1 (minus_one m) a.coefficients b.coefficients
    → k ≡ (1 * b.constant + minus_one m * a.constant) % m
    → equation_at n (set (front ++ drop n old) n k) ≡ forms_equation m n a b
line_made m n a b old {cs} {front} {k} few room is e q =
    let long : length front ≡ n = ap length is ∙ length-take-le n cs few in
    let fits : n < length (front ++ drop n old) = omega (arith, length-append front (drop n old), length-drop n old, long) in
    ap₂ {C = Equation} (λ (xs : List ℕ) (r : ℕ). record { coefficients = xs; right = r })
    (take-set-le n (front ++ drop n old) n k (omega arith) ∙ seam n front (drop n old) long ∙ is ∙ ap (take n) e
    ∙ take-combine m 1 (minus_one m) n a.coefficients b.coefficients)
    (get_or-set_same (front ++ drop n old) n k 0 fits ∙ q ∙ ap (λ (x : ℕ). x % m) (one-first b.constant (minus_one m * a.constant)))
