-- Equations as words in memory.
--   line-memory, line-length   an equation in a row of numbers: its coefficients' words, and behind them its right side's
--   line-written               so it is written
--   rows_memory                 the words of equations in rows
--   rows_next, rows_step       those of the first,
--   rows_none                  and of too few numbers for one
--   memory-fits                the words of at most n equations fit into the room that is asked for
use mathlib.Core.Path.{◌≡◌, refl, sym, ap, ◌∙◌}
use mathlib.Core.List.{List, [], ◌∷◌, ◌++◌}
use Prim.Native.Nat.{ℕ, suc, ◌+◌, ◌*◌, ◌<◌, ◌≤◌}
use native.Mathlib.Nat.{mul-le-mul}
use native.Mathlib.Omega.{arith}
use lib.ListN.{length, take, drop, get_or, length-append, drop_of_length-le}
use lib.Seq.{drop-cons, take_at, drop_at}
use Rattle.slices.specs.Over.{over}
use Rattle.slices.proofs.Over.{over-behind}
use Rattle.slices.proofs.Parts.{lent, put_back, lent_is}
use Rattle.equations.specs.Equation.{Equation, Shaped}
use Rattle.equations.specs.Lines.{equation_at, equations_of}
use Rattle.equations.proofs.Lines.{equations-none, equations_more, equation-front}
use Rattle.words.specs.Words.{coefficient_kind, right_kind, words_of}
use Rattle.words.proofs.Packed.{written_two}
use Rattle.setting.specs.Calls.{sheet_room, equation_memory, sheet_memory}

-- ---- one

module _ (n : ℕ) (line : List ℕ) (long : length line ≡ n + 1) where
  last : lent n line ≡ get_or line n 0 ∷ []
  last =
      lent_is n line ∙ drop-cons line n 0 (omega arith)
      ∙ ap (λ (s : List ℕ). get_or line n 0 ∷ s) (drop_of_length-le line {i = suc n} (omega arith))

  pub line-memory : words_of coefficient_kind (take n line) ++ words_of right_kind (lent n line) ≡ equation_memory (equation_at n line)
  line-memory = ap (λ (s : List ℕ). words_of coefficient_kind (take n line) ++ words_of right_kind s) last

  pub line-length : length (words_of coefficient_kind (take n line)) + length (words_of right_kind (lent n line))
      ≡ length (equation_memory (equation_at n line))
  line-length =
      sym (length-append (words_of coefficient_kind (take n line)) (words_of right_kind (lent n line))) ∙ ap length line-memory

  pub line-written : (l : ℕ) (old : List ℕ) {whole part : List ℕ} → length (words_of coefficient_kind (take n line)) ≡ l
      → whole ≡ over (words_of coefficient_kind (take n line)) old → part ≡ over (words_of right_kind (lent n line)) (lent l whole)
      → put_back l whole part ≡ over (equation_memory (equation_at n line)) old
  line-written l old is first second =
      over-behind l (words_of coefficient_kind (take n line)) (words_of right_kind (lent n line)) old is first second
      ∙ ap (λ (s : List ℕ). over s old) line-memory

-- ---- several

abbrev pub rows_memory : ℕ → List ℕ → List ℕ
rows_memory n s = sheet_memory (equations_of n s)

module _ (n : ℕ) (rest : List ℕ) where
  pub rows_next : n < length rest
      → sheet_memory (equations_of n rest)
      ≡ equation_memory (equation_at n (take (n + 1) rest)) ++ sheet_memory (equations_of n (lent (n + 1) rest))
  rows_next h =
      ap sheet_memory (equations_more n rest h)
      ∙ ap (λ (e : Equation). equation_memory e ++ sheet_memory (equations_of n (drop (n + 1) rest))) (sym (equation-front n rest))
      ∙ ap (λ (s : List ℕ). equation_memory (equation_at n (take (n + 1) rest)) ++ sheet_memory (equations_of n s))
      (sym (lent_is (n + 1) rest))

  pub rows_none : length rest ≤ n → sheet_memory (equations_of n rest) ≡ []
  rows_none h = ap sheet_memory (equations-none n rest h)

-- ---- the room

-- a row off the front
pub rows_step : (n : ℕ) (line rest : List ℕ) {numbers : List ℕ} → numbers ≡ line ++ rest → length line ≡ n + 1
    → rows_memory n numbers ≡ equation_memory (equation_at n line) ++ rows_memory n rest
rows_step n line rest is long =
    ap (rows_memory n) is
    ∙ rows_next n (line ++ rest) (omega (arith, length-append line rest, long))
    ∙ rw (lent_is (n + 1) (line ++ rest), take_at line rest (n + 1) long, drop_at line rest (n + 1) long) refl

memory_two : (n : ℕ) (e : Equation) → length e.coefficients ≡ n → length (equation_memory e) ≤ 2 * (n + 1)
memory_two n e long =
    omega (
      arith,
      length-append (words_of coefficient_kind e.coefficients) (words_of right_kind (e.right ∷ [])),
      written_two coefficient_kind e.coefficients,
      written_two right_kind (e.right ∷ []),
      long,
    )

memory_each : (n : ℕ) (es : List Equation) → Shaped n es → length (sheet_memory es) ≤ length es * (2 * (n + 1))
memory_each n [] shaped = omega arith
memory_each n (e ∷ es) shaped =
    omega (
      arith,
      length-append (equation_memory e) (sheet_memory es),
      memory_two n e shaped.0,
      memory_each n es shaped.1,
    )

pub memory-fits : (n : ℕ) (es : List Equation) → Shaped n es → length es ≤ n → length (sheet_memory es) ≤ sheet_room n
memory-fits n es shaped few =
    omega (
      arith,
      memory_each n es shaped,
      mul-le-mul {n₁ = length es} {m₁ = 2 * (n + 1)} {n₂ = n} {m₂ = 2 * (n + 1)} few (omega arith),
    )
