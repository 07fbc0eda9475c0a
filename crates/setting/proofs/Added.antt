-- What is made is added to a fresh sheet.
--   memory-front, memory-behind   the words of an equation in front of other memory are its next n + 1 words
--   memory_parts                  so it is with each of several
--   memory-line                   they read as the line mod m
--   all_added                     all are accepted, and the sheet holds them behind what it held
--   right-passes                  a claim that is right for them passes or is long there
use mathlib.Core.Path.{◌≡◌, refl, sym, ap, ap₂, subst, ◌∙◌}
use mathlib.Core.Bool.{true, false}
use mathlib.Core.Logic.{◌⊎◌}
use mathlib.Core.List.{List, [], ◌∷◌, ◌++◌, map, map-append, append_assoc, append-nil}
use Prim.Native.Nat.{ℕ, ◌+◌, ◌≤◌, ◌<◌}
use native.Mathlib.Omega.{arith}
use lib.Dec.{T}
use lib.ListN.{length, replicate, length-append}
use lib.Seq.{take_at, drop_at}
use borrow.Author.Tests.{lt-ltb}
use Rattle.questions.specs.Questions.{largest_modulus, allowed_own}
use Rattle.questions.proofs.Questions.{whole_own}
use Rattle.equations.specs.declared.Mark.TheVariants.{Pass, Long}
use Rattle.equations.specs.Vectors.{Below}
use Rattle.equations.specs.Equation.{Equation, Shaped}
use Rattle.equations.specs.Lines.{as_row, as_rows}
use Rattle.equations.specs.Claim.{is_right}
use Rattle.equations.specs.Line.{Line, lines_mod}
use Rattle.equations.proofs.Truth.{true_of}
use Rattle.equations.proofs.Lists.{same_of_eq}
use Rattle.equations.proofs.Vectors.{below_parts, below_mono}
use Rattle.equations.proofs.Lines.{equation-row}
use Rattle.equations.proofs.Marks.{right_but_long}
use Rattle.equations.proofs.LineAnswer.{plain-mark}
use Rattle.words.specs.declared.unpacking.Word.{Word}
use Rattle.words.specs.Words.{coefficient_kind, right_kind, words_in, words_of}
use Rattle.words.specs.Fronts.{front_length, front, behind}
use Rattle.words.specs.Signs.{plain_kinds_of, residues_of}
use Rattle.words.specs.Promises.{numbers_of_a_word}
use Rattle.words.proofs.Packed.{numbered, words_back_then, words_back, front_back}
use Rattle.words.proofs.Fronts.{front-length-zero}
use Rattle.words.proofs.Minus.{residues-plain}
use Rattle.ledger.specs.Ledger.{Ledger, opened, most_equations}
use Rattle.ledger.specs.Shapes.{is_equation, has_own, line_from, claim_from}
use Rattle.ledger.specs.Marking.{claim_mark}
use Rattle.ledger.specs.Calls.{adds, enters}
use Rattle.ledger.specs.Questions.{refusal_of}
use Rattle.ledger.specs.History.{enter, ledger_from}
use Rattle.ledger.proofs.Shapes.{equation_tops}
use Rattle.setting.specs.Calls.{equation_memory, sheet_memory}
use Rattle.setting.specs.Promises.{add_calls, AllAccepted, PartsIn}

-- ---- where an equation ends

module _ (e : Equation) (fits : Below numbers_of_a_word (as_row e)) (rest : List ℕ) where
  parts : Below numbers_of_a_word e.coefficients × Below numbers_of_a_word (e.right ∷ [])
  parts = below_parts numbers_of_a_word e.coefficients (e.right ∷ []) fits

  long : front_length (length e.coefficients + 1) (equation_memory e ++ rest) ≡ length (equation_memory e)
  long =
      ap (front_length (length e.coefficients + 1))
      (append_assoc (words_of coefficient_kind e.coefficients) (words_of right_kind (e.right ∷ [])) rest)
      ∙ front_back coefficient_kind refl e.coefficients (words_of right_kind (e.right ∷ []) ++ rest) 1 parts.0
      ∙ omega (
        arith,
        front_back right_kind refl (e.right ∷ []) rest 0 parts.1,
        front-length-zero rest,
        length-append (words_of coefficient_kind e.coefficients) (words_of right_kind (e.right ∷ [])),
      )

  pub memory-front : (n : ℕ) → length e.coefficients ≡ n → front (n + 1) (equation_memory e ++ rest) ≡ equation_memory e
  memory-front n shaped =
      take_at (equation_memory e) rest (front_length (n + 1) (equation_memory e ++ rest))
      (sym (ap (λ (k : ℕ). front_length (k + 1) (equation_memory e ++ rest)) (sym shaped) ∙ long))

  pub memory-behind : (n : ℕ) → length e.coefficients ≡ n → behind (n + 1) (equation_memory e ++ rest) ≡ rest
  memory-behind n shaped =
      drop_at (equation_memory e) rest (front_length (n + 1) (equation_memory e ++ rest))
      (sym (ap (λ (k : ℕ). front_length (k + 1) (equation_memory e ++ rest)) (sym shaped) ∙ long))

pub memory_parts : (n : ℕ) (es : List Equation) → Shaped n es → Below numbers_of_a_word (as_rows es) → (rest : List ℕ) → PartsIn n rest es
memory_parts n [] shaped fits rest = tt
memory_parts n (e ∷ es) shaped fits rest =
    let both = below_parts numbers_of_a_word (as_row e) (as_rows es) fits in
    let assoc = append_assoc (equation_memory e) (sheet_memory es) rest in (
      ap (front (n + 1)) assoc ∙ memory-front e both.0 (sheet_memory es ++ rest) n shaped.0,
      ap (behind (n + 1)) assoc ∙ memory-behind e both.0 (sheet_memory es ++ rest) n shaped.0,
      memory_parts n es shaped.1 both.1 rest,
    )

-- ---- how an equation reads

-- as words
abbrev words_for : Equation → List Word
words_for e = map (numbered coefficient_kind) e.coefficients ++ (numbered right_kind e.right ∷ [])

reads : (e : Equation) → Below numbers_of_a_word (as_row e) → words_in (equation_memory e) ≡ words_for e
reads e fits =
    let both = below_parts numbers_of_a_word e.coefficients (e.right ∷ []) fits in
    words_back_then coefficient_kind refl e.coefficients (words_of right_kind (e.right ∷ [])) both.0
    ∙ ap (λ (words : List Word). map (numbered coefficient_kind) e.coefficients ++ words)
    (words_back right_kind refl (e.right ∷ []) both.1)

no_own : (cs : List ℕ) (r : ℕ) → has_own (map (numbered coefficient_kind) cs ++ (numbered right_kind r ∷ [])) ≡ false
no_own [] r = refl
no_own (c ∷ cs) r = refl

kinds : (cs : List ℕ) (r : ℕ)
    → plain_kinds_of (map (numbered coefficient_kind) cs ++ (numbered right_kind r ∷ []))
    ≡ replicate (length cs) coefficient_kind ++ (right_kind ∷ [])
kinds [] r = refl
kinds (c ∷ cs) r = ap (λ (ks : List ℕ). coefficient_kind ∷ ks) (kinds cs r)

residues : (m : ℕ) (e : Equation) → Below m (as_row e) → residues_of m (words_for e) ≡ as_row e
residues m e below =
    let both = below_parts m e.coefficients (e.right ∷ []) below in
    map-append _ (map (numbered coefficient_kind) e.coefficients) (numbered right_kind e.right ∷ [])
    ∙ ap₂ (λ (xs ys : List ℕ). xs ++ ys) (residues-plain m coefficient_kind refl e.coefficients both.0)
    (residues-plain m right_kind refl (e.right ∷ []) both.1)

module _ (m n : ℕ) (two : 2 ≤ m) (largest : m ≤ largest_modulus) (e : Equation) (shaped : length e.coefficients ≡ n)
    (below : Below m (as_row e)) where
  fits : Below numbers_of_a_word (as_row e)
  fits = below_mono m numbers_of_a_word (as_row e) (omega arith) below

  pub memory-line : line_from m n (words_in (equation_memory e)) ≡ record { modulus = m; equation = e }
  memory-line =
      ap (line_from m n) (reads e fits)
      ∙ rw (no_own e.coefficients e.right, residues m e below, equation-row n e shaped)

  is_equation_lem : is_equation n (words_for e) ≡ true
  is_equation_lem =
      true_of (is_equation n (words_for e))
      (same_of_eq (plain_kinds_of (words_for e)) (replicate n coefficient_kind ++ (right_kind ∷ []))
      (kinds e.coefficients e.right ∙ ap (λ (k : ℕ). replicate k coefficient_kind ++ (right_kind ∷ [])) shaped))

  accepted : (ls : List Line) → length ls < most_equations → refusal_of (opened m n ls) (enters (adds (equation_memory e))) ≡ 0
  unfolding refusal_of
  accepted ls few =
      rw (
        reads e fits,
        no_own e.coefficients e.right,
        equation_tops n (words_for e) is_equation_lem,
        is_equation_lem,
        true_of (allowed_own m m) (whole_own m two),
        lt-ltb (length ls) most_equations few,
      )

  entered : (ls : List Line) → length ls < most_equations
      → enter (opened m n ls) (enters (adds (equation_memory e))) ≡ opened m n (ls ++ (record { modulus = m; equation = e } ∷ []))
  unfolding enter
  entered ls few = rw (accepted ls few) (ap (λ (l : Line). opened m n (ls ++ (l ∷ []))) memory-line)

-- ---- all of them

pub all_added : (m n : ℕ) → 2 ≤ m → m ≤ largest_modulus → (es : List Equation) → Shaped n es → Below m (as_rows es) → (ls : List Line)
    → length ls + length es ≤ most_equations
    → AllAccepted (opened m n ls) (add_calls es) × (ledger_from (opened m n ls) (add_calls es) ≡ opened m n (ls ++ lines_mod m es))
unfolding ledger_from
all_added m n two largest [] shaped below ls few = (tt, ap (opened m n) (sym (append-nil ls)))
all_added m n two largest (e ∷ es) shaped below ls few =
    let both = below_parts m (as_row e) (as_rows es) below in
    let line : Line = record { modulus = m; equation = e } in
    let held = entered m n two largest e shaped.0 both.0 ls (omega arith) in
    let rest = all_added m n two largest es shaped.1 both.1 (ls ++ (line ∷ [])) (omega (arith, length-append ls (line ∷ []))) in (
      (
        accepted m n two largest e shaped.0 both.0 ls (omega arith),
        subst (λ (l : Ledger). AllAccepted l (add_calls es)) (sym held) rest.0,
      ),
      ap (λ (l : Ledger). ledger_from l (add_calls es)) held ∙ rest.1
          ∙ ap (opened m n) (append_assoc ls (line ∷ []) (lines_mod m es)),
    )

pub right-passes : (m n : ℕ) → 0 < m → (es : List Equation) (ws : List ℕ) → T (is_right m n es (claim_from n (words_in ws)))
    → (claim_mark (opened m n (lines_mod m es)) ws ≡ Pass) ⊎ (claim_mark (opened m n (lines_mod m es)) ws ≡ Long)
right-passes m n pos es ws right =
    rw (plain-mark m n pos es (claim_from n (words_in ws))) ((right_but_long m n es (claim_from n (words_in ws))).right.1 right)
