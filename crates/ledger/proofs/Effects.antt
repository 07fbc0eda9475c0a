-- What an accepted call does to a ledger, by its effect.
--   Allows, accepted_allows    what the questions let through, whichever call has the effect
--   residues-long              an equation in words has n + 1 residues
--   enter-accepted             an accepted call has its effect
--   gains_counts               one line more,
--   loses_counts               one less
use mathlib.Core.Path.{◌≡◌, sym, ap, subst, ◌∙◌}
use mathlib.Core.Bool.{true}
use mathlib.Core.List.{List, [], ◌∷◌}
use Prim.Native.Nat.{ℕ, zero, suc, ◌+◌, ◌-◌, ◌<◌, ◌≤◌}
use native.Mathlib.Omega.{arith}
use lib.Dec.{T, ltb→lt, leb→le}
use lib.ListN.{length, length-append}
use lib.Seq.{length-take-le}
use Rattle.questions.specs.Questions.{allowed_modulus, allowed_own}
use Rattle.questions.proofs.Questions.{own_least, whole_own}
use Rattle.equations.specs.Vectors.{Below}
use Rattle.equations.specs.Equation.{Equation}
use Rattle.equations.specs.Line.{Line}
use Rattle.equations.proofs.Truth.{true_of}
use Rattle.equations.proofs.Without.{without-length}
use Rattle.equations.proofs.Vectors.{vector-below, below-take, below_at}
use Rattle.words.specs.declared.unpacking.Word.{Word}
use Rattle.words.specs.Words.{words_in}
use Rattle.words.specs.Signs.{residues_of}
use Rattle.words.proofs.Minus.{residues-count, residues-below}
use Rattle.grammar.specs.Texts.{typed_of, equation_in}
use Rattle.grammar.proofs.Texts.{passed}
use Rattle.grammar.proofs.Solutions.{made-length, equation-shaped}
use Rattle.ledger.specs.Ledger.{Ledger, unopened, opened, is_opened, modulus_of, unknowns_of, lines_in, most_equations}
use Rattle.ledger.specs.Shapes.{is_equation, own_modulus, equation_words}
use Rattle.ledger.specs.Calls.{Entry, opens, adds, types, strikes, enters}
use Rattle.ledger.specs.Questions.{allowed_unknowns, refusal_of}
use Rattle.ledger.specs.History.{Effect, begins, gains, loses, struck_at, effect_of, changed, enter}
use Rattle.ledger.proofs.Shapes.{equation-length}
use Rattle.ledger.proofs.Questions.{accepted-yes}

pub record Gains (l : Ledger) (line : Line) : Type 0 where
  pub opened : T (is_opened l)
  pub under : length (lines_in l) < most_equations
  pub shaped : length line.equation.coefficients ≡ unknowns_of l
  -- its modulus is one of a line, and its numbers are residues; mod 0 and 1 there are none
  pub own : 2 ≤ modulus_of l → T (allowed_own (modulus_of l) line.modulus)
  pub coefficients : 2 ≤ modulus_of l → Below line.modulus line.equation.coefficients
  pub right : 2 ≤ modulus_of l → line.equation.right < line.modulus

abbrev pub Allows : Ledger → Effect → Type 0
Allows l (begins m n) = T (allowed_modulus m) × T (allowed_unknowns n)
Allows l (gains line) = Gains l line
Allows l (loses j) = T (is_opened l) × (j < length (lines_in l))

-- the residues of a well-formed equation's words: n coefficients and a right side
pub residues-long : (q n : ℕ) (words : List Word) → T (is_equation n words) → length (residues_of q words) ≡ n + 1
residues-long q n words shape = residues-count q words ∙ equation-length n words (true_of (is_equation n words) shape)

-- ---- what is let through

-- a place that is not beyond the lines is one of theirs
struck-within : (held place : ℕ) → 0 < held → place ≤ held → struck_at held place < held
struck-within held zero some within = omega (arith, some)
struck-within held (suc j) some within = omega (arith, within)

pub accepted_allows : (l : Ledger) (e : Entry) → refusal_of l (enters e) ≡ 0 → Allows l (effect_of l e)
accepted_allows l (opens ws) none = let yes = accepted-yes l (enters (opens ws)) none in (yes.1.1.0, yes.1.1.1.0)
accepted_allows l (adds ws) none =
    let yes = accepted-yes l (enters (adds ws)) none in
    let n = unknowns_of l in
    let q = own_modulus (modulus_of l) (words_in ws) in
    let words = equation_words (words_in ws) in
    let residues = residues_of q words in
    let long : length residues ≡ n + 1 = residues-long q n words yes.1.1.0 in
    let pos : 0 < q = omega (arith, own_least (modulus_of l) q yes.1.1.1.0) in
    record {
      opened = yes.0;
      under = ltb→lt (length (lines_in l)) most_equations yes.1.1.1.1.0;
      shaped = length-take-le n residues (omega (arith, long));
      own = λ two. yes.1.1.1.0;
      coefficients = λ two. below-take q n residues (residues-below q words pos);
      right = λ two. below_at q n residues (residues-below q words pos) (omega (arith, long));
    }
accepted_allows l (types text) none =
    let yes = accepted-yes l (enters (types text)) none in
    let m = modulus_of l in
    let n = unknowns_of l in
    let (e, is, _) = passed (λ e. true) (typed_of text) yes.1.0 in
    subst (λ (x : Equation). Gains l (record { modulus = m; equation = x })) (sym (ap (equation_in m n) is))
    (record {
      opened = yes.0;
      under = ltb→lt (length (lines_in l)) most_equations yes.1.1.1.1.0;
      shaped = made-length m n e;
      own = λ two. whole_own m two;
      coefficients = λ two. vector-below m n _ (equation-shaped m n e (omega arith)).0;
      right = λ two. (equation-shaped m n e (omega arith)).1;
    })
accepted_allows l (strikes place) none =
    let yes = accepted-yes l (enters (strikes place)) none in
    (yes.0, struck-within (length (lines_in l)) place (ltb→lt 0 (length (lines_in l)) yes.1.0) (leb→le place (length (lines_in l)) yes.1.1.0))

pub enter-accepted : (l : Ledger) (e : Entry) → refusal_of l (enters e) ≡ 0 → enter l (enters e) ≡ changed l (effect_of l e)
unfolding enter
enter-accepted l e none = rw none

-- ---- how many equations there are then

pub gains_counts : (l : Ledger) (line : Line) → T (is_opened l)
    → length (lines_in (changed l (gains line))) ≡ length (lines_in l) + 1
gains_counts unopened line is = absurd is
gains_counts (opened m n ls) line is = length-append ls (line ∷ [])

pub loses_counts : (l : Ledger) (j : ℕ) → j < length (lines_in l)
    → length (lines_in (changed l (loses j))) ≡ length (lines_in l) - 1
loses_counts unopened j h = absurd (omega arith)
loses_counts (opened m n ls) j h = without-length j ls h
