-- What may stand behind a factor, a term or an expression, and what no written one begins with.
--   AfterFactor, AfterTerm, AfterExpression   the next byte ends it
--   starts                                    a written one does not begin with a space
--   after-spaces                              spaces end a number
use mathlib.Core.Path.{◌≡◌, refl}
use mathlib.Core.Bool.{true, false, false≢true}
use mathlib.Core.List.{List, [], ◌∷◌, ◌++◌, append_assoc}
use Prim.Native.Nat.{ℕ, zero, suc, ◌+◌}
use native.Mathlib.Omega.{arith}
use borrow.Author.Tests.{ne_eqb}
use lib.Dec.{eqb}
use Rattle.grammar.specs.Tree.{Tree}
use Rattle.grammar.specs.Grammar.{Rank, Writes, a_number, an_unknown, bracketed, negated, one_factor, times, one_term, plus, less, spaces, sign, characters, is_number}
use Rattle.grammar.specs.Model.Reader.{next, is_digit}

pub record AfterFactor (c : ℕ) : Type 0 where
  pub space : eqb c 32 ≡ false
  pub digit : is_digit c ≡ false

pub record AfterTerm (c : ℕ) : Type 0 where
  pub factor_ends : AfterFactor c
  pub times : eqb c 42 ≡ false

pub record AfterExpression (c : ℕ) : Type 0 where
  pub term_ends : AfterTerm c
  pub plus : eqb c 43 ≡ false
  pub less : eqb c 45 ≡ false

number_starts : (ds s : List ℕ) → is_number ds ≡ true → eqb (next (characters ds ++ s)) 32 ≡ false
number_starts [] s h = absurd (false≢true h)
number_starts (d ∷ ds) s h = ne_eqb (48 + d) 32 (λ e. omega arith)

pub starts : {r : Rank} {t : Tree} {s : List ℕ} → Writes r t s → (rest : List ℕ) → eqb (next (s ++ rest)) 32 ≡ false
starts (a_number ds k a h) rest = rw append_assoc (number_starts ds (spaces k ++ rest) h)
starts (an_unknown ds j k a h e) rest = refl
starts (bracketed k l w) rest = refl
starts (negated k w) rest = refl
starts (one_factor w) rest = starts w rest
starts (times k {s = s} {u = u} v w) rest = rw (append_assoc s (sign 42 k ++ u) rest) (starts v ((sign 42 k ++ u) ++ rest))
starts (one_term w) rest = starts w rest
starts (plus k {s = s} {u = u} v w) rest = rw (append_assoc s (sign 43 k ++ u) rest) (starts v ((sign 43 k ++ u) ++ rest))
starts (less k {s = s} {u = u} v w) rest = rw (append_assoc s (sign 45 k ++ u) rest) (starts v ((sign 45 k ++ u) ++ rest))

pub after-spaces : (k : ℕ) (rest : List ℕ) → is_digit (next rest) ≡ false → is_digit (next (spaces k ++ rest)) ≡ false
after-spaces zero rest h = h
after-spaces (suc k) rest h = refl
