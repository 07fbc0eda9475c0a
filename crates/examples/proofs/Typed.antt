-- Equations typed as text: the paper's own, and others inside and outside the grammar, each a theorem about the definitions that the
-- contracts cite. All are found by computing these definitions.
use mathlib.Core.Bool.{Bool, true, ◌&&◌, not}
use mathlib.Core.List.{List, [], ◌∷◌}
use mathlib.Core.Option.{some}
use mathlib.Core.Path.{◌≡◌, refl}
use Prim.Native.Nat.{ℕ}
use Prim.Native.String.{String}
use Rattle.equations.specs.Equation.{Equation}
use Rattle.equations.specs.Line.{lines_mod}
use Rattle.words.specs.Words.{words_in, carries, words_for}
use Rattle.grammar.specs.Tree.{number, unknown, minus, sum, difference, product}
use Rattle.grammar.specs.Linear.{equation_of}
use Rattle.grammar.specs.Texts.{typed_of, is_typed, equation_in}
use Rattle.grammar.specs.Model.Reader.{sides_of, expression_of, expression_in}
use Rattle.ledger.specs.Ledger.{opened}
use Rattle.ledger.specs.Calls.{types, enters}
use Rattle.ledger.specs.Questions.{refusal_of}
use Rattle.ledger.specs.History.{enter, ledger_from, ledger}
use Rattle.tape.specs.Ascii.{bytes_of}
use Rattle.examples.proofs.Starred.{equation, opening}

-- "`3*(x1 - 2*x2) + x3 = 5 - x1`"
abbrev pub paper_text : List ℕ
paper_text = bytes_of "3*(x1 - 2*x2) + x3 = 5 - x1"

pub paper_tree :
    typed_of paper_text
    ≡ some (record {
      left = sum (product (number 3) (difference (unknown 0) (product (number 2) (unknown 1)))) (unknown 2);
      right = difference (number 5) (unknown 0);
    })
unfolding typed_of sides_of expression_of expression_in
paper_tree = refl

-- mod 12 with three unknowns it adds 4·x1 + 6·x2 + x3 = 5: through the calls, from a fresh sheet's ledger on
pub paper_added : ledger (opening 12 3 ∷ enters (types paper_text) ∷ []) ≡ opened 12 3 (lines_mod 12 (equation (4 ∷ 6 ∷ 1 ∷ []) 5 ∷ []))
unfolding ledger_from enter refusal_of words_in typed_of sides_of expression_of expression_in equation_of carries words_for
paper_added = refl

-- and mod 7 another one
pub paper_added_mod_7 : equation_in 7 3 (typed_of paper_text) ≡ equation (4 ∷ 1 ∷ 1 ∷ []) 5
unfolding typed_of sides_of expression_of expression_in equation_of
paper_added_mod_7 = refl

-- ---- what signs and spaces do

-- "spaces (0x20) allowed before, between and after the parts", "zeros in front allowed"
pub spaces_everywhere :
    typed_of (bytes_of "  - ( 007 )  *  x16 =0 ") ≡ some (record { left = product (minus (number 7)) (unknown 15); right = number 0 })
unfolding typed_of sides_of expression_of expression_in
spaces_everywhere = refl

-- "operators of one rank associate to the left"
pub to_the_left :
    typed_of (bytes_of "1-2-3+4=2*3*4")
    ≡ some (record {
      left = sum (difference (difference (number 1) (number 2)) (number 3)) (number 4);
      right = product (product (number 2) (number 3)) (number 4);
    })
unfolding typed_of sides_of expression_of expression_in
to_the_left = refl

-- "a minus before a factor gives a factor again"
pub minus_binds_first :
    typed_of (bytes_of "-x1*2--3=2*-x1+--x2")
    ≡ some (record {
      left = difference (product (minus (unknown 0)) (number 2)) (minus (number 3));
      right = sum (product (number 2) (minus (unknown 0))) (minus (minus (unknown 1)));
    })
unfolding typed_of sides_of expression_of expression_in
minus_binds_first = refl

-- ---- the equations added

abbrev added : ℕ → ℕ → String → Equation
added m n s = equation_in m n (typed_of (bytes_of s))

pub minus_two : added 5 1 "2*-x1 = --3" ≡ equation (3 ∷ []) 3
unfolding typed_of sides_of expression_of expression_in equation_of
minus_two = refl

-- a number of five digits is reduced, and goes to the right
pub large_number : added 7 1 "99999=0" ≡ equation (0 ∷ []) 3
unfolding typed_of sides_of expression_of expression_in equation_of
large_number = refl

pub coefficient_gone : added 7 1 "x1*2*3=1-(x1)" ≡ equation (0 ∷ []) 1
unfolding typed_of sides_of expression_of expression_in equation_of
coefficient_gone = refl

pub nothing_left : added 9 1 "x1=x1" ≡ equation (0 ∷ []) 0
unfolding typed_of sides_of expression_of expression_in equation_of
nothing_left = refl

pub zeros_in_front : added 9 1 "00001=1" ≡ equation (0 ∷ []) 0
unfolding typed_of sides_of expression_of expression_in equation_of
zeros_in_front = refl

-- ---- inside the grammar, and outside

abbrev all_inside : List String → Bool
all_inside [] = true
all_inside (s ∷ ss) = is_typed (bytes_of s) && all_inside ss

abbrev all_outside : List String → Bool
all_outside [] = true
all_outside (s ∷ ss) = not (is_typed (bytes_of s)) && all_outside ss

pub inside : all_inside (
    "0=0" ∷ "x1=x1" ∷ " x1 = 1 " ∷ "00000=99999" ∷ "((((x1))))=1" ∷ "(x1)*(2)=1" ∷ "x1*x2=3" ∷ "0*x1*x2=3" ∷ "2*-x1=1" ∷ "--3=1"
    ∷ "1--2=1" ∷ "1---2=1" ∷ "x10=x16" ∷ "- 1 = - - 1" ∷ "( 1 ) = 2" ∷ "1+2*3-4=5" ∷ "- x1=0" ∷ []
    ) ≡ true
unfolding typed_of sides_of expression_of expression_in
inside = refl

pub outside : all_outside (
    "" ∷ " " ∷ "=" ∷ "1" ∷ "1=" ∷ "=1" ∷ "1=1=1" ∷ "x0=1" ∷ "x01=1" ∷ "x17=1" ∷ "x100=1" ∷ "x=1" ∷ "x 1=1" ∷ "1 2=1" ∷ "123456=1"
    ∷ "000001=1" ∷ "+1=1" ∷ "2x1=1" ∷ "2(x1)=1" ∷ "x1x2=1" ∷ "(1=1)" ∷ "(1=1" ∷ "1)=1" ∷ "()=1" ∷ "1+=1" ∷ "1*=1" ∷ "*1=1" ∷ "1**2=1"
    ∷ "1*+2=1" ∷ "1+*2=1" ∷ "-=1" ∷ "1-=1" ∷ "X1=1" ∷ "y1=1" ∷ "1=1\n" ∷ "\t1=1" ∷ "1.5=1" ∷ "1/2=1" ∷ "x-1=1" ∷ "x1 =1;" ∷ []
    ) ≡ true
unfolding typed_of sides_of expression_of expression_in
outside = refl

-- ---- the number given, mod 10 with 3 unknowns

abbrev numbers : List Equation → List String → List ℕ
numbers es [] = []
numbers es (s ∷ ss) = refusal_of (opened 10 3 (lines_mod 10 es)) (enters (types (bytes_of s))) ∷ numbers es ss

-- "not in the grammar or too long 11; then an unknown beyond n 12; then not linear 13"
abbrev pub turned_away : List String
turned_away =
    "x1=x17" ∷ "x4*x4=x0" ∷ "x16=0" ∷ "x9*x9=0" ∷ "0*x4=1" ∷ "x1*x2=1" ∷ "(x1-x1)*x2=0" ∷ "0*x1*x2=0" ∷ "x1*(x2-x2)=0" ∷ []

pub numbers_given : numbers [] turned_away ≡ (11 ∷ 11 ∷ 12 ∷ 12 ∷ 12 ∷ 13 ∷ 13 ∷ 13 ∷ 13 ∷ [])
unfolding refusal_of typed_of sides_of expression_of expression_in
numbers_given = refl

-- "then 5": with 16 equations held the numbers are the same
abbrev pub full : List Equation
full = let e = equation (0 ∷ 0 ∷ 0 ∷ []) 0 in
    e ∷ e ∷ e ∷ e ∷ e ∷ e ∷ e ∷ e ∷ e ∷ e ∷ e ∷ e ∷ e ∷ e ∷ e ∷ e ∷ []

pub numbers_given_full : numbers full ("x1=1" ∷ turned_away) ≡ (5 ∷ 11 ∷ 11 ∷ 12 ∷ 12 ∷ 12 ∷ 13 ∷ 13 ∷ 13 ∷ 13 ∷ [])
unfolding refusal_of typed_of sides_of expression_of expression_in
numbers_given_full = refl

pub accepted : numbers [] ("x1=1" ∷ "1=2" ∷ "0*x1=3" ∷ "(2-2)*(x1+x2)*5=3" ∷ []) ≡ (0 ∷ 0 ∷ 0 ∷ 0 ∷ [])
unfolding refusal_of typed_of sides_of expression_of expression_in
accepted = refl
