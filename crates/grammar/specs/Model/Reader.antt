-- A reader of typed equations, by recursive descent: a model, not part of what must be believed. It gives the value of the tree
-- in any algebra, so one reader serves trees and linear forms. Each call of one reader by another takes one unit of fuel.
use Rattle.std.specs.Prelude.{Bool, true, false, cond, ◌&&◌, ◌||◌, List, [], ◌∷◌, ℕ, zero, suc, ◌+◌, ◌*◌, ◌-◌, pred, length, eqb, leb}
use Rattle.std.proofs.Math.Option.{Option, none, some}
use Rattle.grammar.specs.Tree.{Tree, Sides}
use Rattle.grammar.specs.Model.Algebra.{Algebra}
use Rattle.grammar.specs.Tree as Trees
use Rattle.grammar.specs.Grammar.{decimal, is_number, is_unknown}

-- ---- bytes

-- the next byte, 0 at the end
abbrev pub next : List ℕ → ℕ
next [] = 0
next (c ∷ s) = c

abbrev pub tail : List ℕ → List ℕ
tail [] = []
tail (c ∷ s) = s

-- what stands behind the spaces in front
abbrev pub skip : List ℕ → List ℕ
skip [] = []
skip (c ∷ s) = cond (eqb c 32) (skip s) (c ∷ s)

abbrev pub is_digit : ℕ → Bool
is_digit c = leb 48 c && leb c 57

-- the digits in front
abbrev pub digits : List ℕ → List ℕ
digits [] = []
digits (c ∷ s) = cond (is_digit c) ((c - 48) ∷ digits s) []

-- what stands behind them
abbrev pub behind : List ℕ → List ℕ
behind [] = []
behind (c ∷ s) = cond (is_digit c) (behind s) (c ∷ s)

-- `+` or `-`
abbrev pub is_sign : ℕ → Bool
is_sign c = eqb c 43 || eqb c 45

-- ---- what a reader gives

-- nothing, or a value and the bytes that are left
pub data Reading (A : Type 0) : Type 0 where
  nothing : Reading A
  read : A → List ℕ → Reading A

module _ {A : Type 0} where
  -- two ways to go on, of which only the one taken is computed
  abbrev pub whether : Bool → (Unit {0} → Reading A) → (Unit {0} → Reading A) → Reading A
  whether true one other = one tt
  whether false one other = other tt

  abbrev pub and_then : Reading A → (A → List ℕ → Reading A) → Reading A
  and_then nothing go = nothing
  and_then (read a s) go = go a s

-- ---- the readers

module _ {A : Type 0} (g : Algebra A) where
  abbrev pub number_in : List ℕ → Reading A
  number_in s = cond (is_number (digits s)) (read (g.number (decimal (digits s))) (skip (behind s))) nothing

  abbrev pub unknown_in : List ℕ → Reading A
  unknown_in s = cond (is_unknown (digits s)) (read (g.unknown (pred (decimal (digits s)))) (skip (behind s))) nothing

  -- what a closing bracket leaves
  abbrev pub closed : A → List ℕ → Reading A
  closed a s = cond (eqb (next s) 41) (read a (skip (tail s))) nothing

  abbrev pub turned : A → List ℕ → Reading A
  turned a s = read (g.minus a) s

  -- a with b behind the sign c
  abbrev pub joined : ℕ → A → A → A
  joined c a b = cond (eqb c 43) (g.sum a b) (g.difference a b)

  unfoldable mutual
    pub expression_in : ℕ → List ℕ → Reading A
    expression_in zero s = nothing
    expression_in (suc f) s = and_then (term_in f s) (λ a u. sums_in f a u)

    -- what follows the expression a
    pub sums_in : ℕ → A → List ℕ → Reading A
    sums_in zero a s = nothing
    sums_in (suc f) a s =
        whether (is_sign (next s)) (λ _. and_then (term_in f (skip (tail s))) (λ b u. sums_in f (joined (next s) a b) u))
        (λ _. read a s)

    pub term_in : ℕ → List ℕ → Reading A
    term_in zero s = nothing
    term_in (suc f) s = and_then (factor_in f s) (λ a u. products_in f a u)

    -- what follows the term a
    pub products_in : ℕ → A → List ℕ → Reading A
    products_in zero a s = nothing
    products_in (suc f) a s =
        whether (eqb (next s) 42) (λ _. and_then (factor_in f (skip (tail s))) (λ b u. products_in f (g.product a b) u))
        (λ _. read a s)

    pub factor_in : ℕ → List ℕ → Reading A
    factor_in zero s = nothing
    factor_in (suc f) s =
        whether (eqb (next s) 40) (λ _. and_then (expression_in f (skip (tail s))) (λ a u. closed a u))
        (λ _. whether (eqb (next s) 45) (λ _. and_then (factor_in f (skip (tail s))) (λ a u. turned a u))
        (λ _. whether (eqb (next s) 120) (λ _. unknown_in (tail s))
        (λ _. number_in s)))

  -- fuel for s as an expression
  abbrev pub enough : List ℕ → ℕ
  enough s = 4 * length s + 4

  unfoldable pub expression_of : List ℕ → Reading A
  expression_of s = expression_in (enough s) s

-- ---- whole equations

pub data Found (A : Type 0) : Type 0 where
  outside : Found A
  found : A → A → Found A

module _ {A : Type 0} where
  abbrev pub at_end : A → Reading A → Found A
  at_end a nothing = outside
  at_end a (read b []) = found a b
  at_end a (read b (c ∷ s)) = outside

  -- the equals sign, and then the right side, read by r
  abbrev pub equals_then : (List ℕ → Reading A) → Reading A → Found A
  equals_then r nothing = outside
  equals_then r (read a s) = cond (eqb (next s) 61) (at_end a (r (skip (tail s)))) outside

-- both sides of a typed equation, in the algebra g
unfoldable pub sides_of : {A : Type 0} → Algebra A → List ℕ → Found A
sides_of g text = equals_then (λ s. expression_of g s) (expression_of g (skip text))

-- the trees themselves
abbrev pub trees : Algebra Tree
trees = record {
  number = Trees.number;
  unknown = Trees.unknown;
  minus = Trees.minus;
  sum = Trees.sum;
  difference = Trees.difference;
  product = Trees.product;
}

abbrev pub as_sides : Found Tree → Option Sides
as_sides outside = none
as_sides (found a b) = some (record { left = a; right = b })
