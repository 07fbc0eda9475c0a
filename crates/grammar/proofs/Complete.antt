-- Whatever is written is read: of the bytes of an expression, a term or a factor, with more bytes behind them that end it, the
-- reader takes just those and gives the value of the very tree. An expression is read up to any byte that ends its last term,
-- and then stands before the reader of sums, which goes on from there: so the induction follows the grammar to the left.
use mathlib.Core.Path.{◌≡◌, refl, ap, ◌∙◌}
use mathlib.Core.Bool.{true, false, false≢true}
use mathlib.Core.List.{List, [], ◌∷◌, ◌++◌, append_assoc}
use Prim.Native.Nat.{ℕ, zero, suc, ◌+◌, ◌*◌, ◌≤◌}
use native.Mathlib.Omega.{arith}
use lib.Dec.{eqb, leb}
use borrow.Author.Tests.{ne_eqb, leb-true}
use lib.ListN.{length, length-append, length-replicate}
use Rattle.grammar.specs.Tree.{Tree, number, unknown, minus, sum, difference, product}
use Rattle.grammar.specs.Model.Algebra.{Algebra, fold}
use Rattle.grammar.specs.Grammar.{Rank, expression, term, factor, Writes, a_number, an_unknown, bracketed, negated, one_factor, times, one_term, plus, less, spaces, sign, characters, are_digits, is_number, is_unknown, decimal}
use Rattle.grammar.specs.Model.Reader.{read, next, is_digit, number_in, expression_in, sums_in, term_in, products_in, factor_in}
use Rattle.grammar.proofs.Tests.{both_left}
use Rattle.grammar.proofs.Bytes.{skip-spaces, digits-written, behind-written}
use Rattle.grammar.proofs.Starts.{AfterFactor, AfterTerm, AfterExpression, starts, after-spaces}

-- ---- a sign between two parts

regroup : (c k : ℕ) (s u rest : List ℕ) → (s ++ (sign c k ++ u)) ++ rest ≡ s ++ (sign c k ++ (u ++ rest))
regroup c k s u rest = simp append_assoc

sign-size : (c k : ℕ) (s u : List ℕ) → length (s ++ (sign c k ++ u)) ≡ length s + suc (k + length u)
sign-size c k s u = simp (length-append, length-replicate) (omega arith)

behind-size : (c k : ℕ) (u rest : List ℕ) → length (sign c k ++ (u ++ rest)) ≡ suc (k + (length u + length rest))
behind-size c k u rest = simp (length-append, length-replicate) (omega arith)

module _ {A : Type 0} (g : Algebra A) where
  -- the bytes s, whatever stands behind them, are read as t
  abbrev pub Read : Rank → Tree → List ℕ → Type 0
  Read factor t s =
      (rest : List ℕ) (f : ℕ) → AfterFactor (next rest) → 4 * (length s + length rest) + 1 ≤ f
      → factor_in g f (s ++ rest) ≡ read (fold g t) rest
  Read term t s =
      (rest : List ℕ) (f : ℕ) → AfterFactor (next rest) → 4 * (length s + length rest) + 2 ≤ f
      → (h : ℕ) × (4 * length rest + 1 ≤ h) × (term_in g f (s ++ rest) ≡ products_in g h (fold g t) rest)
  Read expression t s =
      (rest : List ℕ) (f : ℕ) → AfterTerm (next rest) → 4 * (length s + length rest) + 3 ≤ f
      → (h : ℕ) × (4 * length rest + 1 ≤ h) × (expression_in g f (s ++ rest) ≡ sums_in g h (fold g t) rest)

  -- ---- where the loops end

  products_end : (h : ℕ) (a : A) (rest : List ℕ) → eqb (next rest) 42 ≡ false → 1 ≤ h → products_in g h a rest ≡ read a rest
  unfolding products_in
  products_end zero a rest e b = absurd (omega arith)
  products_end (suc h) a rest e b = rw e

  sums_end : (h : ℕ) (a : A) (rest : List ℕ) → eqb (next rest) 43 ≡ false → eqb (next rest) 45 ≡ false → 1 ≤ h
      → sums_in g h a rest ≡ read a rest
  unfolding sums_in
  sums_end zero a rest e k b = absurd (omega arith)
  sums_end (suc h) a rest e k b = rw (e, k)

  -- a term that is ended, as a whole
  term-whole : (t : Tree) (s : List ℕ) → Read term t s → (rest : List ℕ) (f : ℕ) → AfterTerm (next rest)
      → 4 * (length s + length rest) + 2 ≤ f → term_in g f (s ++ rest) ≡ read (fold g t) rest
  term-whole t s w rest f after b =
      let r = w rest f after.factor_ends b in r.2 ∙ products_end r.0 (fold g t) rest after.times (omega arith)

  pub expression-whole : (t : Tree) (s : List ℕ) → Read expression t s → (rest : List ℕ) (f : ℕ) → AfterExpression
      (next rest)
      → 4 * (length s + length rest) + 3 ≤ f → expression_in g f (s ++ rest) ≡ read (fold g t) rest
  expression-whole t s w rest f after b =
      let r = w rest f after.term_ends b in
      r.2 ∙ sums_end r.0 (fold g t) rest after.plus after.less (omega arith)

  -- ---- numbers and unknowns

  number-first : (ds x : List ℕ) (f : ℕ) → are_digits ds ≡ true → is_number ds ≡ true
      → factor_in g (suc f) (characters ds ++ x) ≡ number_in g (characters ds ++ x)
  unfolding factor_in
  number-first [] x f a h = absurd (false≢true h)
  number-first (d ∷ ds) x f a h =
      let small : d ≤ 9 = leb-true d 9 (both_left (leb d 9) (are_digits ds) a) in
      rw (
        ne_eqb (48 + d) 40 (λ e. omega arith),
        ne_eqb (48 + d) 45 (λ e. omega arith),
        ne_eqb (48 + d) 120 (λ e. omega arith),
      )

  number_read : (ds : List ℕ) (k : ℕ) → are_digits ds ≡ true → is_number ds ≡ true
      → Read factor (number (decimal ds)) (characters ds ++ spaces k)
  number_read ds k a h rest zero after b = absurd (omega arith)
  number_read ds k a h rest (suc f) after b =
      let ends : is_digit (next (spaces k ++ rest)) ≡ false = after-spaces k rest after.digit in
      rw append_assoc (
      number-first ds (spaces k ++ rest) f a h
      ∙ rw (
        digits-written ds (spaces k ++ rest) a ends,
        behind-written ds (spaces k ++ rest) a ends,
        h,
        skip-spaces k rest after.space,
      )
      )

  unknown-read : (ds : List ℕ) (j k : ℕ) → are_digits ds ≡ true → is_unknown ds ≡ true → decimal ds ≡ suc j
      → Read factor (unknown j) (120 ∷ (characters ds ++ spaces k))
  unfolding factor_in
  unknown-read ds j k a h e rest zero after b = absurd (omega arith)
  unknown-read ds j k a h e rest (suc f) after b =
      let ends : is_digit (next (spaces k ++ rest)) ≡ false = after-spaces k rest after.digit in
      rw (
        append_assoc,
        digits-written ds (spaces k ++ rest) a ends,
        behind-written ds (spaces k ++ rest) a ends,
        h,
        skip-spaces k rest after.space,
        e,
      )

  -- ---- brackets and a minus in front

  bracketed-read : (t : Tree) (k l : ℕ) (s : List ℕ) → Read expression t s
      → ((rest : List ℕ) → eqb (next (s ++ rest)) 32 ≡ false) → Read factor t (sign 40 k ++ (s ++ sign 41 l))
  unfolding factor_in
  bracketed-read t k l s w clear rest zero after b = absurd (omega arith)
  bracketed-read t k l s w clear rest (suc f) after b =
      let size : length (sign 40 k ++ (s ++ sign 41 l)) ≡ suc (k + (length s + suc l)) =
      simp (length-append, length-replicate) (omega arith) in
      let left : length (sign 41 l ++ rest) ≡ suc (l + length rest) = simp (length-append, length-replicate)
      (omega arith) in
      let ends : AfterExpression 41 = record {
        term_ends = record { factor_ends = record { space = refl; digit = refl }; times = refl };
        plus = refl;
        less = refl;
      } in
      let inner : expression_in g f (s ++ (sign 41 l ++ rest)) ≡ read (fold g t) (sign 41 l ++ rest) =
      expression-whole t s w (sign 41 l ++ rest) f ends (omega arith) in
      rw (
        append_assoc (spaces k) (s ++ sign 41 l) rest,
        append_assoc s (sign 41 l) rest,
        skip-spaces k (s ++ (sign 41 l ++ rest)) (clear (sign 41 l ++ rest)),
        inner,
        skip-spaces l rest after.space,
      )

  negated-read : (t : Tree) (k : ℕ) (s : List ℕ) → Read factor t s
      → ((rest : List ℕ) → eqb (next (s ++ rest)) 32 ≡ false) → Read factor (minus t) (sign 45 k ++ s)
  unfolding factor_in
  negated-read t k s w clear rest zero after b = absurd (omega arith)
  negated-read t k s w clear rest (suc f) after b =
      let size : length (spaces k ++ s) ≡ k + length s = simp (length-append, length-replicate) in
      rw (append_assoc (spaces k) s rest, skip-spaces k (s ++ rest) (clear rest), w rest f after (omega arith))

  -- ---- terms and expressions

  factor-term : (t : Tree) (s : List ℕ) → Read factor t s → Read term t s
  unfolding term_in
  factor-term t s w rest zero after b = absurd (omega arith)
  factor-term t s w rest (suc f) after b = (f, omega arith, rw (w rest f after (omega arith)))

  term-expression : (t : Tree) (s : List ℕ) → Read term t s → Read expression t s
  unfolding expression_in
  term-expression t s w rest zero after b = absurd (omega arith)
  term-expression t s w rest (suc f) after b = (f, omega arith, rw (term-whole t s w rest f after (omega arith)))

  product-step : (a b : Tree) (k h : ℕ) (u rest : List ℕ) → Read factor b u → eqb (next (u ++ rest)) 32 ≡ false
      → AfterFactor (next rest) → 4 * (length u + length rest) + 1 ≤ h
      → products_in g (suc h) (fold g a) (sign 42 k ++ (u ++ rest)) ≡ products_in g h (g.product (fold g a) (fold g b)) rest
  unfolding products_in
  product-step a b k h u rest w clear after e = rw (skip-spaces k (u ++ rest) clear, w rest h after e)

  times-read : (a b : Tree) (k : ℕ) (s u : List ℕ) → Read term a s → Read factor b u
      → ((rest : List ℕ) → eqb (next (u ++ rest)) 32 ≡ false) → Read term (product a b) (s ++ (sign 42 k ++ u))
  times-read a b k s u v w clear rest f after e =
      let size = sign-size 42 k s u in
      let r = v (sign 42 k ++ (u ++ rest)) f (record { space = refl; digit = refl })
      (omega (arith, behind-size 42 k u rest)) in
      go r.0 r.1 r.2
    where
      go : (h : ℕ) → 4 * length (sign 42 k ++ (u ++ rest)) + 1 ≤ h
          → term_in g f (s ++ (sign 42 k ++ (u ++ rest))) ≡ products_in g h (fold g a) (sign 42 k ++ (u ++ rest))
          → (h : ℕ) × (4 * length rest + 1 ≤ h)
          × (term_in g f ((s ++ (sign 42 k ++ u)) ++ rest) ≡ products_in g h (fold g (product a b)) rest)
      go zero b' e' = absurd (omega arith)
      go (suc h) b' e' = (
        h,
        omega (arith, behind-size 42 k u rest),
        ap (term_in g f) (regroup 42 k s u rest) ∙ e'
            ∙ product-step a b k h u rest w (clear rest) after (omega (arith, behind-size 42 k u rest)),
      )

  -- a sum or a difference, by one turn of the reader of sums
  chain_read : (c k : ℕ) (a n : Tree) (s u : List ℕ) → AfterTerm c
      → ((h : ℕ) (rest : List ℕ) → AfterTerm (next rest) → 4 * (length u + length rest) + 2 ≤ h
      → sums_in g (suc h) (fold g a) (sign c k ++ (u ++ rest)) ≡ sums_in g h (fold g n) rest)
      → Read expression a s → Read expression n (s ++ (sign c k ++ u))
  chain_read c k a n s u sign-ends turn v rest f after e =
      let size = sign-size c k s u in
      let r = v (sign c k ++ (u ++ rest)) f sign-ends (omega (arith, behind-size c k u rest)) in
      go r.0 r.1 r.2
    where
      go : (h : ℕ) → 4 * length (sign c k ++ (u ++ rest)) + 1 ≤ h
          → expression_in g f (s ++ (sign c k ++ (u ++ rest))) ≡ sums_in g h (fold g a) (sign c k ++ (u ++ rest))
          → (h : ℕ) × (4 * length rest + 1 ≤ h)
          × (expression_in g f ((s ++ (sign c k ++ u)) ++ rest) ≡ sums_in g h (fold g n) rest)
      go zero b' e' = absurd (omega arith)
      go (suc h) b' e' = (
        h,
        omega (arith, behind-size c k u rest),
        ap (expression_in g f) (regroup c k s u rest) ∙ e' ∙ turn h rest after (omega (arith, behind-size c k u rest)),
      )

  plus_turn : (a b : Tree) (k : ℕ) (u : List ℕ) → Read term b u → ((rest : List ℕ) → eqb (next (u ++ rest)) 32 ≡ false)
      → (h : ℕ) (rest : List ℕ) → AfterTerm (next rest) → 4 * (length u + length rest) + 2 ≤ h
      → sums_in g (suc h) (fold g a) (sign 43 k ++ (u ++ rest)) ≡ sums_in g h (g.sum (fold g a) (fold g b)) rest
  unfolding sums_in
  plus_turn a b k u w clear h rest after e =
      rw (skip-spaces k (u ++ rest) (clear rest), term-whole b u w rest h after e)

  less_turn : (a b : Tree) (k : ℕ) (u : List ℕ) → Read term b u → ((rest : List ℕ) → eqb (next (u ++ rest)) 32 ≡ false)
      → (h : ℕ) (rest : List ℕ) → AfterTerm (next rest) → 4 * (length u + length rest) + 2 ≤ h
      → sums_in g (suc h) (fold g a) (sign 45 k ++ (u ++ rest)) ≡ sums_in g h (g.difference (fold g a) (fold g b)) rest
  unfolding sums_in
  less_turn a b k u w clear h rest after e =
      rw (skip-spaces k (u ++ rest) (clear rest), term-whole b u w rest h after e)

  -- ---- all of it

  pub complete : {r : Rank} {t : Tree} {s : List ℕ} → Writes r t s → Read r t s
  complete (a_number ds k a h) = number_read ds k a h
  complete (an_unknown ds j k a h e) = unknown-read ds j k a h e
  complete (bracketed k l {t = t} {s = s} w) = bracketed-read t k l s (complete w) (starts w)
  complete (negated k {t = t} {s = s} w) = negated-read t k s (complete w) (starts w)
  complete (one_factor {t = t} {s = s} w) = factor-term t s (complete w)
  complete (times k {a = a} {b = b} {s = s} {u = u} v w) = times-read a b k s u (complete v) (complete w) (starts w)
  complete (one_term {t = t} {s = s} w) = term-expression t s (complete w)
  complete (plus k {a = a} {b = b} {s = s} {u = u} v w) =
      chain_read 43 k a (sum a b) s u (record { factor_ends = record { space = refl; digit = refl }; times = refl })
      (plus_turn a b k u (complete w) (starts w)) (complete v)
  complete (less k {a = a} {b = b} {s = s} {u = u} v w) =
      chain_read 45 k a (difference a b) s u (record { factor_ends = record { space = refl; digit = refl }; times = refl })
      (less_turn a b k u (complete w) (starts w)) (complete v)
