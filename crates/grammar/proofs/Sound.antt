-- Whatever the readers give is written there: some tree that has the value read writes the bytes that were taken.
--   Consumed           the bytes taken, the tree that they write, and its value
--   expression_sound   what the reader of expressions gives, at any fuel
use mathlib.Core.Path.{◌≡◌, refl, ap, ap₂, sym, ◌∙◌}
use mathlib.Core.Bool.{Bool, true, false, cond, not}
use mathlib.Core.List.{List, ◌∷◌, ◌++◌, append_assoc}
use Prim.Native.Nat.{ℕ, zero, suc, ◌≤◌, pred}
use native.Mathlib.Omega.{arith}
use borrow.Author.Tests.{leb-true}
use lib.Dec.{eqb, leb}
use Rattle.grammar.specs.Tree.{Tree, number, unknown, minus, sum, difference, product}
use Rattle.grammar.specs.Model.Algebra.{Algebra, fold}
use Rattle.grammar.specs.Grammar.{Rank, expression, term, factor, Writes, a_number, an_unknown, bracketed, negated, one_factor, times, one_term, plus, less, spaces, sign, characters, is_number, is_unknown, decimal, zero_in_front}
use Rattle.grammar.specs.Model.Reader.{Reading, nothing, read, whether, and_then, next, tail, skip, digits, behind, is_sign, number_in, unknown_in, closed, turned, joined, expression_in, sums_in, term_in, products_in, factor_in}
use Rattle.grammar.proofs.Tests.{both_left, both_right}
use Rattle.grammar.proofs.Bytes.{gap, gap_skip, digits_back, digits_are, next-tail}

-- ---- bytes taken

-- the bytes x, taken behind those of b
pub joined_bytes : (s b u x w : List ℕ) → s ≡ b ++ u → u ≡ x ++ w → s ≡ (b ++ x) ++ w
joined_bytes s b u x w p q = p ∙ ap (λ (y : List ℕ). b ++ y) q ∙ sym (append_assoc b x w)

-- a sign, the spaces behind it, and the bytes x that were taken next
signed : (c : ℕ) (u x w : List ℕ) → eqb (next u) (suc c) ≡ true → skip (tail u) ≡ x ++ w
    → u ≡ (sign (suc c) (gap (tail u)) ++ x) ++ w
signed c u x w e h =
    next-tail u c e
    ∙ ap (λ (y : List ℕ). suc c ∷ y) (joined_bytes (tail u) (spaces (gap (tail u))) (skip (tail u)) x w (gap_skip (tail u)) h)

number-bytes : (s : List ℕ) → s ≡ (characters (digits s) ++ spaces (gap (behind s))) ++ skip (behind s)
number-bytes s = joined_bytes s (characters (digits s)) (behind s) (spaces (gap (behind s))) _ (digits_back s)
    (gap_skip (behind s))

-- the brackets around the bytes x
between : (u x w : List ℕ) → eqb (next u) 40 ≡ true → skip (tail u) ≡ x ++ w → eqb (next w) 41 ≡ true
    → u ≡ (sign 40 (gap (tail u)) ++ (x ++ sign 41 (gap (tail w)))) ++ skip (tail w)
between u x w e h k =
    signed 39 u (x ++ sign 41 (gap (tail w))) (skip (tail w)) e
    (joined_bytes (skip (tail u)) x w (sign 41 (gap (tail w))) (skip (tail w)) h
    (next-tail w 40 k ∙ ap (λ (y : List ℕ). 41 ∷ y) (gap_skip (tail w))))

module _ {A : Type 0} (g : Algebra A) where
  -- of the bytes s all but u were taken, and read as a
  pub record Consumed (r : Rank) (a : A) (s u : List ℕ) : Type 0 where
    pub tree : Tree
    pub taken : List ℕ
    pub writes : Writes r tree taken
    pub value : fold g tree ≡ a
    pub bytes : s ≡ taken ++ u

  abbrev pub Sound : Rank → List ℕ → Reading A → Type 0
  Sound r s nothing = Unit {0}
  Sound r s (read a u) = Consumed r a s u

  -- ---- the ways to go on

  then_sound : (r q : Rank) (s z : List ℕ) (x : Reading A) (go : A → List ℕ → Reading A) → Sound r s x
      → ((a : A) (u : List ℕ) → Consumed r a s u → Sound q z (go a u)) → Sound q z (and_then x go)
  then_sound r q s z nothing go h k = tt
  then_sound r q s z (read a u) go h k = k a u h

  whether_sound : (r : Rank) (s : List ℕ) (b : Bool) (one other : Unit {0} → Reading A)
      → (b ≡ true → Sound r s (one tt)) → (b ≡ false → Sound r s (other tt)) → Sound r s (whether b one other)
  whether_sound r s true one other h k = h refl
  whether_sound r s false one other h k = k refl

  cond_sound : (r : Rank) (s : List ℕ) (b : Bool) (x : Reading A) → (b ≡ true → Sound r s x) → Sound r s (cond b x nothing)
  cond_sound r s true x h = h refl
  cond_sound r s false x h = tt

  -- ---- factors

  number_sound : (s : List ℕ) → Sound factor s (number_in g s)
  number_sound s =
      cond_sound factor s (is_number (digits s)) _ λ h. record {
        tree = number (decimal (digits s));
        taken = characters (digits s) ++ spaces (gap (behind s));
        writes = a_number (digits s) (gap (behind s)) (digits_are s) h;
        value = refl;
        bytes = number-bytes s;
      }

  unknown_sound : (s : List ℕ) → eqb (next s) 120 ≡ true → Sound factor s (unknown_in g (tail s))
  unknown_sound s e =
      cond_sound factor s (is_unknown ds) _ λ h. record {
        tree = unknown (pred (decimal ds));
        taken = 120 ∷ (characters ds ++ spaces (gap (behind (tail s))));
        writes = an_unknown ds (pred (decimal ds)) (gap (behind (tail s))) (digits_are (tail s)) h (some h);
        value = refl;
        bytes = next-tail s 119 e ∙ ap (λ (y : List ℕ). 120 ∷ y) (number-bytes (tail s));
      }
    where
      ds : List ℕ
      ds = digits (tail s)

      some : is_unknown ds ≡ true → decimal ds ≡ suc (pred (decimal ds))
      some h =
          let low : 1 ≤ decimal ds =
          leb-true 1 (decimal ds) (both_left (leb 1 (decimal ds)) (leb (decimal ds) 16)
          (both_right (not (zero_in_front ds)) _ h)) in
          omega arith

  closed_sound : (s : List ℕ) → eqb (next s) 40 ≡ true → (a : A) (u : List ℕ) → Consumed expression a (skip (tail s)) u
      → Sound factor s (closed g a u)
  closed_sound s e a u c =
      cond_sound factor s (eqb (next u) 41) _ λ h. record {
        tree = c.tree;
        taken = sign 40 (gap (tail s)) ++ (c.taken ++ sign 41 (gap (tail u)));
        writes = bracketed (gap (tail s)) (gap (tail u)) c.writes;
        value = c.value;
        bytes = between s c.taken u e c.bytes h;
      }

  turned_sound : (s : List ℕ) → eqb (next s) 45 ≡ true → (a : A) (u : List ℕ) → Consumed factor a (skip (tail s)) u
      → Consumed factor (g.minus a) s u
  turned_sound s e a u c = record {
    tree = minus c.tree;
    taken = sign 45 (gap (tail s)) ++ c.taken;
    writes = negated (gap (tail s)) c.writes;
    value = ap (λ (x : A). g.minus x) c.value;
    bytes = signed 44 s c.taken u e c.bytes;
  }

  -- ---- terms and expressions

  as_term : (a : A) (s u : List ℕ) → Consumed factor a s u → Consumed term a s u
  as_term a s u c = record {
    tree = c.tree;
    taken = c.taken;
    writes = one_factor c.writes;
    value = c.value;
    bytes = c.bytes;
  }

  as_expression : (a : A) (s u : List ℕ) → Consumed term a s u → Consumed expression a s u
  as_expression a s u c = record {
    tree = c.tree;
    taken = c.taken;
    writes = one_term c.writes;
    value = c.value;
    bytes = c.bytes;
  }

  times_sound : (a b : A) (s u w : List ℕ) → Consumed term a s u → eqb (next u) 42 ≡ true → Consumed factor b
      (skip (tail u)) w
      → Consumed term (g.product a b) s w
  times_sound a b s u w c e d = record {
    tree = product c.tree d.tree;
    taken = c.taken ++ (sign 42 (gap (tail u)) ++ d.taken);
    writes = times (gap (tail u)) c.writes d.writes;
    value = ap₂ (λ (x y : A). g.product x y) c.value d.value;
    bytes = joined_bytes s c.taken u _ w c.bytes (signed 41 u d.taken w e d.bytes);
  }

  -- by either sign
  sign_sound : (a b : A) (s u w : List ℕ) → Consumed expression a s u → is_sign (next u) ≡ true
      → Consumed term b (skip (tail u)) w → Consumed expression (joined g (next u) a b) s w
  sign_sound a b s u w c e d = by (eqb (next u) 43) refl
    where
      by : (t : Bool) → eqb (next u) 43 ≡ t → Consumed expression (cond t (g.sum a b) (g.difference a b)) s w
      by true is =
          record {
            tree = sum c.tree d.tree;
            taken = c.taken ++ (sign 43 (gap (tail u)) ++ d.taken);
            writes = plus (gap (tail u)) c.writes d.writes;
            value = ap₂ (λ (x y : A). g.sum x y) c.value d.value;
            bytes = joined_bytes s c.taken u _ w c.bytes (signed 42 u d.taken w is d.bytes);
          }
      by false is =
          record {
            tree = difference c.tree d.tree;
            taken = c.taken ++ (sign 45 (gap (tail u)) ++ d.taken);
            writes = less (gap (tail u)) c.writes d.writes;
            value = ap₂ (λ (x y : A). g.difference x y) c.value d.value;
            bytes = joined_bytes s c.taken u _ w c.bytes (signed 44 u d.taken w (rw is at e) d.bytes);
          }

  -- ---- the readers

  mutual
    unfolding expression_in

    pub expression_sound : (f : ℕ) (s : List ℕ) → Sound expression s (expression_in g f s)
    expression_sound zero s = tt
    expression_sound (suc f) s =
        then_sound term expression s s (term_in g f s) (λ a u. sums_in g f a u) (term_sound f s)
        (λ a u c. sums_sound f a s u (as_expression a s u c))

    sums_sound : (f : ℕ) (a : A) (s u : List ℕ) → Consumed expression a s u → Sound expression s (sums_in g f a u)
    sums_sound zero a s u c = tt
    sums_sound (suc f) a s u c =
        whether_sound expression s (is_sign (next u)) _ _
        (λ e. then_sound term expression (skip (tail u)) s (term_in g f (skip (tail u))) (λ b w. sums_in g f (joined g (next u) a b) w)
        (term_sound f (skip (tail u))) (λ b w d. sums_sound f (joined g (next u) a b) s w (sign_sound a b s u w c e d)))
        (λ _. c)

    term_sound : (f : ℕ) (s : List ℕ) → Sound term s (term_in g f s)
    term_sound zero s = tt
    term_sound (suc f) s =
        then_sound factor term s s (factor_in g f s) (λ a u. products_in g f a u) (factor_sound f s)
        (λ a u c. products_sound f a s u (as_term a s u c))

    products_sound : (f : ℕ) (a : A) (s u : List ℕ) → Consumed term a s u → Sound term s (products_in g f a u)
    products_sound zero a s u c = tt
    products_sound (suc f) a s u c =
        whether_sound term s (eqb (next u) 42) _ _
        (λ e. then_sound factor term (skip (tail u)) s (factor_in g f (skip (tail u)))
        (λ b w. products_in g f (g.product a b) w)
        (factor_sound f (skip (tail u))) (λ b w d. products_sound f (g.product a b) s w (times_sound a b s u w c e d)))
        (λ _. c)

    factor_sound : (f : ℕ) (s : List ℕ) → Sound factor s (factor_in g f s)
    factor_sound zero s = tt
    factor_sound (suc f) s =
        whether_sound factor s (eqb (next s) 40) _ _
        (λ e. then_sound expression factor (skip (tail s)) s (expression_in g f (skip (tail s))) (λ a u. closed g a u)
        (expression_sound f (skip (tail s))) (closed_sound s e))
        (λ _. whether_sound factor s (eqb (next s) 45) _ _
        (λ e. then_sound factor factor (skip (tail s)) s (factor_in g f (skip (tail s))) (λ a u. turned g a u)
        (factor_sound f (skip (tail s))) (turned_sound s e))
        (λ _. whether_sound factor s (eqb (next s) 120) _ _ (λ e. unknown_sound s e) (λ _. number_sound s)))
