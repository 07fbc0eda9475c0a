-- Whole equations: the reader finds both sides exactly where a text is in the grammar, and the grammar is unambiguous.
--   sides_complete   a typed equation is found, with the values of its very trees
--   sides_sound      what is found is typed
--   fold-trees       a tree is its own value among the trees
--   unambiguous      two equations typed by one text are equal
use mathlib.Core.Path.{◌≡◌, refl, ap, ap₂, sym, ◌∙◌}
use mathlib.Core.Bool.{Bool, true, false, cond}
use mathlib.Core.List.{List, [], ◌∷◌, ◌++◌, append-nil}
use Prim.Native.Nat.{ℕ}
use native.Mathlib.Omega.{arith}
use lib.Dec.{eqb}
use lib.ListN.{length-append}
use Rattle.grammar.specs.Tree.{Tree, Sides, number, unknown, minus, sum, difference, product}
use Rattle.grammar.specs.Model.Algebra.{Algebra, fold}
use Rattle.grammar.specs.Grammar.{expression, Writes, Typed, spaces, sign}
use Rattle.grammar.specs.Model.Reader.{Reading, nothing, read, next, tail, skip, enough, expression_of, Found, outside, found, at_end, equals_then, sides_of, trees}
use Rattle.grammar.proofs.Bytes.{gap, gap_skip, skip-spaces, next-tail}
use Rattle.grammar.proofs.Starts.{AfterExpression, starts}
use Rattle.grammar.proofs.Complete.{complete, expression-whole}
use Rattle.grammar.proofs.Sound.{Consumed, Sound, expression_sound}

-- ---- what is typed is found

module _ {A : Type 0} (g : Algebra A) where
  -- the bytes s, before bytes that end an expression
  expression-read : {t : Tree} {s : List ℕ} → Writes expression t s → (rest : List ℕ) → AfterExpression (next rest)
      → expression_of g (s ++ rest) ≡ read (fold g t) rest
  unfolding expression_of
  expression-read {t} {s} w rest after =
      expression-whole g t s (complete g w) rest (enough g (s ++ rest)) after (omega (arith, length-append s rest))

  last-read : {t : Tree} {s : List ℕ} → Writes expression t s → expression_of g s ≡ read (fold g t) []
  last-read {t} {s} w =
      ap (expression_of g) (sym (append-nil s))
      ∙ expression-read w [] (record {
        term_ends = record { factor_ends = record { space = refl; digit = refl }; times = refl };
        plus = refl;
        less = refl;
      })

  pub sides_complete : {e : Sides} {text : List ℕ} → Typed e text → sides_of g text ≡ found (fold g e.left)
      (fold g e.right)
  unfolding sides_of
  sides_complete {e} {text} w =
      let l = w.behind in let s = w.s in let u = w.u in
      let clear : eqb (next u) 32 ≡ false = rw append-nil at (starts w.right []) in
      let first : expression_of g (s ++ (sign 61 l ++ u)) ≡ read (fold g e.left) (sign 61 l ++ u) =
      expression-read w.left (sign 61 l ++ u) (record {
        term_ends = record { factor_ends = record { space = refl; digit = refl }; times = refl };
        plus = refl;
        less = refl;
      }) in
      rw (
        w.bytes,
        skip-spaces w.before (s ++ (sign 61 l ++ u)) (starts w.left (sign 61 l ++ u)),
        first,
        skip-spaces l u clear,
        last-read w.right,
      )

-- ---- what is found is typed

module _ {A : Type 0} (g : Algebra A) where
  pub record TypedAs (a b : A) (text : List ℕ) : Type 0 where
    pub sides : Sides
    pub typed : Typed sides text
    pub left : fold g sides.left ≡ a
    pub right : fold g sides.right ≡ b

  abbrev pub SoundSides : List ℕ → Found A → Type 0
  SoundSides text outside = Unit {0}
  SoundSides text (found a b) = TypedAs a b text

  end_sound : (text s : List ℕ) (a : A) → Consumed g expression a (skip text) s → eqb (next s) 61 ≡ true
      → (x : Reading A) → Sound g expression (skip (tail s)) x → SoundSides text (at_end a x)
  end_sound text s a c e nothing h = tt
  end_sound text s a c e (read b []) d = record {
    sides = record { left = c.tree; right = d.tree };
    typed = record {
      before = gap text;
      behind = gap (tail s);
      s = c.taken;
      u = d.taken;
      left = c.writes;
      right = d.writes;
      bytes =
          gap_skip text
          ∙ ap (λ (y : List ℕ). spaces (gap text) ++ y) (
          c.bytes
          ∙ ap (λ (y : List ℕ). c.taken ++ y) (
          next-tail s 60 e
          ∙ ap (λ (y : List ℕ). 61 ∷ y) (
          gap_skip (tail s)
          ∙ ap (λ (y : List ℕ). spaces (gap (tail s)) ++ y) (d.bytes ∙ append-nil d.taken)
          )
          )
          );
    };
    left = c.value;
    right = d.value;
  }
  end_sound text s a c e (read b (x ∷ u)) d = tt

  equals_sound : (text : List ℕ) (x : Reading A) → Sound g expression (skip text) x
      → SoundSides text (equals_then (λ s. expression_of g s) x)
  unfolding expression_of
  equals_sound text nothing h = tt
  equals_sound text (read a s) c = by (eqb (next s) 61) refl
    where
      by : (b : Bool) → eqb (next s) 61 ≡ b → SoundSides text (cond b (at_end a (expression_of g (skip (tail s)))) outside)
      by true e = end_sound text s a c e (expression_of g (skip (tail s))) (expression_sound g _ (skip (tail s)))
      by false e = tt

  pub sides_sound : (text : List ℕ) → SoundSides text (sides_of g text)
  unfolding sides_of expression_of
  sides_sound text = equals_sound text (expression_of g (skip text)) (expression_sound g _ (skip text))

-- ---- the grammar

pub fold-trees : (t : Tree) → fold trees t ≡ t
fold-trees (number k) = refl
fold-trees (unknown j) = refl
fold-trees (minus t) = ap minus (fold-trees t)
fold-trees (sum a b) = ap₂ sum (fold-trees a) (fold-trees b)
fold-trees (difference a b) = ap₂ difference (fold-trees a) (fold-trees b)
fold-trees (product a b) = ap₂ product (fold-trees a) (fold-trees b)

pub trees-found : {e : Sides} {text : List ℕ} → Typed e text → sides_of trees text ≡ found e.left e.right
trees-found {e} w = sides_complete trees w ∙ ap₂ found (fold-trees e.left) (fold-trees e.right)

pub unambiguous : {e d : Sides} {text : List ℕ} → Typed e text → Typed d text → e ≡ d
unambiguous {e} {d} v w =
    let p : ◌≡◌ {A = Found Tree} (found e.left e.right) (found d.left d.right) = sym (trees-found v)
    ∙ trees-found w in
    let l : e.left ≡ d.left = cc in
    let r : e.right ≡ d.right = cc in
    λ i. record { left = l i; right = r i }
