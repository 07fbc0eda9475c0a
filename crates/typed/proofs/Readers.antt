-- One way out of each reader of src/, on plain values: what it gives is what the model's reader gives.
--   number_good, unknown-..    numbers and unknowns
--   expression-.., sums-.., term-.., products-.., factor-..   the cycle, at any fuel that is enough
use mathlib.Core.Path.{◌≡◌, refl, ◌∙◌}
use mathlib.Core.Bool.{true, false, and-false, not}
use mathlib.Core.List.{List}
use Prim.Native.Nat.{ℕ, zero, suc, ◌+◌, ◌-◌, ◌*◌, ◌≤◌, ◌<◌, pred}
use native.Mathlib.Omega.{arith}
use borrow.Author.Tests.{eq-eqb, ne_eqb, lt-leb, le-leb}
use lib.Dec.{leb}
use lib.ListN.{length}
use Rattle.std.specs.Prelude.{Some, None, Option}
use Rattle.std.specs.Borrow.{Bor}
use Rattle.typed.specs.declared.forms.Form.{Form}
use Rattle.typed.specs.declared.scan.Run.{Run}
use Rattle.grammar.specs.Model.Algebra.{Algebra}
use Rattle.grammar.specs.Grammar.{decimal, zero_in_front, largest_unknown}
use Rattle.grammar.specs.Model.Reader.{nothing, read, next, tail, skip, digits, is_sign, number_in, unknown_in, closed, joined, expression_in, sums_in, term_in, products_in, factor_in}
use Rattle.typed.specs.Model.Forms.{forms, number_form, unknown_form, product_form}
use Rattle.typed.specs.Model.Contract.{reading, RunOf, Expression, Sums, Term, Products, Factor}
use Rattle.grammar.proofs.Tests.{both}
use Rattle.grammar.proofs.Bytes.{digits_are}
use Rattle.typed.proofs.Texts.{other_front}
use Rattle.typed.proofs.Runs.{capped-number, capped-unknown, capped_beyond}

module _ (text : List ℕ) (m : ℕ) where
  abbrev g : Algebra Form
  g = forms m largest_unknown

  -- ---- numbers and unknowns

  module _ (d : Run) (there : RunOf text d) where
    pub number_good : (a : Form) (u : List ℕ) → 1 ≤ d.count → d.count ≤ 5 → a ≡ number_form m largest_unknown d.value
        → u ≡ skip d.rest.now → read a u ≡ number_in g text
    number_good a u low high e h =
        let same : d.value ≡ decimal (digits text) =
        there.value ∙ capped-number (digits text) (digits_are text) (omega (arith, there.count)) in
        rw (
          both (leb 1 (length (digits text))) (leb (length (digits text)) 5)
              (le-leb 1 (length (digits text)) (omega (arith, there.count)))
              (le-leb (length (digits text)) 5 (omega (arith, there.count))),
          e,
          same,
          h,
          there.rest,
        ) refl

    pub unknown-none : d.value < 1 → nothing ≡ unknown_in g text
    unknown-none e =
        let v : decimal (digits text) ≡ 0 =
        omega (arith, there.value, capped-unknown (digits text) (omega (arith, there.value))) in
        rw (lt-leb 1 (decimal (digits text)) (omega arith), and-false) refl

    pub unknown_beyond : 16 < d.value → nothing ≡ unknown_in g text
    unknown_beyond e =
        rw (
          lt-leb (decimal (digits text)) 16 (capped_beyond (digits text) (omega (arith, there.value))),
          and-false,
          and-false (not (zero_in_front (digits text))),
        ) refl

    pub unknown_good : (a : Form) (u : List ℕ) → (next text ≡ 48 → ⊥) → 1 ≤ d.value → d.value ≤ 16
        → a ≡ unknown_form largest_unknown (d.value - 1) → u ≡ skip d.rest.now → read a u ≡ unknown_in g text
    unknown_good a u front low high e h =
        let same : d.value ≡ decimal (digits text) =
        there.value ∙ capped-unknown (digits text) (omega (arith, there.value)) in
        let before : d.value - 1 ≡ pred (decimal (digits text)) = omega arith in
        rw (
          other_front text front,
          le-leb 1 (decimal (digits text)) (omega arith),
          le-leb (decimal (digits text)) 16 (omega arith),
          e,
          before,
          h,
          there.rest,
        ) refl

  -- ---- an expression is a term and what follows it, a term a factor and what follows it

  pub expression-none : Term text m None → Expression text m None
  unfolding expression_in
  expression-none h zero b = absurd (omega arith)
  expression-none h (suc f) b = rw (← h f (omega arith)) refl

  pub term-none : Factor text m None → Term text m None
  unfolding term_in
  term-none h zero b = absurd (omega arith)
  term-none h (suc f) b = rw (← h f (omega arith)) refl

  module _ (a : Form) (u : Bor (List ℕ)) (shorter : length u.now ≤ length text) (q : Option (Form × Bor (List ℕ))) where
    pub expression_good : Term text m (Some (a, u)) → Sums u.now m a q → Expression text m q
    unfolding expression_in
    expression_good h k zero b = absurd (omega arith)
    expression_good h k (suc f) b = rw (← h f (omega arith)) (k f (omega arith))

    pub term_good : Factor text m (Some (a, u)) → Products u.now m a q → Term text m q
    unfolding term_in
    term_good h k zero b = absurd (omega arith)
    term_good h k (suc f) b = rw (← h f (omega arith)) (k f (omega arith))

  -- ---- where no sign follows

  pub sums_end : (a : Form) → is_sign (next text) ≡ false → (f : ℕ) → 4 * length text + 1 ≤ f → read a text ≡ sums_in g f a text
  unfolding sums_in
  sums_end a p zero b = absurd (omega arith)
  sums_end a p (suc f) b = rw p refl

  pub products_end : (a : Form) → (next text ≡ 42 → ⊥) → (f : ℕ) → 4 * length text + 1 ≤ f → read a text ≡ products_in g f a text
  unfolding products_in
  products_end a p zero b = absurd (omega arith)
  products_end a p (suc f) b = rw (ne_eqb (next text) 42 p) refl

  -- ---- behind a sign: v is what stands there

  module _ (v : List ℕ) (from : v ≡ skip (tail text)) (less : length v < length text) where
    module _ (a : Form) where
      pub sums-none : is_sign (next text) ≡ true → Term v m None → Sums text m a None
      unfolding sums_in
      sums-none c h zero b = absurd (omega arith)
      sums-none c h (suc f) b = rw (c, ← from, ← h f (omega arith)) refl

      pub products-none : next text ≡ 42 → Factor v m None → Products text m a None
      unfolding products_in
      products-none c h zero b = absurd (omega arith)
      products-none c h (suc f) b = rw (eq-eqb (next text) 42 c, ← from, ← h f (omega arith)) refl

      module _ (x s : Form) (u : Bor (List ℕ)) (shorter : length u.now ≤ length v) (q : Option (Form × Bor (List ℕ))) where
        pub sums_good : is_sign (next text) ≡ true → Term v m (Some (x, u)) → s ≡ joined g (next text) a x → Sums u.now m s q
            → Sums text m a q
        unfolding sums_in
        sums_good c h e k zero b = absurd (omega arith)
        sums_good c h e k (suc f) b = rw (c, ← from, ← h f (omega arith), ← e) (k f (omega arith))

        pub products_good : next text ≡ 42 → Factor v m (Some (x, u)) → s ≡ product_form m a x → Products u.now m s q
            → Products text m a q
        unfolding products_in
        products_good c h e k zero b = absurd (omega arith)
        products_good c h e k (suc f) b =
            rw (eq-eqb (next text) 42 c, ← from, ← h f (omega arith), ← e) (k f (omega arith))

    -- ---- a bracket

    pub bracket-none : next text ≡ 40 → Expression v m None → Factor text m None
    unfolding factor_in
    bracket-none c h zero b = absurd (omega arith)
    bracket-none c h (suc f) b = rw (eq-eqb (next text) 40 c, ← from, ← h f (omega arith)) refl

    pub bracket_good : (a : Form) (u : Bor (List ℕ)) (q : Option (Form × Bor (List ℕ))) → next text ≡ 40 → Expression v m (Some (a, u))
        → reading q ≡ closed g a u.now → Factor text m q
    unfolding factor_in
    bracket_good a u q c h e zero b = absurd (omega arith)
    bracket_good a u q c h e (suc f) b = rw (eq-eqb (next text) 40 c, ← from, ← h f (omega arith)) e

    -- ---- a minus

    pub minus-none : next text ≡ 45 → Factor v m None → Factor text m None
    unfolding factor_in
    minus-none c h zero b = absurd (omega arith)
    minus-none c h (suc f) b =
        rw (ne_eqb (next text) 40 (λ z. omega arith), eq-eqb (next text) 45 c, ← from, ← h f (omega arith)) refl

    pub minus_good : (a x : Form) (u : Bor (List ℕ)) → next text ≡ 45 → Factor v m (Some (x, u)) → a ≡ g.minus x
        → Factor text m (Some (a, u))
    unfolding factor_in
    minus_good a x u c h e zero b = absurd (omega arith)
    minus_good a x u c h e (suc f) b =
        rw (ne_eqb (next text) 40 (λ z. omega arith), eq-eqb (next text) 45 c, ← from, ← h f (omega arith), e) refl

  -- ---- an unknown or a number

  pub factor-unknown : (q : Option (Form × Bor (List ℕ))) → next text ≡ 120 → reading q ≡ unknown_in g (tail text)
      → Factor text m q
  unfolding factor_in
  factor-unknown q c h zero b = absurd (omega arith)
  factor-unknown q c h (suc f) b =
      rw (ne_eqb (next text) 40 (λ z. omega arith), ne_eqb (next text) 45 (λ z. omega arith), eq-eqb (next text) 120 c) h

  pub factor-number : (q : Option (Form × Bor (List ℕ))) → (next text ≡ 40 → ⊥) → (next text ≡ 45 → ⊥) → (next text ≡ 120 → ⊥)
      → reading q ≡ number_in g text → Factor text m q
  unfolding factor_in
  factor-number q p r o h zero b = absurd (omega arith)
  factor-number q p r o h (suc f) b =
      rw (ne_eqb (next text) 40 p, ne_eqb (next text) 45 r, ne_eqb (next text) 120 o) h
