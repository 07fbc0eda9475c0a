-- Whole equations, on plain values.
--   whole                                                        a reader of expressions, at the fuel of the model
--   left-none, no_equals, right-none, right_more, both_sides     the ways out of `sides`
--   typed_long, typed_short                                      what it gives, in the grammar's words
--   untyped, typed_is, within_is, linear_is, line_is             what the questions ask of it, and the line
use mathlib.Core.Path.{◌≡◌, refl, ap, ap₂, ◌∙◌}
use mathlib.Core.Bool.{Bool, true, false, ◌&&◌}
use mathlib.Core.List.{List, [], ◌∷◌}
use mathlib.Core.Option.{none, some}
use mathlib.Core.Option as Math
use Prim.Native.Nat.{ℕ, ◌≤◌, ◌<◌}
use native.Mathlib.Omega.{arith}
use borrow.Author.Tests.{eq-eqb, ne_eqb, lt-leb}
use lib.Dec.{leb}
use lib.ListN.{length}
use Rattle.std.specs.Prelude.{Option, Some, None}
use Rattle.std.specs.Borrow.{Bor}
use Rattle.typed.specs.declared.forms.Form.{Form}
use Rattle.grammar.specs.Model.Algebra.{Algebra}
use Rattle.grammar.specs.Tree.{Sides}
use Rattle.grammar.specs.Grammar.{largest_text, largest_unknown}
use Rattle.grammar.specs.Linear.{sides_within, sides_linear}
use Rattle.grammar.specs.Texts.{typed_of, passes, equation_in}
use Rattle.grammar.specs.Model.Reader.{read, next, tail, skip, expression_of, enough, Found, outside, found, at_end, sides_of}
use Rattle.typed.specs.Model.Forms.{forms, form_of, forms_equation}
use Rattle.typed.specs.Model.Contract.{reading, Expression, sides_found, typed_forms}
use Rattle.grammar.proofs.Equations.{SoundSides, sides_sound}
use Rattle.grammar.proofs.Texts.{typed_read, read_typed}
use Rattle.typed.proofs.Folded.{largest-within, forms-found, equation_is}

end_more : (a b : Form) (z : List ℕ) → 0 < length z → outside ≡ at_end a (read b z)
end_more a b [] h = absurd (omega arith)
end_more a b (c ∷ z) h = refl

end_good : (a b : Form) (z : List ℕ) → length z ≡ 0 → found a b ≡ at_end a (read b z)
end_good a b [] h = refl
end_good a b (c ∷ z) h = absurd (omega arith)

module _ (text : List ℕ) (m : ℕ) where
  abbrev g : Algebra Form
  g = forms m largest_unknown

  whole : (s : List ℕ) (r : Option (Form × Bor (List ℕ))) → Expression s m r → reading r ≡ expression_of g s
  unfolding expression_of
  whole s r h = h (enough g s) (omega arith)

  -- ---- the left side

  module _ (v : List ℕ) (from : v ≡ skip text) where
    pub left-none : Expression v m None → outside ≡ sides_of g text
    unfolding sides_of
    left-none h = rw (← from, ← whole v None h) refl

    module _ (a : Form) (u : Bor (List ℕ)) (h : Expression v m (Some (a, u))) where
      pub no_equals : (next u.now ≡ 61 → ⊥) → outside ≡ sides_of g text
      unfolding sides_of
      no_equals e = rw (← from, ← whole v (Some (a, u)) h, ne_eqb (next u.now) 61 e) refl

      -- ---- the right side

      module _ (sign : next u.now ≡ 61) (w : List ℕ) (on : w ≡ skip (tail u.now)) where
        beyond_sign : sides_of g text ≡ at_end a (expression_of g w)
        unfolding sides_of
        beyond_sign = rw (← from, ← whole v (Some (a, u)) h, eq-eqb (next u.now) 61 sign, ← on) refl

        pub right-none : Expression w m None → outside ≡ sides_of g text
        right-none k = rw (beyond_sign, ← whole w None k) refl

        module _ (b : Form) (z : Bor (List ℕ)) (k : Expression w m (Some (b, z))) where
          pub right_more : 0 < length z.now → outside ≡ sides_of g text
          right_more more = rw (beyond_sign, ← whole w (Some (b, z)) k) (end_more a b z.now more)

          pub both_sides : length z.now ≡ 0 → found a b ≡ sides_of g text
          both_sides all = rw (beyond_sign, ← whole w (Some (b, z)) k) (end_good a b z.now all)

-- ---- in the grammar's words

module _ (m : ℕ) (text : List ℕ) where
  pub typed_long : largest_text < length text → None ≡ typed_forms m (typed_of text)
  unfolding typed_of
  typed_long long = rw (lt-leb (length text) largest_text long) refl

  pub typed_short : (r : Option (Form × Form)) → length text ≤ largest_text → sides_found r ≡ sides_of (forms m largest_unknown) text
      → r ≡ typed_forms m (typed_of text)
  typed_short r short gives = by (typed_of text) refl
    where
      none_found : (x : Found Form) → SoundSides (forms m largest_unknown) text x → typed_of text ≡ none → x ≡ outside
      none_found outside h is = refl
      none_found (found a b) h is =
          let z : ◌≡◌ {A = ℕ} 0 1 = cc (is, typed_read h.sides text h.typed short) in absurd (omega arith)

      as_found : (r q : Option (Form × Form)) → sides_found r ≡ sides_found q → r ≡ q
      as_found None None e = refl
      as_found None (Some q) e = cc
      as_found (Some r) None e = cc
      as_found (Some (a, b)) (Some (c, d)) e = cc

      by : (x : Math.Option Sides) → typed_of text ≡ x → r ≡ typed_forms m x
      by none is =
          as_found r None
          (gives ∙ none_found (sides_of (forms m largest_unknown) text) (sides_sound (forms m largest_unknown) text) is)
      by (some e) is =
          as_found r (typed_forms m (some e)) (gives ∙ forms-found m largest_unknown (read_typed e text is).0)

-- ---- what the questions ask of the forms

module _ (m : ℕ) where
  pub untyped : (x : Math.Option Sides) (test : Sides → Bool) → None ≡ typed_forms m x → passes test x ≡ false
  untyped none test is = refl
  untyped (some e) test is = cc

  module _ (n : ℕ) (a b : Form) where
    the_forms : (e : Sides) → Some (a, b) ≡ typed_forms m (some e)
        → (a ≡ form_of m largest_unknown e.left) × (b ≡ form_of m largest_unknown e.right)
    the_forms e is =
        let both : ◌≡◌ {A = Form × Form} (a, b) (form_of m largest_unknown e.left, form_of m largest_unknown e.right) = cc in
        (ap (λ (p : Form × Form). p.0) both, ap (λ (p : Form × Form). p.1) both)

    pub typed_is : (x : Math.Option Sides) → Some (a, b) ≡ typed_forms m x → true ≡ passes (λ e. true) x
    typed_is none is = cc
    typed_is (some e) is = refl

    pub within_is : (x : Math.Option Sides) → Some (a, b) ≡ typed_forms m x
        → (leb a.largest n && leb b.largest n) ≡ passes (sides_within n) x
    within_is none is = cc
    within_is (some e) is =
        let h = the_forms e is in rw (h.0, h.1) (ap₂ ◌&&◌ (largest-within n e.left) (largest-within n e.right))

    pub linear_is : (x : Math.Option Sides) → Some (a, b) ≡ typed_forms m x → (a.linear && b.linear) ≡ passes sides_linear x
    linear_is none is = cc
    linear_is (some e) is =
        let h = the_forms e is in rw (h.0, h.1) refl

    pub line_is : n ≤ largest_unknown → (x : Math.Option Sides) → Some (a, b) ≡ typed_forms m x
        → forms_equation m n a b ≡ equation_in m n x
    line_is few none is = cc
    line_is few (some e) is =
        let h = the_forms e is in rw (h.0, h.1) (equation_is m n few e)
