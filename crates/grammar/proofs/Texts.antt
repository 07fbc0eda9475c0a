-- Texts, read: `typed_of` in the grammar's words.
--   typed_read     an equation that is typed in at most 256 bytes is read
--   read_typed     what is read is typed there
--   not_typed      a text that is not read is outside the grammar or too long
--   passed         a text that passes a test is of an equation that does
use mathlib.Core.Path.{◌≡◌, refl, ap, ap₂, sym, subst, ◌∙◌}
use mathlib.Core.Logic.{◌↔◌, ◌⊎◌, inl, inr, ⊎_elim}
use mathlib.Core.Bool.{Bool, true, false, cond, false≢true}
use mathlib.Core.List.{List}
use mathlib.Core.Option.{Option, none, some, some-injective}
use Prim.Native.Nat.{ℕ, ◌≤◌, ◌<◌}
use native.Mathlib.Omega.{arith}
use borrow.Author.Tests.{leb-true, leb-false, le-leb}
use lib.Dec.{T, leb}
use lib.ListN.{length}
use Rattle.grammar.specs.Tree.{Tree, Sides}
use Rattle.grammar.specs.Grammar.{Typed, largest_text}
use Rattle.grammar.specs.Texts.{typed_of, passes, is_typed}
use Rattle.grammar.specs.Model.Reader.{Found, outside, found, sides_of, trees, as_sides}
use Rattle.grammar.proofs.Equations.{SoundSides, sides_sound, fold-trees, trees-found}

pub typed_read : (e : Sides) (text : List ℕ) → Typed e text → length text ≤ largest_text → typed_of text ≡ some e
unfolding typed_of
typed_read e text w short = rw (le-leb (length text) largest_text short, trees-found w)

found_typed : (e : Sides) (text : List ℕ) (x : Found Tree) → SoundSides trees text x → as_sides x ≡ some e → Typed e text
found_typed e text outside h is = let z : ◌≡◌ {A = ℕ} 0 1 = cc in absurd (omega arith)
found_typed e text (found a b) h is =
    let same : h.sides ≡ e =
    ap₂ {C = Sides} (λ (l r : Tree). record { left = l; right = r }) (sym (fold-trees h.sides.left) ∙ h.left)
    (sym (fold-trees h.sides.right) ∙ h.right)
    ∙ some-injective _ e is in
    subst (λ (d : Sides). Typed d text) same h.typed

pub read_typed : (e : Sides) (text : List ℕ) → typed_of text ≡ some e → Typed e text × (length text ≤ largest_text)
unfolding typed_of
read_typed e text = by (leb (length text) largest_text) refl
  where
    by : (b : Bool) → leb (length text) largest_text ≡ b → cond b (as_sides (sides_of trees text)) none ≡ some e
        → Typed e text × (length text ≤ largest_text)
    by true short is =
        (found_typed e text (sides_of trees text) (sides_sound trees text) is, leb-true (length text) largest_text short)
    by false long is = let z : ◌≡◌ {A = ℕ} 0 1 = cc in absurd (omega arith)

pub not_typed : (text : List ℕ) → (is_typed text ≡ false) ↔ (((e : Sides) → Typed e text → ⊥) ⊎ (largest_text < length text))
not_typed text = (to (leb (length text) largest_text) refl, from (typed_of text) refl)
  where
    to : (b : Bool) → leb (length text) largest_text ≡ b → is_typed text ≡ false
        → ((e : Sides) → Typed e text → ⊥) ⊎ (largest_text < length text)
    to true short no-equation =
        inl (λ e w.
        false≢true (sym no-equation ∙ ap (passes (λ d. true)) (typed_read e text w (leb-true (length text) largest_text short))))
    to false long no-equation = inr (leb-false (length text) largest_text long)

    from : (x : Option Sides) → typed_of text ≡ x → ((e : Sides) → Typed e text → ⊥) ⊎ (largest_text < length text)
        → passes (λ e. true) x ≡ false
    from none is out = refl
    from (some e) is out =
        let w = read_typed e text is in absurd (⊎_elim (λ never. never e w.0) (λ long. omega (arith, w.1)) out)

pub passed : (test : Sides → Bool) (x : Option Sides) → T (passes test x) → (e : Sides) × (x ≡ some e) × T (test e)
passed test none t = absurd t
passed test (some e) t = (e, refl, t)
