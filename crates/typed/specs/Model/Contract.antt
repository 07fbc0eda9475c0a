-- How what a reader of src/ gives stands for what the model's reader gives. Definitions only.
use Rattle.std.specs.Prelude.{◌≡◌, cond, List, [], ◌∷◌, ℕ, ◌+◌, ◌*◌, ◌≤◌, length, ltb, Option, Some, None}
use Rattle.std.specs.Borrow.{Bor}
use Rattle.std.proofs.Math.Option.{none, some}
use Rattle.std.proofs.Math.Option as Math
use Rattle.typed.specs.declared.forms.Form.{Form}
use Rattle.typed.specs.declared.scan.Run.{Run}
use Rattle.grammar.specs.Model.Reader.{Reading, nothing, read, digits, behind, Found, outside, found, expression_in, sums_in, term_in, products_in, factor_in}
use Rattle.typed.specs.Model.Forms.{forms, form_of}
use Rattle.grammar.specs.Tree.{Sides}
use Rattle.grammar.specs.Grammar.{largest_unknown}

-- what a reader gives, as the model says it: nothing, or a form and the text that is left
abbrev pub reading : Option (Form × Bor (List ℕ)) → Reading Form
reading None = nothing
reading (Some t) = read t.0 t.1.now

-- no more is left than there was
abbrev pub Onwards : List ℕ → Option (Form × Bor (List ℕ)) → Type 0
Onwards text None = Unit {0}
Onwards text (Some t) = length t.1.now ≤ length text

-- ---- the readers of the cycle, and what their loops read from where they are (Sums, Products): at any fuel that is enough, what the
-- model's reader gives

abbrev pub Expression : List ℕ → ℕ → Option (Form × Bor (List ℕ)) → Type 0
Expression text m r = (f : ℕ) → 4 * length text + 3 ≤ f → reading r ≡ expression_in (forms m largest_unknown) f text

abbrev pub Sums : List ℕ → ℕ → Form → Option (Form × Bor (List ℕ)) → Type 0
Sums text m a r = (f : ℕ) → 4 * length text + 1 ≤ f → reading r ≡ sums_in (forms m largest_unknown) f a text

abbrev pub Term : List ℕ → ℕ → Option (Form × Bor (List ℕ)) → Type 0
Term text m r = (f : ℕ) → 4 * length text + 2 ≤ f → reading r ≡ term_in (forms m largest_unknown) f text

abbrev pub Products : List ℕ → ℕ → Form → Option (Form × Bor (List ℕ)) → Type 0
Products text m a r = (f : ℕ) → 4 * length text + 1 ≤ f → reading r ≡ products_in (forms m largest_unknown) f a text

abbrev pub Factor : List ℕ → ℕ → Option (Form × Bor (List ℕ)) → Type 0
Factor text m r = (f : ℕ) → 4 * length text + 1 ≤ f → reading r ≡ factor_in (forms m largest_unknown) f text

-- ---- digits

-- one digit more, unless v has six already
abbrev pub capped : ℕ → ℕ → ℕ
capped v d = cond (ltb v 100000) (v * 10 + d) v

abbrev pub capped_onto : ℕ → List ℕ → ℕ
capped_onto v [] = v
capped_onto v (d ∷ ds) = capped_onto (capped v d) ds

-- the digits in front of the text
pub record RunOf (text : List ℕ) (r : Run) : Type 0 where
  pub value : r.value ≡ capped_onto 0 (digits text)
  pub count : r.count ≡ length (digits text)
  pub left : length r.rest.now ≤ length text
  pub rest : r.rest.now ≡ behind text

-- ---- whole equations

-- both sides, as the model says them
abbrev pub sides_found : Option (Form × Form) → Found Form
sides_found None = outside
sides_found (Some t) = found t.0 t.1

-- the forms of a typed equation's sides
abbrev pub typed_forms : ℕ → Math.Option Sides → Option (Form × Form)
typed_forms m none = None
typed_forms m (some e) = Some (form_of m largest_unknown e.left, form_of m largest_unknown e.right)
