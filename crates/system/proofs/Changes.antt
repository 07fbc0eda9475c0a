-- The first step that changes a left side, and the first line for it, as a loop finds them that takes vectors off the front of the steps: i are
-- off, and `rest` is left.
--   FirstChange                            what is left finds the pair that the whole finds
--   change_on, change_stop, change_none    the first vector left changes no left side, it changes one, no vector is left
--   change_is, change_told                 what is said of the steps by the pair that is found, and by a test of it
use mathlib.Core.Path.{◌≡◌, refl, sym, ap, ◌∙◌}
use mathlib.Core.List.{List, ◌∷◌, ◌++◌}
use mathlib.Core.Bool.{Bool, true, false, cond, not}
use Prim.Native.Nat.{ℕ, zero, suc, ◌+◌, ◌<◌}
use native.Mathlib.Omega.{arith}
use lib.ListN.{length}
use lib.Dec.{eqb}
use borrow.Author.Tests.{eq-eqb, ne_eqb, not-true, not-false}
use Rattle.std.specs.Prelude.{Option, Some, None}
use Rattle.std.specs.Option.{is_some}
use Rattle.std.proofs.lemmas.Option.{none-some, same_Some}
use Rattle.equations.specs.Equation.{Equation, homogeneous}
use Rattle.equations.specs.Lines.{equations_of}
use Rattle.equations.specs.Reasons.{broken_at, keeps, changed_step, changed_line}
use Rattle.equations.proofs.Reasons.{broken_none}
use Rattle.system.specs.declared.checking.Change.{Change}
use Rattle.system.specs.Claims.{vectors_of}
use Rattle.system.specs.Places.{placed}
use Rattle.system.specs.Model.Marking.{changed}
use Rattle.system.proofs.Chunks.{vector_cut, vectors-none}
use Rattle.system.proofs.Placed.{placed_none, placed_some}
use Rattle.system.proofs.Seeking.{Seeking, sought_on, sought_stop, sought_none}

-- the pair by the number of the step
pair_none : (k line : ℕ) → None ≡ placed k → None ≡ changed k line
pair_none k line none = ap (λ (i : ℕ). changed i line) (sym (placed_none k none))

pair_some : (k i line : ℕ) → Some i ≡ placed k → Some (record { step = i; line = line }) ≡ changed k line
pair_some zero i line some = absurd (none-some i (sym some))
pair_some (suc k) i line some = ap (λ (s : ℕ). Some (record { step = s; line = line })) (same_Some i (suc k) some)

pub change_none_is : (k line : ℕ) → None ≡ changed k line → None ≡ placed k
change_none_is zero line none = refl
change_none_is (suc k) line none = absurd (none-some _ none)

pub change_is : (k line : ℕ) (pair : Change) → Some pair ≡ changed k line → (Some pair.step ≡ placed k) × (pair.line ≡ line)
change_is zero line pair some = absurd (none-some pair (sym some))
change_is (suc k) line pair some =
    let same = same_Some pair _ some in
    (ap (λ (p : Change). Some p.step) same, ap (λ (p : Change). p.line) same)

pub change_told : (k line : ℕ) (r : Option Change) (none : Bool) → r ≡ changed k line → is_some r ≡ not none → none ≡ eqb k 0
change_told zero line r none is told = not-false none (sym told ∙ ap is_some is)
change_told (suc k) line r none is told = not-true none (sym told ∙ ap is_some is) ∙ sym (ne_eqb (suc k) 0 (λ z. omega (arith, z)))

module _ (m n : ℕ) (lines steps : List ℕ) where
  abbrev es : List Equation
  es = equations_of n lines

  abbrev pub FirstChange : ℕ → List ℕ → Type 0
  FirstChange i rest =
      Seeking (keeps m (equations_of n lines)) (vectors_of n) steps i rest
      × (changed_line m (equations_of n lines) (vectors_of n rest) ≡ changed_line m (equations_of n lines) (vectors_of n steps))

  module _ (i : ℕ) (rest : List ℕ) (f : FirstChange i rest) where
    pub change_none : length rest < n
        → None ≡ changed (changed_step m (equations_of n lines) (vectors_of n steps)) (changed_line m (equations_of n lines) (vectors_of n steps))
    change_none none = pair_none _ _ (sought_none (keeps m es) (vectors_of n) steps i rest f.0 (vectors-none n rest none))

    -- the first vector is cut off
    module _ (v left : List ℕ) (pos : 0 < n) (cut : rest ≡ v ++ left) (long : length v ≡ n) where
      list : vectors_of n rest ≡ v ∷ vectors_of n left
      list = vector_cut n v left rest pos cut long

      line_by : (b : Bool) → keeps m es v ≡ b
          → cond b (changed_line m es (vectors_of n left)) (broken_at m (homogeneous es) v) ≡ changed_line m es (vectors_of n steps)
      line_by b t =
          sym (ap (changed_line m es) list
          ∙ ap (λ (z : Bool). cond z (changed_line m es (vectors_of n left)) (broken_at m (homogeneous es) v)) t)
          ∙ f.1

      by_number : (b : Bool) → eqb (broken_at m (homogeneous es) v) 0 ≡ b → keeps m es v ≡ b
      by_number b t = sym (broken_none m (homogeneous es) v) ∙ t

      pub change_on : None ≡ placed (broken_at m (homogeneous (equations_of n lines)) v) → FirstChange (i + 1) left
      change_on none =
          let kept = by_number true (eq-eqb _ 0 (placed_none _ none)) in
          (sought_on (keeps m es) (vectors_of n) steps i rest f.0 v left list kept, line_by true kept)

      pub change_stop : (line : ℕ) → Some line ≡ placed (broken_at m (homogeneous (equations_of n lines)) v)
          → Some (record { step = i + 1; line = line })
          ≡ changed (changed_step m (equations_of n lines) (vectors_of n steps)) (changed_line m (equations_of n lines) (vectors_of n steps))
      change_stop line some =
          let found = placed_some _ line some in
          let lost = by_number false (ne_eqb _ 0 (λ z. found.1 (found.0 ∙ z))) in
          pair_some _ (i + 1) line (sought_stop (keeps m es) (vectors_of n) steps i rest f.0 v left list lost)
          ∙ ap (changed (changed_step m es (vectors_of n steps))) (found.0 ∙ line_by false lost)
