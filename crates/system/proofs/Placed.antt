-- What an option of the code says of a number that counts from 1, with 0 for none.
--   placed_none, placed_some    by the option itself,
--   some_told, none_told        and by a test of it
use mathlib.Core.Path.{◌≡◌, refl, sym, ap, ◌∙◌}
use mathlib.Core.Bool.{Bool, false, not}
use Prim.Native.Nat.{ℕ, zero, suc}
use native.Mathlib.Omega.{arith}
use lib.Dec.{eqb}
use borrow.Author.Tests.{ne_eqb, not-true, not-false}
use Rattle.std.specs.Prelude.{Option, Some, None}
use Rattle.std.specs.Option.{is_some}
use Rattle.std.proofs.lemmas.Option.{none-some, same_Some}
use Rattle.system.specs.Places.{placed}

pub placed_none : (k : ℕ) → None ≡ placed k → k ≡ 0
placed_none zero h = refl
placed_none (suc k) h = absurd (none-some (suc k) h)

pub placed_some : (k i : ℕ) → Some i ≡ placed k → (i ≡ k) × (i ≡ 0 → ⊥)
placed_some zero i h = absurd (none-some i (sym h))
placed_some (suc k) i h = let same = same_Some i (suc k) h in (same, λ z. omega (arith, z, same))

more : (k : ℕ) → eqb (suc k) 0 ≡ false
more k = ne_eqb (suc k) 0 (λ z. omega (arith, z))

pub some_told : (k : ℕ) (r : Option ℕ) (some : Bool) → r ≡ placed k → some ≡ is_some r → eqb k 0 ≡ not some
some_told zero r some is told = ap not (sym (told ∙ ap is_some is))
some_told (suc k) r some is told = more k ∙ ap not (sym (told ∙ ap is_some is))

pub none_told : (k : ℕ) (r : Option ℕ) (none : Bool) → r ≡ placed k → is_some r ≡ not none → none ≡ eqb k 0
none_told zero r none is told = not-false none (sym told ∙ ap is_some is)
none_told (suc k) r none is told = not-true none (sym told ∙ ap is_some is) ∙ sym (more k)
