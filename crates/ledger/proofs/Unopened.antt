-- An unopened ledger, known by its test alone.
--   unknowns-none   it has no unknowns
use mathlib.Core.Path.{◌≡◌, refl}
use mathlib.Core.Bool.{false}
use Prim.Native.Nat.{ℕ}
use native.Mathlib.Omega.{arith}
use Rattle.ledger.specs.Ledger.{Ledger, unopened, opened, is_opened, unknowns_of}

pub unknowns-none : (l : Ledger) → is_opened l ≡ false → unknowns_of l ≡ 0
unknowns-none unopened h = refl
unknowns-none (opened m n ls) h = let z : ◌≡◌ {A = ℕ} 0 1 = cc in absurd (omega arith)
