-- `unknown_form` meets its contract: one store makes the unit vector.
use mathlib.Core.Path.{◌≡◌}
use mathlib.Core.Bool.{true}
use Prim.Native.Nat.{suc, ◌-◌}
use native.Mathlib.Omega.{arith}
use Rattle.equations.proofs.Unit.{unit_store}
use Rattle.typed.proofs.forms.unknown_form.Goals as goal

pub returns : goal.returns
returns c =
    let k = c.args.number in
    let counted : k ≡ suc (k - 1) = omega arith in
    rw c.zero.ensures (λ i. record { coefficients = unit_store 16 (k - 1) i; constant = 0; largest = counted i; linear = true })
