-- `negate` meets its contract: a number and its remainder have the same negative.
use mathlib.Core.Path.{sym, ap, ◌∙◌}
use Prim.Native.Nat.{ℕ, ◌%◌}
use Rattle.residue.proofs.Negative.{negative-mod}
use Rattle.residue.proofs.modular.negate.Goals as goal

pub returns : goal.returns
returns c =
    let p = c.args in
    rw (sym (negative-mod p.m p.a (c.remainder.ensures.0 ∙ ap (λ (k : ℕ). k % p.m) c.wide.ensures))) c.opposite.ensures
