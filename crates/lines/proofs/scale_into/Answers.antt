-- `scale_into` meets its contract: a plain line is copied, and of any other the products are below m.
use mathlib.Core.Path.{sym, ap, ◌∙◌}
use mathlib.Core.List.{List, map}
use Prim.Native.Nat.{ℕ, ◌*◌, ◌/◌}
use native.Mathlib.Omega.{arith}
use Rattle.slices.specs.Over.{over}
use Rattle.questions.proofs.Questions.{own_least}
use Rattle.equations.proofs.Vectors.{below_mono}
use Rattle.equations.proofs.Scaled.{scaled-below}
use Rattle.lines.proofs.Stored.{own_divides, plain-times}
use Rattle.lines.proofs.scale_into.Goals as goal

pub returns-then-q-m : goal.returns-then-q-m
returns-then-q-m c =
    let a = c.args in
    c.copy.ensures
    ∙ ap (λ (xs : List ℕ). over xs a.out.now)
    (sym (plain-times a.m a.q a.line.now c.requires.0 c.if-q-m.true))

pub nonzero_div-m : goal.nonzero_div-m
nonzero_div-m c =
    omega (arith, own_least c.args.m c.args.q c.requires.1)

pub multiply_into-requires : goal.multiply_into-requires
multiply_into-requires c =
    let a = c.args in
    let products = map (λ (x : ℕ). a.m / a.q * x) a.line.now in (
      below_mono a.m 4294967296 products (omega (arith, c.ranges))
          (scaled-below a.m a.q c.requires.0 (own_divides a.m a.q c.requires.1) a.line.now c.requires.2),
      c.requires.3,
    )
