-- `Basis::needless` meets its contract: with few steps none is superfluous, and otherwise their relations tell.
use native.Mathlib.Omega.{arith}
use Rattle.system.proofs.Generators.{all_needed}
use Rattle.system.proofs.basis.Basis.needless.Goals as goal

pub returns-then-steps-free : goal.returns-then-steps-free
returns-then-steps-free c =
    let a = c.args in
    let b = a.self.now in
    let free = c.free_unknowns-free in
    all_needed b.m b.n free.result b.numbers.now a.steps.now b.readable.modulus c.requires.1 (omega arith) free.ensures.0
