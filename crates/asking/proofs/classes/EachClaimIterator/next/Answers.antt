-- The walk over the claims of a class: the next one is the first, and those behind it are left.
use mathlib.Core.Path.{refl, ap, ◌∙◌}
use Prim.Native.Nat.{◌<◌}
use native.Mathlib.Omega.{arith}
use borrow.Author.Rules.{rules}
use lib.ListN.{length}
use Rattle.slices.proofs.Parts.{lent_is}
use Rattle.ledger.specs.Classes.{claims_in}
use Rattle.ledger.proofs.Classes.{claims_taken, claims_end}
use Rattle.asking.proofs.classes.EachClaimIterator.next.Goals as goal

pub returns-then-self-eq0-clause-steps : goal.returns-then-self-eq0-clause-steps
returns-then-self-eq0-clause-steps c =
    let a = c.args.self.now in
    let none = claims_end a.n a.words.now c.if-self-eq0.true in (none, none)

pub returns-clause-steps : goal.returns-clause-steps
returns-clause-steps c =
    let a = c.args.self.now in
    let ws = a.words.now in
    let used = c.first_claim-used.result in
    let parts = c.split_at.ensures in
    claims_taken a.n ws (omega arith) c.first_claim-used.ensures.0
    ∙ rw (parts.front, parts.back, lent_is used ws) refl

pub returns-clause-goes : goal.returns-clause-goes
returns-clause-goes c =
    let a = c.args.self.now in
    let behind = c.split_at.result.1.now in
    let fewer : length (claims_in a.n behind) < length (claims_in a.n a.words.now) = omega (arith, ap length (returns-clause-steps c)) in
    record { on = λ _. (c.requires, search rules, fewer); keeps = c.requires; rests = search rules }
