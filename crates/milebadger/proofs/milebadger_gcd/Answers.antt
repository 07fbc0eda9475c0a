-- `milebadger_gcd` meets its contract: the chain's two numbers are what `give` is handed.
use mathlib.Core.Path.{◌≡◌}
use Rattle.residue.specs.Chain.{chain_of}
use Rattle.milebadger.specs.Calls.{gcd_reply}
use Rattle.milebadger.proofs.Reply.{replied_on}
use Rattle.milebadger.proofs.milebadger_gcd.Goals as goal

pub returns : goal.returns
unfolding gcd_reply
returns c =
    let given = c.give in
    let called = c.gcd-chain in
    let at-start = c.args in
    let chain : called.result ≡ chain_of at-start.a at-start.b = called.ensures.value in
    rw (← chain) (replied_on given.type_inv given.ensures)
