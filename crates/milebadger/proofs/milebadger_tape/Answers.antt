-- `milebadger_tape` meets its contract: `count` says whether the lines fit, and where they do, `write` writes them.
use mathlib.Core.Path.{◌≡◌}
use mathlib.Core.List.{List}
use Prim.Native.Nat.{ℕ, ◌≤◌, ◌<◌}
use native.Mathlib.Omega.{arith}
use borrow.Author.Tests.{le-leb, lt-leb}
use lib.ListN.{length}
use Rattle.questions.specs.Reply.{refuses}
use Rattle.tape.specs.Output.{most_bytes, lines}
use Rattle.milebadger.specs.Calls.{block_reply, tape_reply}
use Rattle.milebadger.proofs.Reply.{short_replied, gives-written, refuses_replied, replied_on}
use Rattle.milebadger.proofs.milebadger_tape.Goals as goal

too_long : (bytes : List ℕ) → most_bytes < length bytes → tape_reply bytes ≡ refuses 10
unfolding tape_reply
too_long bytes long = rw (lt-leb (length bytes) most_bytes long)

told : (bytes : List ℕ) → length bytes ≤ most_bytes → tape_reply bytes ≡ block_reply (lines bytes)
unfolding tape_reply
told bytes fits = rw (le-leb (length bytes) most_bytes fits)

-- the tape is too long
pub returns-then-tape-gt-LARGEST : goal.returns-then-tape-gt-LARGEST
returns-then-tape-gt-LARGEST c =
    let tape = c.args.tape.now in
    rw (too_long tape (omega arith)) (replied_on c.refuse.type_inv (refuses_replied c.refuse.ensures))

-- its lines do not fit
pub returns-then-out-size : goal.returns-then-out-size
returns-then-out-size c =
    let a = c.args in
    let tape = a.tape.now in
    rw (told tape (omega arith))
    (replied_on c.refuse-then-out-size.type_inv (short_replied (length (lines tape)) (lines tape) a.out.now (omega (arith, c.count-size.ensures)) c.refuse-then-out-size.ensures))

-- they do
pub returns : goal.returns
returns c =
    let a = c.args in
    let tape = a.tape.now in
    let count = c.count-size in
    rw (told tape (omega arith))
    (gives-written (length (lines tape)) (lines tape) a.out.now count.result count.ensures (omega arith)
    (omega (arith, count.ensures)) c.write.ensures)
