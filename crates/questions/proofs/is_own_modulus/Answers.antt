-- `is_own_modulus` meets its contract: it makes both tests.
use native.Mathlib.Omega.{arith}
use borrow.Author.Tests.{le-leb, lt-leb}
use Rattle.questions.proofs.is_own_modulus.Goals as goal

pub returns-then-q-ge2 : goal.returns-then-q-ge2
returns-then-q-ge2 c = rw (le-leb 2 c.args.q (omega arith))

pub returns-else-q-ge2 : goal.returns-else-q-ge2
returns-else-q-ge2 c = rw (lt-leb 2 c.args.q (omega arith))
