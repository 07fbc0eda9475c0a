-- `Run::new` meets its contract: a fresh sheet reads as the unopened ledger.
use mathlib.Core.Path.{sym}
use Rattle.tape.proofs.Remaining.{lines_remaining}
use Rattle.tape.proofs.running.Run.new.Goals as goal

pub returns-clause-all : goal.returns-clause-all
returns-clause-all c = λ fits. rw c.fresh-fresh.ensures (sym (lines_remaining c.args.tape.now fits))
