-- `View::mark_all` meets its contract. The invariant: the bytes of the claims so far are written, the claims behind them are those of
-- the rest, and the rows are ready for them.
use Rattle.sheet.specs.View.{ledger_in, ReadyFor}
use Rattle.sheet.proofs.Classes.{BytesSo}
use Rattle.sheet.proofs.viewing.View.mark_all.Given as goal

abbrev pub invariant-loop-mark : goal.invariant-loop-mark
invariant-loop-mark l =
    BytesSo (ledger_in l.self) l.words l.initial.marks l.mark-index l.rest l.marks
    × ReadyFor l.self l.rows
