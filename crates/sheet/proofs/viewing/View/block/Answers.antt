-- `View::block` meets its contract: the lines may be asked about, and are the ledger's.
use Rattle.sheet.proofs.Opened.{viewed_posed, viewed_block}
use Rattle.sheet.proofs.viewing.View.block.Goals as goal

pub solve-requires : goal.solve-requires
solve-requires c = viewed_posed c.args.self.now c.requires c.lines.ensures

pub returns : goal.returns
returns c = viewed_block c.args.self.now c.requires c.lines.ensures c.solve.ensures
