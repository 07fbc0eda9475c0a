-- `Sheet::mark` meets its contract: for one claim nothing is there yet of what the equations alone decide.
use Rattle.system.specs.Ready.{zeros_ready}
use Rattle.sheet.proofs.Sheet.mark.Goals as goal

pub mark_claim-requires : goal.mark_claim-requires
mark_claim-requires c = zeros_ready _ _ _
