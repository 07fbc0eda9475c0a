-- `printing::call` meets its contract, call by call.
use Rattle.tape.proofs.Picked.{picked_told, picked_call}
use Rattle.tape.proofs.printing.call.Goals as goal

pub returns-in-Opening : goal.returns-in-Opening
returns-in-Opening c =
    let a = c.args in
    picked_told a.sheet.now (picked_call a.number a.taken.now c.in-Opening.is)
    c.«open».ensures

pub returns-in-Adding : goal.returns-in-Adding
returns-in-Adding c =
    let a = c.args in
    picked_told a.sheet.now (picked_call a.number a.taken.now c.in-Adding.is)
    c.add.ensures

pub returns-in-OwnAdding : goal.returns-in-OwnAdding
returns-in-OwnAdding c =
    let a = c.args in
    picked_told a.sheet.now (picked_call a.number a.taken.now c.in-OwnAdding.is)
    c.add-in-OwnAdding.ensures

pub returns-in-Marking : goal.returns-in-Marking
returns-in-Marking c =
    let a = c.args in
    picked_told a.sheet.now (picked_call a.number a.taken.now c.in-Marking.is)
    c.mark.ensures

pub returns-in-Striking : goal.returns-in-Striking
returns-in-Striking c =
    let a = c.args in
    picked_told a.sheet.now (picked_call a.number a.taken.now c.in-Striking.is)
    c.strike.ensures

pub returns-in-Answering : goal.returns-in-Answering
returns-in-Answering c =
    let a = c.args in
    picked_told a.sheet.now (picked_call a.number a.taken.now c.in-Answering.is)
    c.answer.ensures

pub returns-in-Misplaced : goal.returns-in-Misplaced
returns-in-Misplaced c =
    let a = c.args in
    picked_told a.sheet.now (picked_call a.number a.taken.now c.in-Misplaced.is)
    c.misplaced.ensures

pub returns-in-Nothing : goal.returns-in-Nothing
returns-in-Nothing c =
    let a = c.args in
    picked_told a.sheet.now (picked_call a.number a.taken.now c.in-Nothing.is)
    c.meaningless.ensures
