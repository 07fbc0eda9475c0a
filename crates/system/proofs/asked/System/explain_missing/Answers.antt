-- `finding::explain_missing` meets its contract: the place where a step is missing decides, and a solution is read off there. Where none is
-- missing, the first superfluous step is named.
use mathlib.Core.Path.{refl, sym}
use native.Mathlib.Omega.{arith}
use lib.Seq.{length-take-le}
use Rattle.equations.proofs.Vectors.{vector-length, vector-below}
use Rattle.system.specs.Ready.{zeros_ready}
use Rattle.system.proofs.Placed.{placed_none, placed_some}
use Rattle.system.proofs.Prepared.{prepared_front}
use Rattle.system.proofs.Explained.{found_right_for, found_right, found_above, found_missed}
use Rattle.system.proofs.asked.System.explain_missing.Goals as goal

pub prepare-requires : goal.prepare-requires
prepare-requires c =
    zeros_ready c.args.self.now.m c.args.self.now.n c.args.self.now.lines.now

pub missed_into-requires : goal.missed_into-requires
missed_into-requires c =
    let a = c.args in
    let s = a.self.now in
    let start = a.start.now in
    let size = c.packed_size-size in
    let based = prepared_front s.m s.n s.lines.now _ c.prepare.ensures size.result size.ensures in
    let place = placed_some _ c.in-Some.place c.in-Some.ensures in
    let above = found_above s.m s.n s.lines.now _ start a.steps.now s.posed based c.requires.formed.0 c.requires.formed.1
    c.requires.start_value.0 c.requires.start_value.1 c.in-Some.place place.0 place.1 in record {
      start_below = (
        vector-length s.m s.n start c.requires.formed.0,
        vector-below s.m s.n start c.requires.formed.0,
        length-take-le s.n a.shown.now (omega (arith, s.posed.unknowns)),
      );
      place_nonzero = (omega (arith, place.1), above.0, above.1);
    }

-- a solution is not described
pub returns-in-Some : goal.returns-in-Some
returns-in-Some c =
    let a = c.args in
    let s = a.self.now in
    let size = c.packed_size-size in
    let place = placed_some _ c.in-Some.place c.in-Some.ensures in
    let v = c.missed_into in
    let both = found_missed s.m s.n s.lines.now _ a.start.now a.steps.now s.posed
    (prepared_front s.m s.n s.lines.now _ c.prepare.ensures size.result size.ensures) c.requires.formed.0 c.requires.formed.1
    c.requires.start_value.0 c.requires.start_value.1 c.in-Some.place place.0 place.1 v.new.out a.shown.now v.ensures in record { value = both.0; shown_after = both.1 }

-- no step is missing
pub returns : goal.returns
returns c =
    let a = c.args in
    let s = a.self.now in
    let size = c.packed_size-size in
    let step = c.needless-step in
    let none = sym (placed_none _ c.in_default.ensures) in
    let based = prepared_front s.m s.n s.lines.now _ c.prepare.ensures size.result size.ensures in
    let right = found_right_for s.m s.n s.lines.now _ a.start.now a.steps.now s.posed based c.requires.formed.0 c.requires.formed.1
    c.requires.start_value.0 c.requires.start_value.1 0 none refl in
    let both = found_right s.m s.n s.lines.now _ a.start.now a.steps.now s.posed based c.requires.formed.0 c.requires.formed.1
    c.requires.start_value.0 c.requires.start_value.1 0 none refl _ refl c.right_reason.result
    (c.right_reason.ensures _ (step.ensures _ a.start.now right)) a.shown.now in record { value = both.0; shown_after = both.1 }
