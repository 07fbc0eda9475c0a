-- `marking::mark` meets its contract: each way out has the outcomes of the parts that lead to it.
use mathlib.Core.Path.{refl, sym, ◌∙◌}
use borrow.Author.Tests.{not-true, not-false}
use Rattle.system.specs.Ready.Kept.{prepared_ready}
use Rattle.system.proofs.Marks.{not_solved, solved, mark-fails, mark-right}
use Rattle.system.proofs.Claims.{claim_right_for}
use Rattle.system.proofs.Prepared.{prepared_front}
use Rattle.system.proofs.marking.mark.Goals as goal

-- something that is described does not solve the lines
pub returns-then-not-claim_solves : goal.returns-then-not-claim_solves
returns-then-not-claim_solves c =
    let a = c.args in
    let first = c.claim_solves in record {
      value = mark-fails a.m a.n _ _ _
          (not_solved a.m a.n a.lines.now a.claim.now c.requires.0 c.requires.2 first.result first.ensures (not-true _ c.if-not-claim_solves.true-raw))
          refl;
      ready = c.requires.1;
    }

-- a solution is missing
pub returns-then-not-misses_none : goal.returns-then-not-misses_none
returns-then-not-misses_none c =
    let a = c.args in
    let first = c.claim_solves in
    let there = c.prepare.ensures in
    let size = c.packed_size-size in
    let second = c.misses_none in record {
      value = mark-fails a.m a.n _ _ second.result
          (solved a.m a.n a.lines.now a.claim.now c.requires.0 c.requires.2 first.result first.ensures
          (not-false _ c.if-not-claim_solves.false-raw) _ (prepared_front a.m a.n a.lines.now _ there size.result size.ensures).rows
          second.result second.ensures)
          (not-true _ c.if-not-misses_none.true-raw);
      ready = prepared_ready _ _ _ _ there;
    }

-- it is right
pub returns : goal.returns
returns c =
    let a = c.args in
    let first = c.claim_solves in
    let there = c.prepare.ensures in
    let size = c.packed_size-size in
    let second = c.misses_none in
    let long = c.long_at-step in
    let based = prepared_front a.m a.n a.lines.now _ there size.result size.ensures in
    let right = solved a.m a.n a.lines.now a.claim.now c.requires.0 c.requires.2 first.result first.ensures
    (not-false _ c.if-not-claim_solves.false-raw) _ based.rows second.result second.ensures in
    let yes = not-false _ c.if-not-misses_none.false-raw in record {
      value = c.right_mark.ensures _ (long.ensures _ (claim_right_for a.m a.n a.lines.now a.claim.now c.requires.2 _ based.rows (sym right ∙ yes)))
          ∙ mark-right a.m a.n _ _ second.result right yes _ refl;
      ready = prepared_ready _ _ _ _ there;
    }
