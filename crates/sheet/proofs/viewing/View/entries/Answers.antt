-- `View::entries` meets its contract: the entries of an accepted claim are seen in the numbers.
use mathlib.Core.Path.{sym}
use native.Mathlib.Omega.{arith}
use borrow.Author.Rules.{rules}
use Rattle.sheet.specs.Record.{ledger_of}
use Rattle.sheet.proofs.Few.{unknowns-few}
use Rattle.asking.proofs.ClaimGiven.{mark_end, entries_are}
use Rattle.sheet.proofs.viewing.View.entries.Goals as goal

pub mark_refusal-requires : goal.mark_refusal-requires
mark_refusal-requires c =
    (omega (arith, c.args.self.now.sees.unknowns, unknowns-few c.args.self.now.sheet.now), search rules)

pub overflow_add-end : goal.overflow_add-end
overflow_add-end c =
    let v = c.args.self.now in
    let asked = c.in_ok-mark_refusal.ensures in
    let l = ledger_of v.sheet.now in
    let accepted = sym (asked.value l v.sees) in
    omega (arith, mark_end l c.args.words.now accepted (unknowns-few v.sheet.now) c.args.numbers.now asked.numbers_after v.sees c.wide.result c.wide.ensures)

pub overflow_mul-end : goal.overflow_mul-end
overflow_mul-end c = omega (arith, overflow_add-end c)

pub slice_bounds-result-end : goal.slice_bounds-result-end
slice_bounds-result-end c =
    let v = c.args.self.now in
    let asked = c.in_ok-mark_refusal.ensures in
    let l = ledger_of v.sheet.now in
    let accepted = sym (asked.value l v.sees) in
    omega (arith, mark_end l c.args.words.now accepted (unknowns-few v.sheet.now) c.args.numbers.now asked.numbers_after v.sees c.wide.result c.wide.ensures)

pub returns : goal.returns
returns c =
    let v = c.args.self.now in
    let asked = c.in_ok-mark_refusal.ensures in
    let l = ledger_of v.sheet.now in
    let is = asked.value l v.sees in record {
      refusal_value = is;
      entries_value = entries_are l c.args.words.now (sym is) (unknowns-few v.sheet.now) c.args.numbers.now asked.numbers_after v.sees c.wide.result
          c.wide.ensures;
    }
