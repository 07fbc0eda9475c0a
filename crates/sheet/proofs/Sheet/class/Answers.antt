-- `Sheet::class` meets its contract: a refused class writes nothing, and the claims of an accepted one are marked.
use mathlib.Core.Path.{refl, sym, ap, ◌∙◌}
use Rattle.questions.specs.Refusals.{by_number}
use Rattle.questions.proofs.Ladder.{number_not, handed_on}
use Rattle.sheet.specs.Record.{ledger_of}
use Rattle.sheet.proofs.Classes.{class_refused, class_fits, class_counted, class_marked}
use Rattle.sheet.proofs.Sheet.class.Goals as goal

pub returns-in_err-class_refusal : goal.returns-in_err-class_refusal
returns-in_err-class_refusal c =
    let a = c.args in
    let l = ledger_of a.sheet.now in
    let sees = c.seen-seen.ensures.sees in
    let out = c.from_residual in
    let refusal = c.in_err-class_refusal.field-0.0 in
    let asked = c.in_err-class_refusal.ensures l a.words.now a.marks.now sees c.claims-count.ensures refl in
    let both = class_refused l a.words.now a.marks.now asked (number_not refusal) in
    record { value = ap by_number (handed_on out.result refusal out.ensures.1) ∙ both.0; marks_after = both.1 }

pub mark_all-requires : goal.mark_all-requires
mark_all-requires c =
    let a = c.args in
    let l = ledger_of a.sheet.now in
    let accepted = sym (c.in_ok-class_refusal.ensures l a.words.now a.marks.now c.seen-seen.ensures.sees c.claims-count.ensures refl) in
    class_fits l a.words.now a.marks.now accepted

pub returns : goal.returns
returns c =
    let a = c.args in
    let l = ledger_of a.sheet.now in
    let sees = c.seen-seen.ensures.sees in
    let counted = c.claims-count.ensures in
    let accepted = sym (c.in_ok-class_refusal.ensures l a.words.now a.marks.now sees counted refl) in
    let both = class_marked l a.words.now a.marks.now accepted
    (class_counted l a.words.now a.marks.now accepted sees.unknowns counted) c.mark_all.ensures in record { value = both.0; marks_after = both.1 }
