-- `making::make` meets its contract: the rows that were made are read as equations, whose words are written.
use mathlib.Core.Path.{sym, ap, ◌∙◌}
use mathlib.Core.List.{List}
use Prim.Native.Nat.{◌+◌, ◌*◌}
use native.Mathlib.Omega.{arith}
use lib.ListN.{length}
use lib.Seq.{length-take-le}
use Rattle.std.specs.Prelude.{Ok, Err}
use Rattle.slices.specs.Over.{over}
use Rattle.questions.specs.Refusals.{by_number}
use Rattle.questions.proofs.Ladder.{let_in_le, turned_only, turned_lt, handed_on}
use Rattle.questions.proofs.Reply.{gives-short, gives-written}
use Rattle.equations.specs.Equation.{Equation}
use Rattle.system.specs.Claims.{claim_of}
use Rattle.system.specs.Wanted.{wanted_of}
use Rattle.setting.specs.Calls.{sheet_room, sheet_memory}
use Rattle.setting.proofs.Wantable.{made-fits, made-room, made-read}
use Rattle.setting.proofs.making.make.Goals as goal

pub returns-in_err-ask : goal.returns-in_err-ask
returns-in_err-ask c =
    let a = c.args in
    let es = wanted_of a.m a.n (claim_of a.n a.claim.now) in
    let out = c.from_residual in
    let refusal = c.in_err-ask.field-0.0 in
    let both = gives-short Err a.out.now (sheet_room a.n) (Ok (length es)) (sheet_memory es) (turned_lt 8 _ _ refusal c.in_err-ask.ensures) in
    (ap by_number (handed_on out.result refusal out.ensures.1) ∙ ap Err (turned_only 8 _ refusal c.in_err-ask.ensures) ∙ both.0, both.1)

pub overflow_mul-end : goal.overflow_mul-end
overflow_mul-end c =
    let made = c.lines_for-count in
    omega (arith, made-room c.args.m c.args.n c.args.claim.now c.requires made.result made.ensures.value)

pub slice_bounds-lines-end : goal.slice_bounds-lines-end
slice_bounds-lines-end c =
    let made = c.lines_for-count in
    omega (arith, made-room c.args.m c.args.n c.args.claim.now c.requires made.result made.ensures.value, made.auto.lines)

pub slice_bounds-write_lines-end : goal.slice_bounds-write_lines-end
slice_bounds-write_lines-end c =
    let made = c.lines_for-count in
    sym (length-take-le (made.result * (c.args.n + 1)) made.new.lines
    (omega (arith, made-room c.args.m c.args.n c.args.claim.now c.requires made.result made.ensures.value, made.auto.lines)))

pub write_lines-requires : goal.write_lines-requires
write_lines-requires c =
    let a = c.args in
    let rows = c.lines_for-count in
    let read = made-read a.m a.n a.claim.now c.requires rows.result rows.ensures.value _ rows.ensures.lines_after in (
      c.requires.unknowns,
      omega (
        arith,
        ap (λ (es : List Equation). length (sheet_memory es)) read,
        made-fits a.m a.n a.claim.now c.requires,
        let_in_le 8 _ _ (omega arith) c.in_ok-ask.ensures,
      ),
    )

pub returns : goal.returns
returns c =
    let a = c.args in
    let old = a.out.now in
    let es = wanted_of a.m a.n (claim_of a.n a.claim.now) in
    let rows = c.lines_for-count in
    let read = made-read a.m a.n a.claim.now c.requires rows.result rows.ensures.value _ rows.ensures.lines_after in
    let given =
    gives-written Err old (sheet_room a.n) (Ok (length es)) (sheet_memory es)
    (omega (arith, let_in_le 8 _ _ (omega arith) c.in_ok-ask.ensures)) in (
      ap Ok rows.ensures.value ∙ given.0,
      c.write_lines.ensures ∙ ap (λ (fs : List Equation). over (sheet_memory fs) old) read ∙ given.1,
    )
