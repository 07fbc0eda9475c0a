-- `reasoning::show` meets its contract: 8 is asked of what the numbers count by the modulus, and they are residues, so that their words fit.
use mathlib.Core.Path.{ap, ◌∙◌}
use Rattle.std.specs.Prelude.{Err}
use Prim.Native.Nat.{ℕ, ◌*◌}
use native.Mathlib.Omega.{arith}
use lib.ListN.{length}
use Rattle.slices.specs.Over.{over}
use Rattle.questions.specs.Refusals.{by_number}
use Rattle.questions.proofs.Ladder.{let_in_le, turned_only, turned_lt, handed_on}
use Rattle.words.specs.Words.{words_of}
use Rattle.ledger.proofs.Blocks.{written-fits}
use Rattle.sheet.proofs.Reasoned.{show_short, show_wrote}
use borrow.Author.Rules.{rules}
use Rattle.sheet.proofs.reasoning.show.Goals as goal
use Rattle.sheet.specs.Calls.{said}

pub returns-in_err-ask : goal.returns-in_err-ask
returns-in_err-ask c =
    let a = c.args in
    let room = ap (λ (k : ℕ). length a.numbers.now * k) c.counts_for.ensures.0 in
    let out = c.from_residual in
    let refusal = c.in_err-ask.field-0.0 in
    let both = show_short a.m a.reason a.numbers.now a.buffer.now (omega (arith, room, turned_lt 8 _ _ refusal c.in_err-ask.ensures)) in
    record { value = ap by_number (handed_on out.result refusal out.ensures.1) ∙ ap Err (turned_only 8 _ refusal c.in_err-ask.ensures) ∙ both.0; buffer_after = both.1 }

pub write-written-requires : goal.write-written-requires
write-written-requires c =
    let a = c.args in
    let room = ap (λ (k : ℕ). length a.numbers.now * k) c.counts_for.ensures.0 in (
      search rules,
      omega (arith, room, let_in_le 8 _ _ (omega arith) c.in_ok-ask.ensures, written-fits a.m c.kind_of-kind.result a.numbers.now c.requires),
    )

pub returns : goal.returns
returns c =
    let a = c.args in
    let numbers = a.numbers.now in
    let old = a.buffer.now in
    let room = ap (λ (k : ℕ). length numbers * k) c.counts_for.ensures.0 in
    let wrote = show_wrote a.m a.reason numbers old (omega (arith, room, let_in_le 8 _ _ (omega arith) c.in_ok-ask.ensures)) in
    let kind = c.kind_of-kind.ensures.0 in record { value = ap (said a.reason) (c.write-written.ensures.value ∙ ap (λ (k : ℕ). length (words_of k numbers)) kind) ∙ wrote.0; buffer_after = c.write-written.ensures.out_after ∙ ap (λ (k : ℕ). over (words_of k numbers) old) kind ∙ wrote.1 }
