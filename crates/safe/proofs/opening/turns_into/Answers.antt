-- `opening::turns_into` meets its contract: `first_turns` tells the turns that are written, or that there are none.
use mathlib.Core.List.{List}
use mathlib.Core.Option.{none, some}
use mathlib.Core.Path.{◌≡◌, ap, ◌∙◌}
use Prim.Native.Nat.{ℕ, ◌*◌}
use native.Mathlib.Omega.{arith}
use lib.ListN.{length, take}
use lib.Seq.{length-take-le}
use Rattle.system.specs.declared.solving.Answer.{Answer}
use Rattle.std.specs.Prelude.{Err}
use Rattle.questions.specs.Refusals.{by_number}
use Rattle.questions.proofs.Ladder.{let_in_le, turned_only, turned_lt, handed_on}
use Rattle.words.specs.Words.{entry_kind}
use Rattle.safe.specs.Turned.{gives_turns}
use Rattle.safe.specs.Turns.{turns_of}
use Rattle.safe.specs.Model.Handed.{Lockable, Found}
use Rattle.safe.proofs.Answer.{found_none, found_some}
use Rattle.safe.proofs.Calls.{no_turns, too_short, wrote}
use borrow.Author.Rules.{rules}
use Rattle.safe.proofs.opening.turns_into.Goals as goal

-- what the first numbers of an answer are, where its head is not 0
record Shown (m columns : ℕ) (values turns : List ℕ) : Type 0 where
  are : (rows : ℕ) → rows * columns ≡ length values → turns_of m rows columns values ≡ some turns
  long : length turns ≡ length values

module _ (m columns : ℕ) (values : List ℕ) (answer : Answer)
    (tells : (rows : ℕ) → rows * columns ≡ length values
    → Found (length values) (turns_of m rows columns values) answer.head answer.numbers) where
  nothing : answer.head ≡ 0 → (rows : ℕ) → rows * columns ≡ length values → turns_of m rows columns values ≡ none
  nothing h rows count =
      found_none (length values) answer.head (turns_of m rows columns values) answer.numbers (tells rows count) h

  shows : (answer.head ≡ 0 → ⊥) → (safe : (rows : ℕ) × Lockable m rows columns values) → length answer.numbers ≡ 272
      → Shown m columns values (take (length values) answer.numbers)
  shows h (rows, safe) size = record {
    are = are;
    long = length-take-le (length values) answer.numbers (omega (arith, size, safe.few));
  }
    where
      are : (rows : ℕ) → rows * columns ≡ length values
          → turns_of m rows columns values ≡ some (take (length values) answer.numbers)
      are rows count =
          found_some (length values) answer.head (turns_of m rows columns values) answer.numbers (tells rows count) h

pub returns-then-answer-eq0 : goal.returns-then-answer-eq0
returns-then-answer-eq0 c =
    let first = c.first_turns-answer in
    let p = c.args in
    λ rows count.
    no_turns p.out.now
    (nothing p.m p.columns p.values.now first.result first.ensures c.if-answer-eq0.true rows count)

pub returns-in_err-ask : goal.returns-in_err-ask
returns-in_err-ask c =
    let first = c.first_turns-answer in
    let p = c.args in
    let size : length first.result.numbers ≡ 272 = search rules in
    let shown =
    shows p.m p.columns p.values.now first.result first.ensures c.if-answer-eq0.false c.requires size in
    let long = c.written_length.ensures entry_kind in
    let out = c.from_residual in
    let refusal = c.in_err-ask.field-0.0 in
    λ rows count.
    let both =
    too_short p.out.now (take (length p.values.now) first.result.numbers) (shown.are rows count)
    (omega (arith, long, turned_lt 8 _ _ refusal c.in_err-ask.ensures)) in
    (ap by_number (handed_on out.result refusal out.ensures.1) ∙ ap Err (turned_only 8 _ refusal c.in_err-ask.ensures) ∙ both.0, both.1)

pub returns : goal.returns
returns c =
    let first = c.first_turns-answer in
    let p = c.args in
    let size : length first.result.numbers ≡ 272 = search rules in
    let shown =
    shows p.m p.columns p.values.now first.result first.ensures c.if-answer-eq0.false c.requires size in
    let long = c.written_length.ensures entry_kind in
    let written = c.write.ensures in
    λ rows count.
    let given =
    wrote p.out.now (take (length p.values.now) first.result.numbers) (shown.are rows count) (omega (arith, long, let_in_le 8 _ _ (omega arith) c.in_ok-ask.ensures)) in
    (ap gives_turns written.value ∙ given.0, written.out_after ∙ given.1)
