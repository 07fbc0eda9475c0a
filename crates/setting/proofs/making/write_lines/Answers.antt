-- `making::write_lines` meets its contract: one row more, or too few numbers for one are left.
use mathlib.Core.Path.{ap, ◌∙◌}
use Prim.Native.Nat.{ℕ, ◌+◌}
use native.Mathlib.Omega.{arith}
use borrow.Author.Rules.{rules}
use Rattle.std.specs.Slice.Iter.{chunks_exact_rest}
use Rattle.slices.proofs.Poured.{poured_lent, poured_more, poured_all}
use Rattle.equations.specs.Lines.{equation_at}
use Rattle.setting.specs.Calls.{equation_memory}
use Rattle.setting.proofs.Written.{rows_memory, rows_step, rows_none}
use Rattle.setting.proofs.making.write_lines.Goals as goal

pub write_line-at-requires : goal.write_line-at-requires
write_line-at-requires c =
    let a = c.args in
    let l = c.loop-line in
    let step = c.in-Some.ensures.steps.1 in
    let line = c.in-Some.line.now in
    let left = chunks_exact_rest c.next.new.self in (
      c.requires.0,
      step.1 ∙ l.invariant.width,
      poured_lent (rows_memory a.n) a.lines.now a.out.now (chunks_exact_rest l.line-iterator) l.at l.out l.invariant.poured c.requires.1
          (equation_memory (equation_at a.n line)) left (rows_step a.n line left step.0 (step.1 ∙ l.invariant.width)),
    )

pub loop-line-preserved : goal.loop-line-preserved
loop-line-preserved c =
    let a = c.args in
    let l = c.loop-line in
    let steps = c.in-Some.ensures.steps in
    let step = steps.1 in
    let line = c.in-Some.line.now in
    let left = chunks_exact_rest c.next.new.self in
    let written = c.write_line-at in record {
      room = search rules;
      width = steps.0 ∙ l.invariant.width;
      poured = poured_more (rows_memory a.n) a.lines.now a.out.now (chunks_exact_rest l.line-iterator) l.at l.out l.invariant.poured c.requires.1
          (equation_memory (equation_at a.n line)) left (rows_step a.n line left step.0 (step.1 ∙ l.invariant.width))
          (l.at + written.result) (ap (λ (k : ℕ). l.at + k) written.ensures.value) written.ensures.out_after;
    }

pub returns : goal.returns
returns c =
    let a = c.args in
    let l = c.loop-line in
    let rest = chunks_exact_rest l.line-iterator in
    (poured_all (rows_memory a.n) a.lines.now a.out.now rest l.at l.out l.invariant.poured c.requires.1
    (rows_none a.n rest (omega (arith, c.in-None.ensures.steps.1.0, l.invariant.width)))).1
