-- `write_vectors` meets its contract: the part that `write_steps` is handed begins behind the starting vector.
use mathlib.Core.Path.{sym}
use native.Mathlib.Omega.{arith}
use Rattle.slices.proofs.Parts.{lent_length}
use Rattle.words.specs.Words.{entry_kind}
use Rattle.blocks.proofs.Written.{split_length, vectors-written}
use Rattle.blocks.proofs.write_vectors.Goals as goal

pub write-start-requires : goal.write-start-requires
write-start-requires c =
    let p = c.args in
    (omega arith, omega (arith, c.requires.1, split_length entry_kind p.n p.numbers.now))

pub write_steps-requires : goal.write_steps-requires
write_steps-requires c =
    let p = c.args in
    let start = c.write-start in
    omega (
      arith,
      c.requires.1,
      start.ensures.value,
      split_length entry_kind p.n p.numbers.now,
      lent_length start.result start.new.out,
    )

pub returns : goal.returns
returns c =
    let p = c.args in
    let start = c.write-start in
    let steps = c.write_steps in record {
      value = omega (arith, start.ensures.value, steps.ensures.value, split_length entry_kind p.n p.numbers.now);
      out_after = vectors-written entry_kind p.n p.numbers.now start.result p.out.now (sym start.ensures.value) start.ensures.out_after
          steps.ensures.behind_after;
    }
