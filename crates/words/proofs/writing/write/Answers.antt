-- `writing::write` meets its contract: one number more, behind those that are written.
use mathlib.Core.Path.{sym, ap, ◌∙◌}
use mathlib.Core.List.{List}
use Prim.Native.Nat.{ℕ}
use native.Mathlib.Omega.{arith}
use lib.ListN.{length, take, get_or, length-append}
use Rattle.slices.specs.Over.{over}
use Rattle.slices.proofs.Over.{over-behind}
use Rattle.slices.proofs.Parts.{lent_length}
use Rattle.words.specs.Words.{words_for, words_of}
use Rattle.words.proofs.Packed.{words_on_lem, words_parted, words_end}
use borrow.Author.Rules.{rules}
use Rattle.words.proofs.writing.write.Goals as goal

pub write_one-written-requires : goal.write_one-written-requires
write_one-written-requires c =
    let a = c.args in
    let l = c.loop-number in
    let more = words_parted a.numbers.now l.number-index (omega arith) a.kind in (
      search rules,
      omega (arith, l.invariant.place, more, lent_length l.at l.out),
    )

pub overflow_add-at : goal.overflow_add-at
overflow_add-at c =
    let a = c.args in
    let l = c.loop-number in
    omega (arith, l.invariant.place, c.write_one-written.ensures.value, words_parted a.numbers.now l.number-index (omega arith) a.kind)

pub loop-number-preserved : goal.loop-number-preserved
loop-number-preserved c =
    let a = c.args in
    let l = c.loop-number in
    let one = c.write_one-written in
    let ns = a.numbers.now in
    let more = words_on_lem ns l.number-index (omega arith) a.kind in
    let parted = length-append (words_of a.kind (take l.number-index ns)) (words_for a.kind (get_or ns l.number-index 0)) in record {
      room = search rules;
      place = omega (arith, one.ensures.value, ap length more, parted);
      written = over-behind l.at (words_of a.kind (take l.number-index ns)) (words_for a.kind (get_or ns l.number-index 0)) a.out.now
          (sym l.invariant.place) l.invariant.written one.ensures.out_after
          ∙ ap (λ (z : List ℕ). over z a.out.now) (sym more);
      fits = omega (arith, one.ensures.value, words_parted ns l.number-index (omega arith) a.kind);
    }

pub returns : goal.returns
returns c =
    let a = c.args in
    let l = c.loop-number in
    let all = words_end a.numbers.now l.number-index a.kind (omega arith) in
    record { value = l.invariant.place ∙ ap length all; out_after = l.invariant.written ∙ ap (λ (z : List ℕ). over z a.out.now) all }
