-- `unpacking::read_into` meets its contract: the iterator gives the words one after the other, until none is left or no room.
use mathlib.Core.Path.{◌≡◌, refl, sym, ap, ◌∙◌}
use Prim.Native.Nat.{ℕ, zero, suc, ◌+◌, ◌<◌, ◌≤◌, min}
use native.Mathlib.Omega.{arith}
use lib.ListN.{length, length-set}
use Rattle.words.specs.declared.unpacking.Word.{Word}
use Rattle.words.specs.Words.{words_in}
use Rattle.words.proofs.Walked.{reached_none, reached_more, reached_on, reached_part, reached_end}
use Rattle.words.proofs.Unpacked.{unpacked_none, unpacked_more, unpacked_all}
use Rattle.words.proofs.unpacking.read_into.Goals as goal

pub loop-word-init : goal.loop-word-init
loop-word-init g c =
    let a = c.args in
    let room = length a.kinds.now in record {
      room = rw (c.into_iter-word-iterator.ensures.into_iter_gives, c.take-word-items.ensures.count) (omega arith);
      past = rw (c.into_iter-word-iterator.ensures.into_iter_gives, c.take-word-items.ensures.source) (reached_none (words_in a.memory.now));
      kinds = refl;
      numbers = sym c.requires.room;
      written = λ part h. (
        unpacked_none (λ w. (part w).kind) room a.memory.now a.kinds.now,
        unpacked_none (λ w. (part w).number) room a.memory.now a.numbers.now,
      );
    }

pub bounds-kinds-count : goal.bounds-kinds-count
bounds-kinds-count g c = omega (arith, c.in-Some.ensures.steps.1)

pub loop-word-preserved : goal.loop-word-preserved
loop-word-preserved g c =
    let a = c.args in
    let l = c.loop-word in
    let ws = a.memory.now in
    let all = words_in ws in
    let room = length a.kinds.now in
    let step = c.in-Some.ensures.steps in
    let past = l.invariant.past in
    let more = reached_more all l.count past step.0 in
    let part_of = reached_part all l.count past step.0 in record {
      room = omega (arith, step.1);
      past = reached_on all l.count past step.0;
      kinds = length-set l.kinds l.count c.read-said.result.kind ∙ l.invariant.kinds;
      numbers = length-set l.numbers l.count c.read-said.result.number ∙ l.invariant.numbers;
      written = λ part h.
          let said = h c.in-Some.word c.read-said.result c.read-said.ensures in
          let so_far = l.invariant.written part h in (
            unpacked_more (λ w. (part w).kind) room ws a.kinds.now l.count so_far.0 (omega (arith, step.1)) more (omega (arith, step.1))
                (ap (λ (w : Word). w.kind) said ∙ sym (part_of (λ w. (part w).kind))),
            unpacked_more (λ w. (part w).number) room ws a.numbers.now l.count so_far.1 (omega (arith, step.1)) more (omega (arith, step.1, c.requires.room))
                (ap (λ (w : Word). w.number) said ∙ sym (part_of (λ w. (part w).number))),
          );
    }

-- no room is left, or no word
lesser : (room all i left : ℕ) → i + left ≡ room → i ≤ all → (0 < left → i ≡ all) → i ≡ min room all
lesser room all i zero e few end = omega arith
lesser room all i (suc left) e few end = omega (arith, end (omega arith))

pub returns-clause-value : goal.returns-clause-value
returns-clause-value g c =
    let l = c.loop-word in
    let all = words_in c.args.memory.now in
    let past = l.invariant.past in
    lesser (length c.args.kinds.now) (length all) l.count l.word-iterator.n l.invariant.room past.0
    (λ some. reached_end all l.count past (c.in-None.ensures.steps some).0)

pub returns-clause-kinds_after : goal.returns-clause-kinds_after
returns-clause-kinds_after g c = λ part h.
    let a = c.args in
    let l = c.loop-word in
    unpacked_all (λ w. (part w).kind) (length a.kinds.now) a.memory.now a.kinds.now l.count (l.invariant.written part h).0 (returns-clause-value g c)

pub returns-clause-numbers_after : goal.returns-clause-numbers_after
returns-clause-numbers_after g c = λ part h.
    let a = c.args in
    let l = c.loop-word in
    unpacked_all (λ w. (part w).number) (length a.kinds.now) a.memory.now a.numbers.now l.count (l.invariant.written part h).1 (returns-clause-value g c)
