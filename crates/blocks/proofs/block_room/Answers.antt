-- `block_room` meets its contract: by the head it counts multipliers, or the words of entries.
use native.Mathlib.Omega.{arith}
use Rattle.words.specs.Words.{entry_kind}
use Rattle.words.proofs.Packed.{written_two}
use Rattle.blocks.proofs.block_room.Goals as goal

pub overflow_add-result-2 : goal.overflow_add-result-2
overflow_add-result-2 c =
    let a = c.args in
    omega (arith, c.written_length.ensures entry_kind, written_two entry_kind a.numbers.now)
