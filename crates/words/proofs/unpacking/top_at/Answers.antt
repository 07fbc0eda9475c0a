-- `unpacking::top_at` meets its contract: the memory word carries the top of the next one, or it carries none, or nothing is behind it.
use mathlib.Core.Path.{◌≡◌, sym, ap, ◌∙◌}
use Prim.Native.Nat.{◌+◌}
use native.Mathlib.Omega.{arith}
use lib.ListN.{get_or}
use Rattle.words.specs.Words.{carries, joined}
use Rattle.words.proofs.Tops.{taken_last, taken_single, taken_pair}
use Rattle.words.proofs.unpacking.top_at.Goals as goal
use Rattle.words.proofs.unpacking.top_at.Goals.{in_default-via-in-Some+else-carries, in_default-via-in_default}

pub join-requires : goal.join-requires
join-requires c = sym c.carries.ensures ∙ c.if-carries.true

pub returns-in-Some : goal.returns-in-Some
returns-in-Some c =
    let ws = c.args.memory.now in
    let i = c.args.at in
    let next = c.in-Some.ensures.lookup.3 in
    let there : c.in-Some.second.now ≡ get_or ws (i + 1) 0 = next.1 0 in
    let t = taken_pair ws i next.0 (ap (carries (get_or ws i 0)) (sym there) ∙ sym c.carries.ensures ∙ c.if-carries.true) in
    record { word_value = c.join.ensures ∙ ap (joined (get_or ws i 0)) there ∙ t.0; length_value = t.1 }

pub returns-in_default : goal.returns-in_default
returns-in_default c =
    let ws = c.args.memory.now in
    let i = c.args.at in
    let word = c.unpack.ensures in
    elim c.in_default.branch [
      | in_default-via-in-Some+else-carries w ↦
          let next = w.in-Some.ensures.lookup.3 in
          let there : w.in-Some.second.now ≡ get_or ws (i + 1) 0 = next.1 0 in
          let t = taken_single ws i next.0 (ap (carries (get_or ws i 0)) (sym there) ∙ sym w.carries.ensures ∙ w.if-carries.false) in
          record { word_value = word ∙ t.0; length_value = t.1 }
      | in_default-via-in_default w ↦
          let t = taken_last ws i (omega arith) (w.in_default.ensures.lookup.3) in record { word_value = word ∙ t.0; length_value = t.1 }
    ]
