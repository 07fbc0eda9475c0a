-- The invariant of `digits_of`: the digits in front of place `count` are taken, and make the value.
use Rattle.std.proofs.Common.{◌≡◌, ◌+◌, ◌<◌, length, drop}
use Rattle.grammar.specs.Model.Reader.{digits, behind}
use Rattle.typed.specs.Model.Contract.{capped_onto}
use Rattle.typed.proofs.scan.digits_of.Given as goal

abbrev pub invariant-loop-count : goal.invariant-loop-count
invariant-loop-count l =
    (l.value < 1000000)
    × (capped_onto 0 (digits l.text) ≡ capped_onto l.value (digits (drop l.count l.text)))
    × (length (digits l.text) ≡ l.count + length (digits (drop l.count l.text)))
    × (behind l.text ≡ behind (drop l.count l.text))
