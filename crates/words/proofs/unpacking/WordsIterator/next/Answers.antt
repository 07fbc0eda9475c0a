-- The walk over the words in memory: the next one is the first, and those behind it are left.
use mathlib.Core.Path.{◌≡◌, ap}
use Prim.Native.Nat.{ℕ, ◌-◌, ◌<◌}
use native.Mathlib.Omega.{arith}
use borrow.Author.Rules.{rules}
use lib.ListN.{length, take, drop, length-drop}
use lib.Seq.{take_all}
use Rattle.words.specs.Words.{words_in}
use Rattle.words.specs.Fronts.{first_length}
use Rattle.words.proofs.Tops.{first_fits, words_first, none_there}
use Rattle.words.proofs.unpacking.WordsIterator.next.Goals as goal

pub returns-then-self-eq0-clause-steps : goal.returns-then-self-eq0-clause-steps
returns-then-self-eq0-clause-steps c =
    let none = none_there c.args.self.now.memory.now c.if-self-eq0.true in (none, none)

pub offset_bounds-self-first : goal.offset_bounds-self-first
offset_bounds-self-first c =
    let ws = c.args.self.now.memory.now in
    let fits = first_fits ws in
    let same = c.first_at-first.ensures.length_value in
    search rules

pub slice_bounds-self-count : goal.slice_bounds-self-count
slice_bounds-self-count c =
    omega (arith, c.first_at-first.ensures.length_value, first_fits c.args.self.now.memory.now)

pub slice_bounds-self-start : goal.slice_bounds-self-start
slice_bounds-self-start c = slice_bounds-self-count c

pub returns-clause-steps : goal.returns-clause-steps
returns-clause-steps c =
    let ws = c.args.self.now.memory.now in
    let first = c.first_at-first.ensures in
    let some : 0 < length ws = omega arith in
    let behind : drop c.first_at-first.result.length ws ≡ drop (first_length ws) ws = ap (λ (n : ℕ). drop n ws) first.length_value in
    rw (take_all (length ws - c.first_at-first.result.length) (drop c.first_at-first.result.length ws) (omega (arith, length-drop c.first_at-first.result.length ws)), behind, first.word_value)
    (words_first ws some)

pub returns-clause-goes : goal.returns-clause-goes
returns-clause-goes c =
    let ws = c.args.self.now.memory.now in
    let n = c.first_at-first.result.length in
    let fewer : length (words_in (take (length ws - n) (drop n ws))) < length (words_in ws) = omega (arith, ap length (returns-clause-steps c)) in
    record { on = λ _. (search rules, search rules, fewer); keeps = search rules; rests = search rules }
