-- `writing::written_length` meets its contract: the sum of what each number takes, two memory words at most.
use mathlib.Core.Path.{◌∙◌}
use Prim.Native.Nat.{ℕ}
use native.Mathlib.Omega.{arith}
use borrow.Author.Rules.{rules}
use borrow.Author.Tests.{tests}
use lib.ListN.{length}
use Rattle.std.proofs.lemmas.Iterator.{YieldsList-from_slice, YieldsList-from_map}
use Rattle.std.proofs.lemmas.Iterator.Consumers.{sum_from_yields_List, fits_from_yields_list}
use Rattle.words.specs.Words.{words_for}
use Rattle.words.proofs.Packed.{written_sum, written_two, written_kind}
use Rattle.words.proofs.writing.written_length.Goals as goal

abbrev length_of : ℕ → ℕ
length_of x = length (words_for 0 x)

pub sum-requires-clause-fits : goal.sum-requires-clause-fits
sum-requires-clause-fits c =
    let ns = c.args.numbers.now in
    fits_from_yields_list c.map.result _
    (YieldsList-from_map _ length_of (YieldsList-from_slice ns cc) c.map.ensures.closure (λ x r q k. search (rules, tests)))
    (omega (arith, written_sum 0 ns, written_two 0 ns, c.iter.ensures.bound))

pub returns : goal.returns
returns c = λ kind.
    let ns = c.args.numbers.now in
    sum_from_yields_List c.map.result _ c.sum.ensures.ran
    (YieldsList-from_map _ length_of (YieldsList-from_slice ns cc) c.map.ensures.closure (λ x r q k. search (rules, tests)))
    ∙ written_sum 0 ns
    ∙ written_kind 0 kind ns
