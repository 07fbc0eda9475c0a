-- `opening::first_turns` meets its contract: the lines in the front of the array are the safe's equations, and what `solve`
-- shows of them is what is wanted.
use mathlib.Core.List.{List, ◌++◌}
use mathlib.Core.Path.{◌≡◌, sym, subst, ◌∙◌}
use Prim.Native.Nat.{ℕ, ◌+◌, ◌*◌, ◌≤◌}
use native.Mathlib.Omega.{arith}
use lib.ListN.{length, take, drop, replicate}
use lib.Seq.{length-take-le, take_at}
use Rattle.equations.specs.Lines.{equations_of}
use Rattle.system.specs.Posed.{Posed}
use Rattle.system.proofs.Written.{answer-block}
use Rattle.safe.proofs.Answer.{lines_fit, lines-posed, found_turns}
use Rattle.safe.proofs.opening.first_turns.Goals as goal

abbrev cleared : List ℕ
cleared = replicate 272 0

front_length_lem : (n : ℕ) → n ≤ 16 → length (take (n * (n + 1)) cleared) ≡ n * (n + 1)
front_length_lem n few = length-take-le (n * (n + 1)) cleared (lines_fit n few)

pub solve-requires : goal.solve-requires
solve-requires c =
    let n = length c.args.values.now in
    let s = c.lines_into in
    let long = s.auto.lines ∙ front_length_lem n c.requires.1.few in
    subst (Posed c.args.m n) (sym (take_at s.new.lines (drop (n * (n + 1)) cleared) (n * (n + 1)) long ∙ s.ensures))
    (lines-posed c.args.m c.requires.0 c.args.columns c.args.values.now c.requires.1)

pub returns : goal.returns
returns c =
    let a = c.args in
    let n = length a.values.now in
    let s = c.lines_into in
    let r = c.solve in
    let long = s.auto.lines ∙ front_length_lem n c.requires.1.few in
    let front = take_at s.new.lines (drop (n * (n + 1)) cleared) (n * (n + 1)) long ∙ s.ensures in
    λ rows count. found_turns a.m rows a.columns n r.result.len r.result.head a.values.now
    (take (n * (n + 1)) (s.new.lines ++ drop (n * (n + 1)) cleared)) r.result.numbers
    (omega (arith, c.requires.1.modulus)) c.requires.1.residues count front
    (answer-block a.m n (equations_of n (take (n * (n + 1)) (s.new.lines ++ drop (n * (n + 1)) cleared))) r.result r.ensures)
