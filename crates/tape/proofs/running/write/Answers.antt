-- `running::write` meets its contract. The invariant: the lines of the calls so far are at the front of out, in `at` bytes. The
-- measure is the length of the rest.
use Rattle.std.proofs.Common.{◌++◌, ℕ, List, sym, ap, ◌∙◌, arith, rules, append_assoc, length-append}
use Rattle.slices.proofs.Over.{over-behind}
use Rattle.tape.proofs.running.write.Goals as goal

pub loop-told-preserved : goal.loop-told-preserved
loop-told-preserved c =
    let l = c.loop-told in
    let told = c.in-Some.told.now in
    let (done, split, count, front) = l.invariant.1 in
    let next = rw c.in-Some.is at c.next_lines.follows.holds-at-none in (
      search rules,
      (
        done ++ told,
        split ∙ ap (λ (z : List ℕ). done ++ z) next.0 ∙ sym (append_assoc done told _),
        omega (arith, count, length-append done told),
        over-behind l.at done told c.args.out.now (sym count) front c.copy.ensures,
      ),
    )
