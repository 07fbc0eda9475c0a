-- `combine_all` meets its contract, entry by entry.
use Rattle.std.proofs.Common.{◌+◌, ◌*◌, ◌%◌, get_or, rules}
use Rattle.typed.proofs.Entries.{from_fn_same, combine_made}
use Rattle.typed.proofs.forms.combine_all.Goals as goal

pub returns : goal.returns
returns c =
    let x = c.args in
    combine_made x.m x.s x.t x.a.now x.b.now _ 16 (search rules) (search rules) (search rules)
    (from_fn_same (λ j. (x.s * get_or x.a.now j 0 + x.t * get_or x.b.now j 0) % x.m) (λ i y q k. search rules) 0 _ 16
    c.from_fn.ensures.items)
