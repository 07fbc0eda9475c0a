-- `posing::refusal` meets its contract: it asks the questions in their order, each of what is seen of the values. With room for
-- one word more than locks, the kinds tell whether there are as many values as locks; then the numbers of all are seen.
use mathlib.Core.Path.{◌≡◌, sym, ◌∙◌}
use mathlib.Core.Bool.{true}
use Prim.Native.Nat.{◌*◌}
use native.Mathlib.Omega.{arith}
use lib.ListN.{replicate}
use Rattle.std.specs.Prelude.{Some}
use Rattle.questions.specs.Questions.{allowed_modulus}
use Rattle.questions.proofs.Ladder.{let_in, turned_by, answered, refused_is}
use Rattle.equations.proofs.Truth.{of_true}
use Rattle.words.specs.Words.{entry_kind, words_in, tops_fit, have_kinds}
use Rattle.safe.proofs.Questions.{size-asked, kinds_asked, numbers_asked}
use Rattle.safe.proofs.posing.refusal.Goals as goal

pub returns-in_err-ask-3-clause-value : goal.returns-in_err-ask-3-clause-value
returns-in_err-ask-3-clause-value c =
    let p = c.args in
    let values = p.values.now in
    let u = c.unpack_into-count in
    let out = c.from_residual-in_err-ask-3 in
    let found : c.locks.result ≡ Some c.in_ok-wanted.wanted = grind arith in
    let size = size-asked p.rows p.columns (sym found ∙ c.locks.ensures) in
    let modulus : allowed_modulus p.m ≡ true = let_in 2 c.is_modulus.ensures (omega arith) c.in_ok-ask.ensures in
    let tops : tops_fit (words_in values) ≡ true = let_in 17 c.tops_fit.ensures (omega arith) c.in_ok-ask-2.ensures in
    refused_is out.result _ out.ensures.1
    (rw (modulus, size.0, tops)
    (turned_by 1 (c.run_of.ensures ∙ kinds_asked p.rows p.columns values _ u.ensures.value (of_true size.0) size.1 u.ensures.kinds_after) _ _
    c.in_err-ask-3.ensures))

pub returns-clause-value : goal.returns-clause-value
returns-clause-value c =
    let p = c.args in
    let values = p.values.now in
    let u = c.unpack_into-count in
    let found : c.locks.result ≡ Some c.in_ok-wanted.wanted = grind arith in
    let size = size-asked p.rows p.columns (sym found ∙ c.locks.ensures) in
    let modulus : allowed_modulus p.m ≡ true = let_in 2 c.is_modulus.ensures (omega arith) c.in_ok-ask.ensures in
    let tops : tops_fit (words_in values) ≡ true = let_in 17 c.tops_fit.ensures (omega arith) c.in_ok-ask-2.ensures in
    let shape : have_kinds (words_in values) (replicate (p.rows * p.columns) entry_kind) ≡ true =
    let_in 1 (c.run_of.ensures ∙ kinds_asked p.rows p.columns values _ u.ensures.value (of_true size.0) size.1 u.ensures.kinds_after) (omega arith)
    c.in_ok-ask-3.ensures in
    rw (modulus, size.0, tops, shape)
    (answered 6
    (c.all_below.ensures
    ∙ numbers_asked p.rows p.columns values _ u.ensures.value (of_true size.0) p.m (of_true shape) u.ensures.numbers_after)
    c.ask-4.ensures)
