-- `own::own_of` meets its contract: the first word tells.
use mathlib.Core.Path.{sym, ap, ◌∙◌}
use mathlib.Core.Bool.{cond}
use Prim.Native.Nat.{ℕ}
use native.Mathlib.Omega.{arith}
use borrow.Author.Tests.{eq-eqb}
use Rattle.questions.specs.Questions.{allowed_own}
use Rattle.words.specs.Words.{own_modulus_kind}
use Rattle.words.specs.Fronts.{first_word}
use Rattle.words.proofs.Tops.{first_fits}
use Rattle.words.proofs.Words.{kind_of, number_of}
use Rattle.asking.proofs.Owned.{own_nothing, own_by_first, own_plain, own_given, either_so}
use Rattle.asking.proofs.own.own_of.Goals as goal

pub returns-then-words-eq0 : goal.returns-then-words-eq0
returns-then-words-eq0 c =
    let m = c.args.m in
    let is = c.plain.ensures in
    let own = own_plain m c.args.words.now (own_nothing c.args.words.now c.if-words-eq0.true) in record { allowed_value = is.0 ∙ ap (allowed_own m) own.0; modulus_value = is.1 ∙ either_so c.plain.result.allowed own.0; behind_value = (is.2 ∙ own.1, omega (arith, is.2)) }

pub returns : goal.returns
returns c =
    let m = c.args.m in
    let ws = c.args.words.now in
    let is = c.given.ensures in
    let first = c.first_at-first.ensures in
    let same = eq-eqb (first_word ws).kind own_modulus_kind (sym (ap kind_of first.word_value) ∙ c.if-word-ne-OWN_MODULUS.false) in
    let own = own_given m ws (omega arith) (own_by_first ws (omega arith) ∙ same) in
    let number = ap number_of first.word_value ∙ own.0 in record { allowed_value = is.0 ∙ ap (allowed_own m) number; modulus_value = is.1 ∙ ap (λ (q : ℕ). cond c.given.result.allowed q m) number; behind_value = (is.2 ∙ first.length_value ∙ own.1, omega (arith, is.2, first.length_value, first_fits ws)) }
