-- `Sheet::is_opened` meets its contract: the tests of a readable sheet, one after the other. The equations lie in the cells
-- because both limits were tested before.
use mathlib.Core.Path.{◌≡◌, refl, sym, ap, ap₂, subst, ◌∙◌}
use mathlib.Core.Bool.{Bool, true}
use Prim.Native.Nat.{ℕ, ◌+◌, ◌*◌, ◌≤◌}
use native.Mathlib.Nat.{mul-le-mul}
use native.Mathlib.Omega.{arith}
use borrow.Author.Rules.{rules}
use borrow.Author.Tests.{not-true, not-false, leb-true}
use lib.Dec.{leb}
use mir.Facts.{and_yes}
use Rattle.equations.specs.Multipliers.{all_below}
use Rattle.equations.specs.Lines.{equations_of}
use Rattle.equations.proofs.Truth.{true_of, of_true}
use Rattle.lines.specs.Stored.{all_fit}
use Rattle.ledger.specs.Questions.{allowed_unknowns}
use Rattle.sheet.specs.Record.{modulus_in}
use Rattle.sheet.proofs.Opened.{lines_to_lem, own_to, modulus_not, unknowns_not, equations_not, residues_not, moduli_decide}
use Rattle.sheet.proofs.Sheet.is_opened.Goals as goal

module _ (n held : ℕ) (allowed : allowed_unknowns n ≡ true) (few : held ≤ 16) where
  lines_fit : (n ≤ 16) × (held * (n + 1) ≤ 272)
  lines_fit =
      let unknowns = leb-true n 16 (true_of (leb n 16) (and_yes (leb 1 n) (leb n 16) (of_true allowed)).1) in
      (unknowns, mul-le-mul {n₁ = held} {m₁ = n + 1} {n₂ = 16} {m₂ = 17} few (omega (arith, unknowns)))

-- the unknowns as the sheet has them
as_read : {n m : ℕ} {b : Bool} → n ≡ m → allowed_unknowns n ≡ b → allowed_unknowns m ≡ b
as_read {n} {m} {b} same = subst (λ (k : ℕ). allowed_unknowns k ≡ b) same

pub returns-then-not-is_modulus : goal.returns-then-not-is_modulus
returns-then-not-is_modulus c = sym (modulus_not c.args.sheet.now (sym c.is_modulus.ensures ∙ not-true _ c.if-not-is_modulus.true-raw))

pub returns-then-not-are_unknowns : goal.returns-then-not-are_unknowns
returns-then-not-are_unknowns c =
    sym (unknowns_not c.args.sheet.now (sym c.is_modulus.ensures ∙ not-false _ c.if-not-is_modulus.false-raw)
    (as_read c.wide-n.ensures (sym c.are_unknowns.ensures ∙ not-true _ c.if-not-are_unknowns.true-raw)))

pub returns-then-held-gt-EQUATIONS : goal.returns-then-held-gt-EQUATIONS
returns-then-held-gt-EQUATIONS c =
    sym (equations_not c.args.sheet.now (sym c.is_modulus.ensures ∙ not-false _ c.if-not-is_modulus.false-raw)
    (as_read c.wide-n.ensures (sym c.are_unknowns.ensures ∙ not-false _ c.if-not-are_unknowns.false-raw)) (omega (arith, c.wide-held.ensures)))

pub returns-then-not-all_below : goal.returns-then-not-all_below
returns-then-not-all_below c =
    let s = c.args.sheet.now in
    let n = c.wide-n.ensures in
    let held = c.wide-held.ensures in
    let modulus = sym c.is_modulus.ensures ∙ not-false _ c.if-not-is_modulus.false-raw in
    let unknowns = as_read n (sym c.are_unknowns.ensures ∙ not-false _ c.if-not-are_unknowns.false-raw) in
    let below =
    sym (ap (all_below (modulus_in s)) (lines_to_lem s _ refl n held)) ∙ sym c.all_below.ensures in
    sym (residues_not s modulus unknowns (omega (arith, held)) (search rules) (below ∙ not-true _ c.if-not-all_below.true-raw))

pub returns : goal.returns
returns c =
    let s = c.args.sheet.now in
    let n = c.wide-n.ensures in
    let held = c.wide-held.ensures in
    let modulus = sym c.is_modulus.ensures ∙ not-false _ c.if-not-is_modulus.false-raw in
    let unknowns = as_read n (sym c.are_unknowns.ensures ∙ not-false _ c.if-not-are_unknowns.false-raw) in
    let below =
    sym (ap (all_below (modulus_in s)) (lines_to_lem s _ refl n held)) ∙ sym c.all_below.ensures in
    c.lines_fit.ensures
    ∙ ap₂ (all_fit (modulus_in s)) (own_to s held (omega (arith, held)))
    (ap₂ equations_of n (lines_to_lem s _ refl n held))
    ∙ sym (moduli_decide s modulus unknowns (omega (arith, held)) (search rules) (below ∙ not-false _ c.if-not-all_below.false-raw))
