-- `View::mark_all` meets its contract. The invariant: the bytes of the claims so far are written, the claims behind them are
-- those of the rest, and the rows are ready for them.
use mathlib.Core.Path.{◌≡◌, sym, ◌∙◌}
use Prim.Native.Nat.{ℕ, zero, suc, ◌<◌}
use Rattle.std.proofs.Common.{Bool, true, false, ◌==◌}
use Rattle.std.proofs.lemmas.Bool.{false≢true}
use Rattle.std.proofs.lemmas.List.{set-get_or}
use native.Mathlib.Omega.{arith}
use borrow.Author.Rules.{rules}
use Rattle.system.specs.Ready.{zeros_ready}
use Rattle.sheet.specs.Record.{ledger_of}
use Rattle.sheet.proofs.Few.{unknowns-few}
use Rattle.sheet.proofs.Classes.{bytes-none, bytes_more, bytes-all}
use Rattle.sheet.proofs.viewing.View.mark_all.Goals as goal

some_left : (n : ℕ) {b : Bool} → b ≡ (n == 0) → b ≡ false → 0 < n
some_left zero is some = let z : ◌≡◌ {A = Bool} true false = cc in absurd (false≢true (sym z))
some_left (suc n) is some = omega arith

pub loop-mark-init : goal.loop-mark-init
loop-mark-init c =
    let a = c.args in
    (bytes-none (ledger_of a.self.now.sheet.now) a.words.now a.marks.now, zeros_ready _ _ _)

pub first_claim-used-requires : goal.first_claim-used-requires
first_claim-used-requires c =
    (some_left _ c.is_empty.ensures c.if-is_empty.false, omega (arith, c.args.self.now.sees.unknowns, unknowns-few c.args.self.now.sheet.now))

pub loop-mark-preserved : goal.loop-mark-preserved
loop-mark-preserved c =
    let l = c.loop-mark in
    let byte = c.byte_of.ensures in (
      bytes_more (ledger_of c.args.self.now.sheet.now) c.args.words.now c.args.marks.now c.requires l.mark-index l.rest.now
          l.invariant.0 (some_left _ c.is_empty.ensures c.if-is_empty.false) c.args.self.now.sees.unknowns c.first_claim-used.ensures.0 byte.value,
      byte.ready,
    )

pub returns-then-is_empty : goal.returns-then-is_empty
returns-then-is_empty c =
    let l = c.loop-mark in
    set-get_or l.marks l.mark-index 0
    ∙ bytes-all (ledger_of c.args.self.now.sheet.now) c.args.words.now c.args.marks.now c.requires l.mark-index l.rest.now l.invariant.0 (search rules)
