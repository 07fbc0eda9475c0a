-- What is made for a claim that every question lets in, in numbers and in words.
--   wantable_wants    it is what is wanted
--   wantable_room     n equations have room in the array of rows,
--   made-room         and so have those that are made
--   made-read         they are read off their rows
--   made-fits         their words fit into the room that is asked for
use mathlib.Core.Path.{◌≡◌, sym, ap, ◌∙◌}
use mathlib.Core.List.{List}
use Prim.Native.Nat.{ℕ, ◌+◌, ◌*◌, ◌≤◌}
use native.Mathlib.Nat.{mul-le-mul}
use native.Mathlib.Omega.{arith}
use lib.ListN.{length, take}
use Rattle.slices.specs.Over.{over}
use Rattle.slices.proofs.Over.{over-front}
use Rattle.equations.specs.Equation.{Equation}
use Rattle.equations.specs.Lines.{equations_of, as_rows}
use Rattle.equations.specs.Wanted.{Wants}
use Rattle.equations.proofs.Lines.{rows-length, rows_back}
use Rattle.system.specs.Claims.{claim_of}
use Rattle.system.specs.Wanted.{wanted_of}
use Rattle.system.proofs.Claims.{claim_formed}
use Rattle.system.proofs.Relations.{lines-few}
use Rattle.system.proofs.Wanted.{every_claim_has_sheet}
use Rattle.setting.specs.Calls.{sheet_room, sheet_memory}
use Rattle.setting.specs.Model.Handed.{Wantable}
use Rattle.setting.proofs.Written.{memory-fits}

module _ (m n : ℕ) (claim : List ℕ) (w : Wantable m n claim) where
  abbrev es : List Equation
  es = wanted_of m n (claim_of n claim)

  pub wantable_wants : Wants m n (claim_of n claim) (wanted_of m n (claim_of n claim))
  wantable_wants =
      every_claim_has_sheet m n (claim_of n claim) w.modulus w.has_unknowns (claim_formed m n claim w.claimed)

  pub wantable_room : n * (n + 1) ≤ 272
  wantable_room = lines-few n n w.unknowns w.unknowns

  pub made-fits : length (sheet_memory (wanted_of m n (claim_of n claim))) ≤ sheet_room n
  made-fits = memory-fits n es wantable_wants.shaped wantable_wants.few

  module _ (r : ℕ) (count : r ≡ length (wanted_of m n (claim_of n claim))) where
    pub made-room : r * (n + 1) ≤ 272
    made-room =
        omega (
          arith,
          wantable_room,
          mul-le-mul {n₁ = r} {m₁ = n + 1} {n₂ = n} {m₂ = n + 1} (omega (arith, count, wantable_wants.few)) (omega arith),
        )

    pub made-read : (old : List ℕ) {last : List ℕ} → last ≡ over (as_rows (wanted_of m n (claim_of n claim))) old
        → equations_of n (take (r * (n + 1)) last) ≡ wanted_of m n (claim_of n claim)
    made-read old written =
        let long : length (as_rows es) ≡ r * (n + 1) =
        rows-length n es wantable_wants.shaped ∙ ap (λ (k : ℕ). k * (n + 1)) (sym count) in
        ap (equations_of n) (over-front (r * (n + 1)) (as_rows es) old written long) ∙ rows_back n es wantable_wants.shaped
