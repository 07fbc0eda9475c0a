-- What a reply means for the result and the memory, case by case.
--   short_replied     the memory is too short for the numbers: minus 8, and nothing written
--   written_replied   it is long enough: the result, with the numbers at the front,
--   gives-written     also where the result is a number without a sign
--   gives_nothing     no numbers to write: they always fit
--   refuses_replied   a refusal writes nothing
--   replied_on        a callee's result, returned as it came
use mathlib.Core.Path.{◌≡◌, refl, ap, ◌∙◌}
use mathlib.Core.List.{List, []}
use Prim.Native.Nat.{ℕ, ◌≤◌, ◌<◌, ◌^◌}
use native.Mathlib.Omega.{arith}
use borrow.Author.Tests.{le-leb, lt-leb}
use lib.IntN.{ℤ, pos}
use lib.ListN.{length}
use lib.Signed.{mag}
use mir.Val.{to_z, of_z}
use mir.ValLaws.{to_z_pos}
use mir.Syntax.{w64}
use Rattle.slices.specs.Over.{over}
use Rattle.questions.specs.Reply.{Reply, gives, refuses, result_of, memory_after}
use Rattle.milebadger.specs.Calls.{minus, Replied}
use Rattle.milebadger.proofs.Signed.{handed_on}

module _ (k : ℕ) (xs old : List ℕ) where
  pub short_replied : length old < length xs → {r : ℤ} → r ≡ minus 8 → Replied (gives (pos k) xs) old old r
  unfolding result_of memory_after
  short_replied h is = let no = lt-leb (length xs) (length old) h in record { result = rw no is; memory = rw no }

  pub written_replied : {new : List ℕ} {r : ℤ} → r ≡ pos k → length xs ≤ length old → new ≡ over xs old → Replied (gives (pos k) xs) old new r
  unfolding result_of memory_after
  written_replied e h is = let yes = le-leb (length xs) (length old) h in record { result = rw yes e; memory = rw yes is }

  pub gives-written : {new : List ℕ} (r : ℕ) → r ≡ k → r < 2 ^ 63 → length xs ≤ length old → new ≡ over xs old
      → Replied (gives (pos k) xs) old new (to_z w64 r)
  gives-written r e small h is = written_replied (to_z_pos w64 r (omega arith) ∙ ap pos e) h is

pub gives_nothing : {k : ℕ} {old : List ℕ} → Replied (gives (pos k) []) old old (pos k)
unfolding result_of memory_after
gives_nothing {k} {old} = let yes = le-leb 0 (length old) (omega arith) in record { result = rw yes; memory = rw yes }

pub refuses_replied : {k : ℕ} {old : List ℕ} {r : ℤ} → r ≡ minus k → Replied (refuses k) old old r
unfolding result_of memory_after
refuses_replied e = record { result = e; memory = refl }

pub replied_on : {reply : Reply ℤ} {old new : List ℕ} {r : ℤ} → mag r < 2 ^ 63 → Replied reply old new r
    → Replied reply old new (to_z w64 (of_z w64 r))
replied_on fits h = record { result = handed_on fits h.result; memory = h.memory }
