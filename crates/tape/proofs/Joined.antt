-- The pieces that are written a call at a time: there are some, no others, and they are the tape's lines.
use mathlib.Core.Path.{◌≡◌, refl, sym, ap, ◌∙◌}
use mathlib.Core.Logic.{◌⊎◌, inl, inr}
use mathlib.Core.Bool.{true, false}
use mathlib.Core.List.{List, [], ◌∷◌, ◌++◌, flatten, append-nil}
use Prim.Native.Nat.{ℕ, zero, suc, ◌≤◌}
use native.Mathlib.Nat.{le_refl}
use native.Mathlib.Omega.{arith}
use borrow.Author.Tests.{leb-true, leb-false}
use lib.Dec.{leb}
use lib.ListN.{length, drop, length-drop}
use Rattle.equations.proofs.Truth.{true_or_false}
use Rattle.sheet.specs.Record.{Sheet, ledger_of, fresh}
use Rattle.sheet.specs.History.{left}
use Rattle.tape.specs.Output.{left_over_line}
use Rattle.tape.specs.Reader.{lines_on, first_on, step_of}
use Rattle.tape.specs.Printing.{Prints, ends, calls, PrintsOnce, PrintsLines}
use Rattle.tape.proofs.Remaining.{remaining, lines_remaining, used_some, remaining_step, remaining_end}

-- a call takes four bytes at least, so that f bytes are enough for f calls
some_pieces : (f : ℕ) (s : Sheet) (rest : List ℕ) → length rest ≤ f → (pieces : List (List ℕ)) × Prints s rest pieces
unfolding step_of
some_pieces zero s rest few = (left_over_line rest ∷ [], ends {rest = rest} (omega arith))
some_pieces (suc f) s rest few =
    go (true_or_false (leb 4 (length rest))) (some_pieces f (left s (first_on s rest)) (drop (step_of s rest).used rest))
  where
    go : (leb 4 (length rest) ≡ true) ⊎ (leb 4 (length rest) ≡ false)
        → (length (drop (step_of s rest).used rest) ≤ f
        → (pieces : List (List ℕ)) × Prints (left s (first_on s rest)) (drop (step_of s rest).used rest) pieces)
        → (pieces : List (List ℕ)) × Prints s rest pieces
    go (inl whole) next =
        let long : 4 ≤ length rest = leb-true 4 (length rest) whole in
        let more = next (omega (arith, length-drop (step_of s rest).used rest, used_some (ledger_of s) rest long)) in
        (lines_on s (first_on s rest) ∷ more.0, calls long more.1)
    go (inr short) next = (left_over_line rest ∷ [], ends (leb-false 4 (length rest) short))

no_others : (s : Sheet) (rest : List ℕ) (pieces others : List (List ℕ)) → Prints s rest pieces → Prints s rest others
    → pieces ≡ others
no_others s rest pieces others (ends short) (ends short') = refl
no_others s rest pieces others (ends short) (calls whole prints) = absurd (omega arith)
no_others s rest pieces others (calls whole prints) (ends short) = absurd (omega arith)
no_others s rest pieces others (calls {pieces = more} whole prints) (calls {pieces = more'} whole' prints') =
    ap (λ (z : List (List ℕ)). lines_on s (first_on s rest) ∷ z)
    (no_others (left s (first_on s rest)) (drop (step_of s rest).used rest) more more' prints prints')

pub prints_once : PrintsOnce
prints_once tape = (some_pieces (length tape) fresh tape (le_refl _), no_others fresh tape)

joined : (s : Sheet) (rest : List ℕ) (pieces : List (List ℕ)) → Prints s rest pieces → flatten pieces ≡ remaining (ledger_of s) rest
unfolding step_of flatten
joined s rest pieces (ends short) = append-nil (left_over_line rest) ∙ sym (remaining_end (ledger_of s) rest short)
joined s rest pieces (calls {pieces = more} whole prints) =
    ap (λ (z : List ℕ). lines_on s (first_on s rest) ++ z) (joined (left s (first_on s rest)) (drop (step_of s rest).used rest) more prints)
    ∙ sym (remaining_step s rest whole)

pub prints_lines : PrintsLines
prints_lines tape pieces fits prints = joined fresh tape pieces prints ∙ sym (lines_remaining tape fits)
