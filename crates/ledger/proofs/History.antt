-- The ledger after a list of calls: once opened, always opened, `opening_opens`.
use mathlib.Core.Path.{◌≡◌, refl, sym, subst}
use mathlib.Core.Bool.{Bool, true, false, cond}
use mathlib.Core.List.{List, [], ◌∷◌, ◌++◌}
use Prim.Native.Nat.{ℕ}
use borrow.Author.Tests.{eqb-true}
use lib.Dec.{eqb}
use Rattle.equations.specs.Lists.{without}
use Rattle.equations.specs.Line.{Line}
use Rattle.words.specs.Words.{words_in}
use Rattle.ledger.specs.Ledger.{Ledger, unopened, opened}
use Rattle.ledger.specs.Shapes.{number_at}
use Rattle.ledger.specs.Calls.{Call, opens, enters, queries}
use Rattle.ledger.specs.Questions.{refusal_of}
use Rattle.ledger.specs.History.{Effect, begins, gains, loses, effect_of, changed, enter, ledger_from, ledger}
use Rattle.ledger.proofs.Effects.{Allows, accepted_allows, enter-accepted}

from-append : (l : Ledger) (xs ys : List Call) → ledger_from l (xs ++ ys) ≡ ledger_from (ledger_from l xs) ys
unfolding ledger_from
from-append l [] ys = refl
from-append l (c ∷ xs) ys = from-append (enter l c) xs ys

ledger-append : (xs ys : List Call) → ledger (xs ++ ys) ≡ ledger_from (ledger xs) ys
ledger-append xs ys = from-append unopened xs ys

module _ (P : Ledger → Type 0) (keeps : (l : Ledger) (e : Effect) → P l → Allows l e → P (changed l e)) where
  -- a query and a refused call leave what was there, an accepted one what its effect makes of it
  enter-keeps : (l : Ledger) (c : Call) → P l → P (enter l c)
  unfolding enter
  enter-keeps l (queries q) h = h
  enter-keeps l (enters e) h =
      go (eqb (refusal_of l (enters e)) 0)
      (λ yes. keeps l (effect_of l e) h (accepted_allows l e (eqb-true (refusal_of l (enters e)) 0 yes)))
    where
      go : (test : Bool) → (test ≡ true → P (changed l (effect_of l e))) → P (cond test (changed l (effect_of l e)) l)
      go true accepted = accepted refl
      go false accepted = h

  ledger-keeps : (l : Ledger) (calls : List Call) → P l → P (ledger_from l calls)
  unfolding ledger_from
  ledger-keeps l [] h = h
  ledger-keeps l (c ∷ calls) h = ledger-keeps (enter l c) calls (enter-keeps l c h)

-- ---- once opened, always opened

abbrev pub Opened : Ledger → Type 0
Opened l = (m : ℕ) × (n : ℕ) × (ls : List Line) × (l ≡ opened m n ls)

opened-changed : (l : Ledger) (e : Effect) → Opened l → Allows l e → Opened (changed l e)
opened-changed l (begins m n) h allows = (m, n, [], refl)
opened-changed unopened (gains line) h allows = h
opened-changed (opened m n ls) (gains line) h allows = (m, n, ls ++ (line ∷ []), refl)
opened-changed unopened (loses j) h allows = h
opened-changed (opened m n ls) (loses j) h allows = (m, n, without j ls, refl)

pub opening_opens : (before : List Call) (ws : List ℕ) (rest : List Call) → refusal_of (ledger before) (enters (opens ws)) ≡ 0
    → Opened (ledger (before ++ (enters (opens ws) ∷ rest)))
unfolding ledger_from
opening_opens before ws rest none =
    subst Opened (sym (ledger-append before (enters (opens ws) ∷ rest)))
    (ledger-keeps Opened opened-changed (enter (ledger before) (enters (opens ws))) rest
    (number_at (words_in ws) 0, number_at (words_in ws) 1, [], enter-accepted (ledger before) (opens ws) none))
