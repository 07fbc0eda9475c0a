-- `sheet_for` meets its contract: `refusal` asks the questions. Where none turns the claim away, it has left the claim's numbers, and `make` makes
-- the reply.
use mathlib.Core.Path.{◌≡◌, refl, sym, ap, subst, ◌∙◌}
use mathlib.Core.Bool.{true}
use mathlib.Core.List.{List, []}
use Prim.Native.Nat.{ℕ, ◌+◌, ◌-◌, ◌*◌, ◌≤◌}
use native.Mathlib.Nat.{mul-le-mul}
use native.Mathlib.Omega.{arith}
use lib.ListN.{take, drop, get_or, replicate}
use Rattle.std.specs.Prelude.{Result, Err}
use Rattle.slices.specs.Over.{over}
use Rattle.questions.specs.Questions.{first_no}
use Rattle.questions.specs.Reply.{Gives}
use Rattle.questions.specs.Refusals.{by_number}
use Rattle.questions.proofs.Ladder.{number_not, handed_on}
use Rattle.questions.proofs.Reply.{gives_refused, gives_let_in}
use Rattle.system.specs.Claims.{claim_of}
use Rattle.system.specs.Wanted.{wanted_of}
use Rattle.words.specs.Words.{words_in, numbers_of}
use Rattle.ledger.specs.Ledger.{opened}
use Rattle.ledger.specs.Block.{longest_block}
use Rattle.ledger.specs.Shapes.{entries_of}
use Rattle.asking.specs.declared.Seen.{Seen}
use Rattle.asking.specs.Sees.{Sees, claim_room}
use Rattle.asking.proofs.ClaimGiven.{mark_end, entries_are, mark-claimed}
use Rattle.setting.specs.Calls.{setting_questions, made, equations_for, made_reply, made_of, sheet_after}
use Rattle.setting.specs.Promises.{LetIn}
use Rattle.setting.specs.Model.Handed.{Wantable}
use Rattle.setting.proofs.LetIn.{let_in_open, let_in_marked}
use Rattle.setting.proofs.sheet_for.Goals as goal

-- what is seen of a fresh sheet
abbrev fresh : ℕ → ℕ → Seen
fresh m n = record { opened = true; modulus = m; unknowns = n; held = 0 }

sees : (m n : ℕ) → Sees (opened m n []) (fresh m n)
sees m n = record { opened = refl; modulus = refl; unknowns = refl; held = refl }

-- where no question turned the claim away
module _ (m n : ℕ) (ws : List ℕ) {number : ℕ} (is : number ≡ first_no (setting_questions m n ws)) (none : number ≡ 0) (old : List ℕ)
    {numbers : List ℕ} (seen : numbers ≡ over (take claim_room (numbers_of (words_in ws))) old) where
  entered : LetIn m n ws
  entered = sym is ∙ none

  end : get_or numbers 0 0 * n + 1 ≤ longest_block
  end =
      mark_end (opened m n []) ws (let_in_marked m n ws entered []) (let_in_open m n ws entered).3 old seen (sees m n) (get_or numbers 0 0) refl

  head : get_or numbers 0 0 ≤ get_or numbers 0 0 * n
  head =
      omega (
        arith,
        mul-le-mul {n₁ = get_or numbers 0 0} {m₁ = 1} {n₂ = get_or numbers 0 0} {m₂ = n} (omega arith) (let_in_open m n ws entered).2,
      )

  entries : take (get_or numbers 0 0 * n + 1 - 1) (drop 1 numbers) ≡ entries_of (words_in ws)
  entries =
      entries_are (opened m n []) ws (let_in_marked m n ws entered []) (let_in_open m n ws entered).3 old seen (sees m n) (get_or numbers 0 0) refl

  wantable : Wantable m n (take (get_or numbers 0 0 * n + 1 - 1) (drop 1 numbers))
  wantable = record {
    modulus = (let_in_open m n ws entered).0;
    has_unknowns = (let_in_open m n ws entered).2;
    unknowns = (let_in_open m n ws entered).3;
    claimed =
        mark-claimed (opened m n []) ws (let_in_marked m n ws entered []) (let_in_open m n ws entered).3 old seen (sees m n) (get_or numbers 0 0) refl;
  }

  replied : (buffer : List ℕ) {r : (Result ℕ ℕ)} {new : List ℕ}
      → Gives Err (made n (wanted_of m n (claim_of n (take (get_or numbers 0 0 * n + 1 - 1) (drop 1 numbers))))) buffer r new
      → Gives Err (made_reply m n ws) buffer r new
  unfolding made_reply
  replied buffer {r} {new} given =
      gives_let_in Err buffer (setting_questions m n ws) is (made n (equations_for m n ws)) none
      (subst (λ (xs : List ℕ). Gives Err (made n (wanted_of m n (claim_of n xs))) buffer r new) entries given)

pub returns-in_err-refusal : goal.returns-in_err-refusal
unfolding made_of sheet_after made_reply
returns-in_err-refusal c =
    let a = c.args in
    let ws = a.claim.now in
    let out = c.from_residual in
    let refusal = c.in_err-refusal.field-0.0 in
    let both = gives_refused Err a.out.now (setting_questions a.m a.n ws) c.in_err-refusal.ensures.value (made a.n (equations_for a.m a.n ws))
    (number_not refusal) in
    record { value = ap by_number (handed_on out.result refusal out.ensures.1) ∙ both.0; out_after = both.1 }

pub make-requires : goal.make-requires
make-requires c =
    let a = c.args in
    let asked = c.in_ok-refusal in
    wantable a.m a.n a.claim.now asked.ensures.value refl (replicate claim_room 0) asked.ensures.numbers_after

pub returns : goal.returns
unfolding made_of sheet_after
returns c =
    let a = c.args in
    let asked = c.in_ok-refusal in
    let both = replied a.m a.n a.claim.now asked.ensures.value refl (replicate claim_room 0) asked.ensures.numbers_after a.out.now
    c.make.ensures in record { value = both.0; out_after = both.1 }
