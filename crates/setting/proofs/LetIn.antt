-- What is known where no question turns the claim away.
--   let_in_open        m and n are allowed
--   let_in_marked      on a fresh sheet of m and n the claim may be marked
--   let_in_claimed     its entries are those of a well-formed claim,
--   let_in_formed      and its vectors are vectors of n residues
--   let_in_wants       so what is made for it is what is wanted
use mathlib.Core.Path.{◌≡◌, refl}
use mathlib.Core.List.{List}
use Prim.Native.Nat.{ℕ, ◌≤◌}
use lib.Dec.{T}
use Rattle.questions.specs.Questions.{largest_modulus}
use Rattle.questions.proofs.Questions.{AllYes, all_yes, within_range}
use Rattle.equations.specs.Multipliers.{all_below}
use Rattle.equations.specs.Line.{Line}
use Rattle.equations.specs.Reasons.{Formed}
use Rattle.equations.specs.Wanted.{Wants}
use Rattle.equations.proofs.Truth.{true_of}
use Rattle.system.specs.Claims.{Claimed}
use Rattle.system.proofs.Claims.{claim_formed}
use Rattle.system.proofs.Wanted.{every_claim_has_sheet}
use Rattle.words.specs.Words.{words_in}
use Rattle.ledger.specs.Ledger.{opened, most_unknowns}
use Rattle.ledger.specs.Shapes.{is_claim, entries_of, claim_from}
use Rattle.ledger.specs.Calls.{marks, queries}
use Rattle.ledger.specs.Questions.{refusal_of}
use Rattle.ledger.proofs.Shapes.{claimed}
use Rattle.ledger.proofs.Refusals.{marks-accepted}
use Rattle.setting.specs.Calls.{setting_questions, equations_for}
use Rattle.setting.specs.Promises.{LetIn}

module _ (m n : ℕ) (ws : List ℕ) (let_in : LetIn m n ws) where
  yes : AllYes (setting_questions m n ws)
  yes = all_yes (setting_questions m n ws) tt let_in

  pub let_in_open : (2 ≤ m) × (m ≤ largest_modulus) × (1 ≤ n) × (n ≤ most_unknowns)
  let_in_open =
      let modulus = (within_range 2 m largest_modulus).0 yes.0 in
      let unknowns = (within_range 1 n most_unknowns).0 yes.1.0 in
      (modulus.0, modulus.1, unknowns.0, unknowns.1)

  shape : T (is_claim n (words_in ws))
  shape = yes.1.1.1.0

  below : T (all_below m (entries_of (words_in ws)))
  below = yes.1.1.1.1.0

  pub let_in_marked : (ls : List Line) → refusal_of (opened m n ls) (queries (marks ws)) ≡ 0
  let_in_marked ls =
      marks-accepted (opened m n ls) refl ws (true_of (is_claim n (words_in ws)) shape)
      (true_of (all_below m (entries_of (words_in ws))) below)

  pub let_in_claimed : Claimed m n (entries_of (words_in ws))
  let_in_claimed = claimed n (words_in ws) shape m below

  let_in_formed : Formed m n (claim_from n (words_in ws))
  let_in_formed = claim_formed m n (entries_of (words_in ws)) let_in_claimed

  pub let_in_wants : Wants m n (claim_from n (words_in ws)) (equations_for m n ws)
  let_in_wants =
      every_claim_has_sheet m n (claim_from n (words_in ws)) let_in_open.0 let_in_open.2 let_in_formed
