-- What is seen of an accepted claim.
--   mark-opened            the sheet is opened,
--   mark_end               the claim's end is seen in the numbers,
--   entries_are            and so are its entries,
--   mark-claimed           which are those of a well-formed claim
use mathlib.Core.Path.{◌≡◌, sym, ap, ◌∙◌}
use mathlib.Core.List.{List, [], ◌∷◌, ◌++◌}
use Prim.Native.Nat.{ℕ, suc, ◌+◌, ◌-◌, ◌*◌, ◌≤◌}
use native.Mathlib.Numerals.{add-one}
use native.Mathlib.Omega.{arith}
use lib.Dec.{T}
use lib.ListN.{length, take, drop, get_or}
use lib.Seq.{take_at}
use Rattle.slices.specs.Over.{over}
use Rattle.system.specs.Claims.{Claimed}
use Rattle.words.specs.Words.{words_in, numbers_of}
use Rattle.words.proofs.Words.{number_of, parts_count}
use Rattle.words.proofs.Unpacked.{all_seen, part_seen}
use Rattle.ledger.specs.Ledger.{Ledger, is_opened, modulus_of, unknowns_of, most_unknowns}
use Rattle.ledger.specs.Shapes.{number_at, is_claim, entries_of}
use Rattle.ledger.specs.Block.{longest_block}
use Rattle.ledger.specs.Calls.{marks, queries}
use Rattle.ledger.specs.Questions.{refusal_of}
use Rattle.ledger.proofs.Shapes.{claim_length_lem, claim_some, claim_fits, claimed}
use Rattle.ledger.proofs.Questions.{accepted-yes}
use Rattle.asking.specs.declared.Seen.{Seen}
use Rattle.asking.specs.Sees.{Sees, claim_room}

-- what lies behind the first number of xs, where xs stands at the front of a longer list
behind-first : (xs rest : List ℕ) (k : ℕ) → length xs ≡ suc k → take k (drop 1 (xs ++ rest)) ≡ drop 1 xs
behind-first [] rest k long = absurd (omega arith)
behind-first (x ∷ xs) rest k long = take_at xs rest k (omega arith)

module _ (l : Ledger) (ws : List ℕ) (accepted : refusal_of l (queries (marks ws)) ≡ 0) where
  pub mark-opened : T (is_opened l)
  mark-opened = (accepted-yes l (queries (marks ws)) accepted).0

  shape : T (is_claim (unknowns_of l) (words_in ws))
  shape = (accepted-yes l (queries (marks ws)) accepted).1.1.0

  abbrev all : List ℕ
  all = numbers_of (words_in ws)

  module _ (few : unknowns_of l ≤ most_unknowns) (old : List ℕ) {new : List ℕ} (seen : new ≡ over (take claim_room all) old) where
    long : length all ≡ suc (number_at (words_in ws) 0 * unknowns_of l)
    long = parts_count number_of (words_in ws) ∙ claim_length_lem (unknowns_of l) (words_in ws) shape

    front : new ≡ over all old
    front = all_seen number_of claim_room ws old seen (omega (arith, claim_fits (unknowns_of l) (words_in ws) shape few))

    head_is : get_or new 0 0 ≡ number_at (words_in ws) 0
    head_is = part_seen number_of claim_room ws old seen 0 (omega arith) (claim_some (unknowns_of l) (words_in ws) shape)

    end_is : get_or new 0 0 * unknowns_of l + 1 ≡ length all
    end_is = ap (λ (k : ℕ). k * unknowns_of l + 1) head_is ∙ add-one _ ∙ sym long

    -- where the ledger is seen, and the head has the name h too
    module _ {see : Seen} (sees : Sees l see) (h : ℕ) (same-h : h ≡ get_or new 0 0) where
      pub mark_end : h * see.unknowns + 1 ≤ longest_block
      mark_end =
          rw (same-h, sees.unknowns) (omega (arith, end_is, parts_count number_of (words_in ws), claim_fits (unknowns_of l) (words_in ws) shape few))

      pub entries_are : take (h * see.unknowns + 1 - 1) (drop 1 new) ≡ entries_of (words_in ws)
      entries_are =
          rw (same-h, sees.unknowns)
          (ap (λ (xs : List ℕ). take (get_or new 0 0 * unknowns_of l + 1 - 1) (drop 1 xs)) front
          ∙ behind-first all (drop (length all) old) (get_or new 0 0 * unknowns_of l + 1 - 1) (omega (arith, end_is)))

      pub mark-claimed : Claimed see.modulus see.unknowns (take (h * see.unknowns + 1 - 1) (drop 1 new))
      mark-claimed =
          rw (entries_are, sees.modulus, sees.unknowns)
          (claimed (unknowns_of l) (words_in ws) shape (modulus_of l) (accepted-yes l (queries (marks ws)) accepted).1.1.1.0)
