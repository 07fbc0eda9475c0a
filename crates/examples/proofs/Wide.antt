-- Numbers of 32 bits, S-9: words of two memory words, those that break the rule, what they are refused with, and the room of an answer.
use mathlib.Core.List.{List, [], ◌∷◌}
use mathlib.Core.Path.{◌≡◌, refl}
use Prim.Native.Nat.{ℕ}
use Rattle.words.specs.declared.unpacking.Word.{Word}
use Rattle.words.specs.Words.{word, modulus_kind, unknowns_kind, right_kind, head_kind, entry_kind, strike_kind, minus_coefficient_kind}
use Rattle.words.specs.Words.{top_kind, carries, words_in, words_for, words_of}
use Rattle.words.specs.Signs.{residues_of}
use Rattle.words.specs.Fronts.{first_length, front_length}
use Rattle.residue.specs.Residue.{residue_of}
use Rattle.residue.specs.Negative.{negative}
use Rattle.ledger.specs.Ledger.{Ledger, unopened, opened}
use Rattle.ledger.specs.Block.{counts_for, block_room}
use Rattle.ledger.specs.Classes.{claims_in}
use Rattle.ledger.specs.Calls.{opens, adds, marks, meaningless, misplaced, enters, queries}
use Rattle.ledger.specs.Questions.{refusal_of}
use Rattle.ledger.specs.History.{enter, ledger, ledger_from}
use Rattle.slices.specs.Pieces.{pieces}
use Rattle.tape.specs.FirstCall.{first_call, behind_first}

abbrev top : ℕ → ℕ
top x = word top_kind x

abbrev is : ℕ → ℕ → Word
is k x = record { kind = k; number = x }

-- ---- words out of memory

-- "carries the top 4 bits of the next word's number": 2^32 - 1
pub joins : words_in (top 15 ∷ word modulus_kind 268435455 ∷ word unknowns_kind 1 ∷ []) ≡ is modulus_kind 4294967295 ∷ is unknowns_kind 1 ∷ []
unfolding words_in carries
joins = refl

-- "with number 0 or above 15, or not right before a word of kinds 1, 3, 4, 6, 7, 10, 11 or 12": before a head, before another of kind 13, the last
pub breaks :
    (words_in (top 0 ∷ word entry_kind 5 ∷ []) ≡ is top_kind 0 ∷ is entry_kind 5 ∷ [])
    × (words_in (top 16 ∷ word entry_kind 5 ∷ []) ≡ is top_kind 16 ∷ is entry_kind 5 ∷ [])
    × (words_in (top 1 ∷ word head_kind 5 ∷ []) ≡ is top_kind 1 ∷ is head_kind 5 ∷ [])
    × (words_in (top 1 ∷ top 1 ∷ word modulus_kind 0 ∷ []) ≡ is top_kind 1 ∷ is modulus_kind 268435456 ∷ [])
    × (words_in (word entry_kind 5 ∷ top 1 ∷ []) ≡ is entry_kind 5 ∷ is top_kind 1 ∷ [])
unfolding words_in carries
breaks = (refl, refl, refl, refl, refl)

-- "tape signs of S-3 apply to the 32-bit number": minus 2^28 mod 12, which is 4
pub signed : residues_of 12 (words_in (top 1 ∷ word minus_coefficient_kind 0 ∷ [])) ≡ 8 ∷ []
unfolding words_in carries residue_of negative
signed = refl

-- "Writers put it in only for numbers of 2^28 or more."
pub writes :
    words_of entry_kind (268435455 ∷ 268435456 ∷ 4294967295 ∷ [])
    ≡ word entry_kind 268435455 ∷ top 1 ∷ word entry_kind 0 ∷ top 15 ∷ word entry_kind 268435455 ∷ []
unfolding words_for
writes = refl

-- ---- opening

-- "so 65,536 now opens"; and the largest modulus, with what is not below it any more
pub opened_wide :
    (ledger (enters (opens (word modulus_kind 65536 ∷ word unknowns_kind 1 ∷ [])) ∷ []) ≡ opened 65536 1 [])
    × (ledger (enters (opens (top 15 ∷ word modulus_kind 268435455 ∷ word unknowns_kind 1 ∷ [])) ∷ []) ≡ opened 4294967295 1 [])
unfolding ledger_from enter refusal_of words_in carries
opened_wide = (refl, refl)

-- 17 is asked before 1, and 1 before 2: a word that breaks the rule uses up a place, and a good pair in a wrong place is a wrong shape
pub seventeen :
    (refusal_of unopened (enters (opens (word modulus_kind 4 ∷ top 1 ∷ []))) ≡ 17)
    × (refusal_of unopened (enters (opens (word modulus_kind 0 ∷ word unknowns_kind 1 ∷ top 0 ∷ []))) ≡ 17)
    × (refusal_of unopened (enters (opens (word modulus_kind 4 ∷ top 1 ∷ word entry_kind 0 ∷ []))) ≡ 1)
    × (refusal_of unopened (enters (adds (top 0 ∷ []))) ≡ 4)
    × (refusal_of (opened 4 1 []) (enters (adds (top 0 ∷ []))) ≡ 17)
    × (refusal_of (opened 4 1 []) (queries (marks (word head_kind 1 ∷ top 1 ∷ []))) ≡ 17)
    × (refusal_of (opened 4 1 []) (queries (marks (word head_kind 1 ∷ top 1 ∷ word entry_kind 0 ∷ []))) ≡ 6)
unfolding refusal_of words_in carries
seventeen = (refl, refl, refl, refl, refl, refl, refl)

-- ---- on tape

-- "A call that starts with a good kind 13 word is picked by the word after it"; "as first word it is a call of one word, refused with 17, opened or not"
pub picked :
    (first_call unopened (top 1 ∷ word modulus_kind 0 ∷ word unknowns_kind 1 ∷ []) ≡ enters (opens (top 1 ∷ word modulus_kind 0 ∷ word unknowns_kind 1 ∷ [])))
    × (first_call unopened (top 1 ∷ word right_kind 0 ∷ word unknowns_kind 1 ∷ []) ≡ queries (meaningless (top 1 ∷ word right_kind 0 ∷ [])))
    × (first_call unopened (top 1 ∷ word strike_kind 0 ∷ []) ≡ queries (misplaced (top 1 ∷ [])))
    × (behind_first unopened (top 1 ∷ word strike_kind 0 ∷ []) ≡ word strike_kind 0 ∷ [])
    × ((l : Ledger) (ws : List ℕ) → refusal_of l (queries (misplaced ws)) ≡ 17)
unfolding first_call behind_first refusal_of words_in carries first_length front_length
picked = (refl, refl, refl, refl, λ l ws. refl)

-- 1, 13, 2: an opening with a word that breaks the rule, and a word that picks no call
pub one_thirteen_two :
    (first_call unopened (word modulus_kind 4 ∷ top 1 ∷ word unknowns_kind 1 ∷ []) ≡ enters (opens (word modulus_kind 4 ∷ top 1 ∷ [])))
    × (behind_first unopened (word modulus_kind 4 ∷ top 1 ∷ word unknowns_kind 1 ∷ []) ≡ word unknowns_kind 1 ∷ [])
unfolding first_call behind_first words_in carries first_length front_length
one_thirteen_two = (refl, refl)

-- ---- in a class

-- a word that breaks the rule in a head's place, a good pair there, and a claim with a pair
pub claims : claims_in 1 (top 0 ∷ top 1 ∷ word entry_kind 0 ∷ word head_kind 1 ∷ top 1 ∷ word entry_kind 0 ∷ [])
    ≡ (top 0 ∷ []) ∷ (top 1 ∷ word entry_kind 0 ∷ []) ∷ (word head_kind 1 ∷ top 1 ∷ word entry_kind 0 ∷ []) ∷ []
unfolding claims_in pieces words_in carries first_length front_length
claims = refl

-- ---- the room that question 8 asks for

-- "a multiplier .. counts two words when m is above 2^28", and entries count as they are written
pub rooms :
    (counts_for 268435456 ≡ 1) × (counts_for 268435457 ≡ 2) × (block_room 268435456 (0 ∷ 7 ∷ 8 ∷ []) ≡ 3) × (block_room 268435457 (0 ∷ 7 ∷ 8 ∷ []) ≡ 5)
    × (block_room 268435457 (1 ∷ 7 ∷ 268435456 ∷ []) ≡ 4)
unfolding words_for
rooms = (refl, refl, refl, refl, refl)
