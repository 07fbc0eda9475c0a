-- The first call on a tape: how many words it takes, which call it is, and the words that remain behind it. How long a call is
-- depends on the ledger before it. Definitions only.
use Rattle.std.specs.Prelude.{cond, ◌||◌, List, ℕ, zero, suc, ◌+◌, eqb}
use Rattle.words.specs.declared.unpacking.Word.{Word}
use Rattle.words.specs.Words.{modulus_kind, coefficient_kind, minus_coefficient_kind, head_kind, strike_kind, answer_kind, own_modulus_kind, top_kind}
use Rattle.words.specs.Fronts.{first_word, front, behind}
use Rattle.ledger.specs.Ledger.{Ledger, unknowns_of}
use Rattle.ledger.specs.Shapes.{claim_length}
use Rattle.ledger.specs.Calls.{opens, adds, strikes, answers_from_tape, marks, meaningless, misplaced, Call, enters, queries}
use Rattle.tape.specs.declared.picking.Pick.{Pick}
use Rattle.tape.specs.declared.picking.Pick.TheVariants.{Opening, Adding, OwnAdding, Marking, Striking, Answering, Misplaced, Nothing}

-- "The first word's kind picks the call": one table. "A first word of kind 10 begins an add of n+1 words as kind 3 does"; "a word of
-- kind 12 .. begins its add". A word of kind 13 is one that breaks the rule: "A call that starts with a good kind 13 word is picked by the word
-- after it", of which it is part.
abbrev pub pick_of : ℕ → Pick
pick_of kind =
    cond (eqb kind modulus_kind) Opening
    (cond (eqb kind coefficient_kind || eqb kind minus_coefficient_kind) Adding
    (cond (eqb kind own_modulus_kind) OwnAdding
    (cond (eqb kind head_kind) Marking
    (cond (eqb kind strike_kind) Striking
    (cond (eqb kind answer_kind) Answering
    (cond (eqb kind top_kind) Misplaced Nothing))))))

-- how many words an add takes that begins with a modulus of its own: it "takes n+2 words, or one when unopened", where there are 0 unknowns
abbrev pub own_words : ℕ → ℕ
own_words zero = 1
own_words (suc n) = suc n + 2

-- "1 takes 2 words, 3 takes n+1, 5 takes 1 + n times its number; all other kinds take one, as do 3 and 5 when unopened and 5 with a
-- number above 17.": an unopened ledger has 0 unknowns
abbrev pub wanted_by : ℕ → Pick → ℕ → ℕ
wanted_by n Opening number = 2
wanted_by n Adding number = n + 1
wanted_by n OwnAdding number = own_words n
wanted_by n Marking number = claim_length n number
wanted_by n Striking number = 1
wanted_by n Answering number = 1
wanted_by n Misplaced number = 1
wanted_by n Nothing number = 1

abbrev pub wanted : Ledger → Word → ℕ
wanted l first = wanted_by (unknowns_of l) (pick_of first.kind) first.number

-- the call that is picked, by the number of its first word and the memory of its words
abbrev pub call_by : Pick → ℕ → List ℕ → Call
call_by Opening number ws = enters (opens ws)
call_by Adding number ws = enters (adds ws)
call_by OwnAdding number ws = enters (adds ws)
call_by Marking number ws = queries (marks ws)
call_by Striking number ws = enters (strikes number)
call_by Answering number ws = queries (answers_from_tape number)
call_by Misplaced number ws = queries (misplaced ws)
call_by Nothing number ws = queries (meaningless ws)

-- the first call of the words that remain: "If fewer remain, all of them."
unfoldable pub first_call : Ledger → List ℕ → Call
first_call l ws = call_by (pick_of (first_word ws).kind) (first_word ws).number (front (wanted l (first_word ws)) ws)

-- "the words that remain" behind it
unfoldable pub behind_first : Ledger → List ℕ → List ℕ
behind_first l ws = behind (wanted l (first_word ws)) ws
