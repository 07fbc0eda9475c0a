-- Demand 3, in the customer's words, and what stands beside it. Each promise is a type; proofs/Promises.antt keeps it.
--
-- Why this is about the code: `entered_of`, `sheet_after`, `answered_of`, `buffer_after`, `shown_of`, `marked_of`, `reasoned_of`, `shown_after`,
-- `classed_of` and `marks_after` are what the contracts of open, add, strike, answer, mark, reason and class say that the calls give back and
-- leave, those of the C calls too, for every sheet, all words and any buffer. `after` puts the sheet that a call left into the next call.
-- So `after calls` is what the caller's memory holds after the calls, and what is promised here of those names at that sheet is what the
-- next call does. `ledger` sees the calls alone. Definitions only.
use Rattle.std.specs.Prelude.{◌≡◌, cond, ◌↔◌, ◌⊎◌, ℕ, suc, ◌*◌, ◌<◌, ◌≤◌, T, eqb, length, take, get_or, replicate, Result, Ok, Err}
use mathlib.Core.List.{List, [], ◌∷◌, ◌++◌, flatten}
use Rattle.std.proofs.Math.Option.{some}
use Rattle.slices.specs.Over.{over}
use Rattle.questions.specs.Questions.{unless_refused, largest_modulus}
use Rattle.residue.specs.Divides.{Divides}
use Rattle.equations.specs.Vectors.{Vector}
use Rattle.equations.specs.Whole.{HoldsWhole}
use Rattle.equations.specs.Multipliers.{all_below}
use Rattle.equations.specs.declared.Mark.{Mark}
use Rattle.equations.specs.declared.Mark.TheVariants.{Pass, Long}
use Rattle.equations.specs.declared.Reason.{Reason}
use Rattle.equations.specs.Claim.{Claim, from, describes}
use Rattle.equations.specs.Marks.{mark_number, HasSuperfluous, MarkTells}
use Rattle.equations.specs.Reasons.{mark_beside}
use Rattle.equations.specs.Line.{Line, holds_one, holds, line_start, line_steps, line_refutes}
use Rattle.equations.specs.LineReasons.{LineSays}
use Rattle.system.specs.declared.solving.Answer.{Answer}
use Rattle.system.specs.Block.{answer_from}
use Rattle.system.specs.Lines.{line_block}
use Rattle.words.specs.Words.{word, words_in, tops_fit, words_of, head_kind, entry_kind, multiplier_kind, top_kind}
use Rattle.words.specs.Fronts.{first_word, front, behind}
use Rattle.words.specs.Signs.{wholes_of}
use Rattle.grammar.specs.Tree.{Sides}
use Rattle.grammar.specs.Grammar.{Typed, largest_text}
use Rattle.grammar.specs.Meaning.{HoldsMod}
use Rattle.ledger.specs.Ledger.{unopened, opened, modulus_of, unknowns_of, lines_in, most_equations, most_unknowns}
use Rattle.ledger.specs.Allowed.{Allowed}
use Rattle.ledger.specs.Shapes.{number_at, is_opening, is_equation, own_modulus, equation_words, is_claim, largest_head, entries_of, claim_from}
use Rattle.ledger.specs.Block.{longest_memory, block_words, counts_for, answer_words}
use Rattle.ledger.specs.Marking.{claim_mark, claim_reason, shown_kind, reason_words}
use Rattle.ledger.specs.Classes.{most_claims, claims_in}
use Rattle.ledger.specs.Calls.{Call, Entry, opens, adds, types, strikes, answers, answers_from_tape, marks, reasons, classes, enters, queries}
use Rattle.ledger.specs.Questions.{plain, refusal_of}
use Rattle.ledger.specs.History.{enter, ledger_from, ledger}
use Rattle.sheet.specs.Record.{Sheet, size, ledger_of}
use Rattle.sheet.specs.Calls.{entered_of, sheet_after, answered_of, buffer_after, shown_of, marked_of, reasoned_of, shown_after, mark_byte, claims_of, classed_of, marks_after}
use Rattle.sheet.specs.History.{left, sheet_from, after}
use Rattle.sheet.specs.Calls.{said}

-- "refused calls anywhere in it and at least one opening accepted": by the questions, asked of the ledger at that place
abbrev pub OpeningAccepted : List Call → Type 0
OpeningAccepted calls =
    (before : List Call) × (ws : List ℕ) × (rest : List Call)
    × (calls ≡ before ++ (enters (opens ws) ∷ rest)) × (refusal_of (ledger before) (enters (opens ws)) ≡ 0)

-- "no vector of residues solves all those equations", each line mod its q
abbrev pub NothingSolves : ℕ → ℕ → List Line → Type 0
NothingSolves m n ls = (v : List ℕ) → Vector m n v → T (holds ls v) → ⊥

-- The block that answers ls, word for word.
pub record RightBlock (m n : ℕ) (ls : List Line) (block : List ℕ) : Type 0 where
  -- 'says "no solution" exactly when no vector of residues solves all those equations'
  pub none : (get_or block 0 0 ≡ word head_kind 0) ↔ NothingSolves m n ls
  -- "In that case it shows multipliers, one for each equation, under which they add up mod m to 0 = a number that
  -- is not 0."
  pub multipliers : NothingSolves m n ls
      → (ks : List ℕ) × T (line_refutes m n ls ks) × (block ≡ word head_kind 0 ∷ words_of multiplier_kind ks)
  -- "Otherwise it is the answer of demand 2 for those equations: 01's starting vector, then all of 01's steps
  -- and no others, by rising place."
  pub vectors : (NothingSolves m n ls → ⊥)
      → (start : List ℕ) × (line_start m n ls ≡ some start)
      × (block ≡ word head_kind (suc (length (line_steps m n ls))) ∷ words_of entry_kind (start ++ flatten (line_steps m n ls)))

-- numbers whose words are the block
abbrev pub Shows : List ℕ → Result Answer ℕ → Type 0
Shows block (Ok answer) = block_words (answer.head ∷ take answer.len answer.numbers) ≡ block
Shows block (Err k) = ⊥

-- "a well-formed claim": "if its shape is right and its entries are below m"
abbrev pub WellFormed : ℕ → ℕ → List ℕ → Type 0
WellFormed m n ws = T (is_claim n (words_in ws)) × T (all_below m (entries_of (words_in ws)))

-- "the vectors it describes are the vectors that solve all those equations"
abbrev pub DescribesSolutions : ℕ → ℕ → List Line → Claim → Type 0
DescribesSolutions m n ls claim = (v : List ℕ) → T (describes m claim v) ↔ (Vector m n v × T (holds ls v))

-- "passed exactly when the vectors it describes are the vectors that solve all those equations, and failed otherwise", with "pass or long
-- where it says passed": x is what the claim gets, and `shown` how a mark looks
abbrev pub RightMark : {A : Type 0} → (Mark → A) → ℕ → ℕ → List Line → Claim → A → Type 0
RightMark shown m n ls claim x = MarkTells shown (DescribesSolutions m n ls claim) (HasSuperfluous m n claim) x

-- How much room question 8 asks for: "a multiplier .. counts two words when m is above 2^28", and vectors' entries count as they are written.
pub record RightRoom (m n : ℕ) (ls : List Line) (block : List ℕ) (room : ℕ) : Type 0 where
  pub multipliers : NothingSolves m n ls → room ≡ suc (length ls * counts_for m)
  pub vectors : (NothingSolves m n ls → ⊥) → room ≡ length block
  -- there the block fits, and so much is enough for every block
  pub fits : length block ≤ room
  pub most : room ≤ longest_memory

-- What demand 3 says of a sheet whose ledger has m, n and ls.
pub record RightSheet (s : Sheet) (m n : ℕ) (ls : List Line) : Type 0 where
  pub allowed : Allowed m n ls
  -- the block that answers them
  pub block : List ℕ
  pub right : RightBlock m n ls block
  pub room : ℕ
  pub asked : RightRoom m n ls block room
  -- "An answer asked for then, into a long enough buffer" that held `old`: "Buffer long enough for this block? 8"
  pub answer : (old : List ℕ) → room ≤ length old
      → (answered_of (ledger_of s) old ≡ Ok (length block)) × (buffer_after (ledger_of s) old ≡ over block old)
  pub short : (old : List ℕ) → length old < room → answered_of (ledger_of s) old ≡ Err 8
  -- the same from tape, with a word whose number is 0: its numbers; "on tape it always is" long enough
  pub answer_from_tape : (number : ℕ) → T (plain number) → Shows block (shown_of (ledger_of s) number)
  -- "And a well-formed claim marked then"
  pub mark : (ws : List ℕ) → WellFormed m n ws
      → RightMark Ok m n ls (claim_from n (words_in ws)) (marked_of (ledger_of s) ws)

-- What demand 3 says after a list of calls.
pub record Promised (calls : List Call) : Type 0 where
  -- "take the equations that 01's ledger holds after it"
  pub m : ℕ
  pub n : ℕ
  pub ls : List Line
  pub holds : ledger calls ≡ opened m n ls
  pub right : RightSheet (after calls) m n ls

-- "For every list of the calls open, add, strike, answer and mark from a fresh sheet, refused calls anywhere in it and
-- at least one opening accepted"; "the whole-list statement holds with strikes at any place"
abbrev pub Demand3 : Type 0
Demand3 = (calls : List Call) → OpeningAccepted calls → Promised calls

-- What holds after every list: the questions, asked of its ledger, decide each call, and what is refused changes nothing.
pub record Decided (calls : List Call) : Type 0 where
  -- the sheet reads as the ledger that sees the calls alone
  pub reads : ledger_of (after calls) ≡ ledger calls
  -- "Nothing is turned away except by a question in document 01, with that question's number"
  pub entering : (e : Entry)
      → entered_of (ledger_of (after calls)) e
      ≡ unless_refused Err (refusal_of (ledger calls) (enters e)) (Ok (length (lines_in (enter (ledger calls) (enters e)))))
  pub answering : (old : List ℕ)
      → answered_of (ledger_of (after calls)) old
      ≡ unless_refused Err (refusal_of (ledger calls) (queries (answers old))) (Ok (length (answer_words (ledger calls))))
  pub showing : (number : ℕ)
      → shown_of (ledger_of (after calls)) number
      ≡ unless_refused Err (refusal_of (ledger calls) (queries (answers_from_tape number)))
      (Ok (answer_from (line_block (modulus_of (ledger calls)) (unknowns_of (ledger calls)) (lines_in (ledger calls)))))
  pub marking : (ws : List ℕ)
      → marked_of (ledger_of (after calls)) ws
      ≡ unless_refused Err (refusal_of (ledger calls) (queries (marks ws))) (Ok (claim_mark (ledger calls) ws))
  pub reasoning : (ws old : List ℕ)
      → reasoned_of (ledger_of (after calls)) ws old
      ≡ unless_refused Err (refusal_of (ledger calls) (queries (reasons ws old)))
      (said (claim_reason (ledger calls) ws) (length (reason_words (ledger calls) ws)))
  pub classing : (ws old : List ℕ)
      → classed_of (ledger_of (after calls)) ws old
      ≡ unless_refused Err (refusal_of (ledger calls) (queries (classes ws old))) (Ok (length (claims_of (ledger calls) ws)))
  -- "and then the sheet and all lent memory hold what they held": the sheet after queries too, since a caller has one then
  pub sheet_kept : (c : Call) → 0 < refusal_of (ledger calls) c → left (after calls) c ≡ after calls
  pub buffer_kept : (old : List ℕ) → 0 < refusal_of (ledger calls) (queries (answers old))
      → buffer_after (ledger_of (after calls)) old ≡ old
  pub shown_kept : (ws old : List ℕ) → 0 < refusal_of (ledger calls) (queries (reasons ws old))
      → shown_after (ledger_of (after calls)) ws old ≡ old
  pub marks_kept : (ws old : List ℕ) → 0 < refusal_of (ledger calls) (queries (classes ws old))
      → marks_after (ledger_of (after calls)) ws old ≡ old

abbrev pub DecidedAlways : Type 0
DecidedAlways = (calls : List Call) → Decided calls

-- The block that an answer wrote, given to mark from the same buffer, is right where there is a solution: "Our own answers may be long".
abbrev pub OwnMark : Result Mark ℕ → Type 0
OwnMark marked = (marked ≡ Ok Pass) ⊎ (marked ≡ Ok Long)

abbrev pub OwnBlockRight : Type 0
OwnBlockRight =
    (calls : List Call) (m n : ℕ) (ls : List Line) (old : List ℕ)
    → ledger calls ≡ opened m n ls → (NothingSolves m n ls → ⊥) → length (answer_words (ledger calls)) ≤ length old
    → OwnMark (marked_of (ledger_of (after calls)) (take (length (answer_words (ledger calls))) (buffer_after (ledger_of (after calls)) old)))

-- And it reads as itself: as a claim it is the start and the steps that it shows.
abbrev pub OwnBlockReads : Type 0
OwnBlockReads =
    (calls : List Call) (m n : ℕ) (ls : List Line) (old start : List ℕ)
    → ledger calls ≡ opened m n ls → line_start m n ls ≡ some start → length (answer_words (ledger calls)) ≤ length old
    → claim_from n (words_in (take (length (answer_words (ledger calls))) (buffer_after (ledger_of (after calls)) old)))
    ≡ from start (line_steps m n ls)

-- Zeroed memory is a sheet on which no call was made yet, and it is unopened.
abbrev pub ZerosAreFresh : Type 0
ZerosAreFresh = (replicate size 0 ≡ after []) × (ledger_of (replicate size 0) ≡ unopened)

-- Whatever numbers the memory holds: where they read as an opened sheet, answers and marks are right.
abbrev pub RightAlways : Type 0
RightAlways = (s : Sheet) (m n : ℕ) (ls : List Line) → ledger_of s ≡ opened m n ls → RightSheet s m n ls

-- And calls go on from the ledger that they read as.
abbrev pub ReadsOn : Type 0
ReadsOn = (s : Sheet) (calls : List Call) → ledger_of (sheet_from s calls) ≡ ledger_from (ledger_of s) calls

-- What document 02 says of an opening in words, S-9, on any sheet; its words say m and n.
pub record RightOpening (s : Sheet) (ws : List ℕ) (m n : ℕ) : Type 0 where
  -- "right before 1, a kind 13 word .. 17": exactly where one breaks the rule
  pub seventeen : (entered_of (ledger_of s) (opens ws) ≡ Err 17) ↔ (T (tops_fit (words_in ws)) → ⊥)
  -- "take m in 2..4,294,967,295, so 65,536 now opens"; "n 1..16"
  pub allowed : (entered_of (ledger_of s) (opens ws) ≡ Ok 0)
      ↔ (T (is_opening (words_in ws)) × ((2 ≤ m) × (m ≤ largest_modulus)) × ((1 ≤ n) × (n ≤ most_unknowns)))
  -- "Accepted open: m, n, empty list, whatever was there before."
  pub accepted : (k : ℕ) → entered_of (ledger_of s) (opens ws) ≡ Ok k → ledger_of (sheet_after s (opens ws)) ≡ opened m n []

-- Whatever the memory holds, and so after every list of calls.
abbrev pub OpenedAlways : Type 0
OpenedAlways = (s : Sheet) (ws : List ℕ) → RightOpening s ws (number_at (words_in ws) 0) (number_at (words_in ws) 1)

-- "An equation record gains a modulus q that divides the sheet's m"; below 2 it is turned away
abbrev pub LineModulus : ℕ → ℕ → Type 0
LineModulus m q = (2 ≤ q) × Divides q m

-- What document 02 says of an equation in words, S-3 and S-6, on a sheet whose ledger has m, n and ls, where the line
-- has the modulus q.
pub record RightAdding (s : Sheet) (m n : ℕ) (ls : List Line) (ws : List ℕ) (q : ℕ) : Type 0 where
  -- "right before 1, a kind 13 word .. 17": exactly where one breaks the rule
  pub seventeen : (entered_of (ledger_of s) (adds ws) ≡ Err 17) ↔ (T (tops_fit (words_in ws)) → ⊥)
  -- "Any number of 28 bits is allowed", and now of 32: it is added exactly where its shape is right, q is one of a line and there is room
  pub allowed : (entered_of (ledger_of s) (adds ws) ≡ Ok (suc (length ls)))
      ↔ (T (is_equation n (equation_words (words_in ws))) × LineModulus m q × (length ls < most_equations))
  -- "right after shape and before 5, q below 2 or not dividing m 15"
  pub fifteen : (entered_of (ledger_of s) (adds ws) ≡ Err 15)
      ↔ (T (is_equation n (equation_words (words_in ws))) × (LineModulus m q → ⊥))
  -- "and is brought to its residue", "Its numbers become residues mod q": the words, as an equation of whole numbers, hold mod q at
  -- exactly the vectors where the line added holds
  pub accepted : (k : ℕ) → entered_of (ledger_of s) (adds ws) ≡ Ok k
      → (added : Line) × (added.modulus ≡ q) × (ledger_of (sheet_after s (adds ws)) ≡ opened m n (ls ++ (added ∷ [])))
      × ((v : List ℕ) → HoldsWhole q n (wholes_of (equation_words (words_in ws))) v ↔ T (holds_one added v))

-- Whatever the memory holds, and so after every list of calls; q is the number of "a word of kind 12", and "without it .. q is m".
abbrev pub AddedAlways : Type 0
AddedAlways =
    (s : Sheet) (m n : ℕ) (ls : List Line) (ws : List ℕ) → ledger_of s ≡ opened m n ls
    → RightAdding s m n ls ws (own_modulus m (words_in ws))

-- the place of the line between these: "a place, 1 for the first; 0 means the last"
abbrev pub PlaceBetween : List Line → List Line → ℕ → Type 0
PlaceBetween earlier later place = (place ≡ suc (length earlier)) ⊎ ((place ≡ 0) × (later ≡ []))

-- What document 02 says of a strike, S-7, on a sheet whose ledger has m, n and ls.
pub record RightStriking (s : Sheet) (m n : ℕ) (ls : List Line) (place : ℕ) : Type 0 where
  -- "An equation there? 7.": where none is, whatever the place
  pub seven : (entered_of (ledger_of s) (strikes place) ≡ Err 7) ↔ (ls ≡ [])
  -- "after 7, a place beyond the lines held 16"
  pub sixteen : (entered_of (ledger_of s) (strikes place) ≡ Err 16) ↔ ((ls ≡ [] → ⊥) × (length ls < place))
  -- "A refusal gives its number; sheet and lent memory keep their content."
  pub kept : (k : ℕ) → entered_of (ledger_of s) (strikes place) ≡ Err k → sheet_after s (strikes place) ≡ s
  -- the line at any other place goes: "Later lines close up in order, and the answer is the one for the lines left."
  pub struck : (earlier : List Line) (line : Line) (later : List Line) → ls ≡ earlier ++ (line ∷ later) → PlaceBetween earlier later place
      → (entered_of (ledger_of s) (strikes place) ≡ Ok (length (earlier ++ later)))
      × (ledger_of (sheet_after s (strikes place)) ≡ opened m n (earlier ++ later))
      × RightSheet (sheet_after s (strikes place)) m n (earlier ++ later)

-- Whatever the memory holds, and so after every list of calls.
abbrev pub StruckAlways : Type 0
StruckAlways = (s : Sheet) (m n : ℕ) (ls : List Line) (place : ℕ) → ledger_of s ≡ opened m n ls → RightStriking s m n ls place

-- What document 02 says of the reason of a well-formed claim, S-5 and S-8, on a sheet whose ledger has m, n and ls.
pub record RightReason (s : Sheet) (m n : ℕ) (ls : List Line) (ws : List ℕ) : Type 0 where
  -- "A passed claim gives no reason, and each failed one gives a reason"; "for a long claim, the number of its first superfluous step"
  pub reason : Reason
  pub verdict : marked_of (ledger_of s) ws ≡ Ok (mark_beside reason)
  -- "that is true as stated", with the numbers that are shown
  pub shown : List ℕ
  pub says : LineSays m n ls (claim_from n (words_in ws)) reason shown
  -- "It writes words of kinds 6 and 7 as the answer does", into a long enough buffer that held `old`; where it shows nothing, every buffer
  -- is long enough and "keeps its content"
  pub given : (old : List ℕ) → length shown * counts_for m ≤ length old
      → (reasoned_of (ledger_of s) ws old ≡ said reason (length (words_of (shown_kind reason) shown)))
      × (shown_after (ledger_of s) ws old ≡ over (words_of (shown_kind reason) shown) old)
  -- "then 8 for a buffer too short for this reason's words", where "an entry that the reason tool shows, counts two words when m is above 2^28"
  pub short : (old : List ℕ) → length old < length shown * counts_for m → reasoned_of (ledger_of s) ws old ≡ Err 8

-- Whatever the memory holds, and so after every list of calls.
abbrev pub ReasonAlways : Type 0
ReasonAlways =
    (s : Sheet) (m n : ℕ) (ls : List Line) (ws : List ℕ) → ledger_of s ≡ opened m n ls → WellFormed m n ws → RightReason s m n ls ws

-- "The questions are those of marking": what marking turns away is turned away with the same number, on every sheet and with any buffer.
abbrev pub SameRefusals : Type 0
SameRefusals =
    (s : Sheet) (ws old : List ℕ) (k : ℕ) → marked_of (ledger_of s) ws ≡ Err k
    → (reasoned_of (ledger_of s) ws old ≡ Err k) × (shown_after (ledger_of s) ws old ≡ old)

-- What the byte of a claim in words says, on a ledger that has m, n and ls: "0 fail, 1 pass or the refusal number plus 100", and 2 for
-- `long`.
pub record RightByte (m n : ℕ) (ls : List Line) (ws : List ℕ) (byte : ℕ) : Type 0 where
  -- of a well-formed claim it is the number of its mark
  pub marked : WellFormed m n ws → RightMark mark_number m n ls (claim_from n (words_in ws)) byte
  -- 17 "right before 1"; "Shape right? 1. Entries below m? 6."
  pub misplaced : (byte ≡ 117) ↔ (T (tops_fit (words_in ws)) → ⊥)
  pub misshapen : (byte ≡ 101) ↔ (T (tops_fit (words_in ws)) × (T (is_claim n (words_in ws)) → ⊥))
  pub not_below : (byte ≡ 106) ↔ (T (is_claim n (words_in ws)) × (T (all_below m (entries_of (words_in ws))) → ⊥))

-- The bytes of an accepted class with these claims, on a sheet whose ledger has m, n and ls; they held `old`.
pub record RightMarks (s : Sheet) (m n : ℕ) (ls : List Line) (claims : List (List ℕ)) (old new : List ℕ) : Type 0 where
  -- "The bytes are those that marking each claim singly would give, in that order"
  pub singly : (i : ℕ) → i < length claims → get_or new i 0 ≡ mark_byte (marked_of (ledger_of s) (get_or claims i []))
  pub says : (i : ℕ) → i < length claims → RightByte m n ls (get_or claims i []) (get_or new i 0)
  -- "bytes past the last claim keep their content"
  pub size : length new ≡ length old
  pub kept : (i : ℕ) → length claims ≤ i → get_or new i 0 ≡ get_or old i 0

-- What document 02 says of a class, S-4, on such a sheet.
pub record RightClass (s : Sheet) (m n : ℕ) (ls : List Line) (ws old : List ℕ) : Type 0 where
  -- "up to 64 claims .. and a byte per claim": so many are marked exactly where there are no more, and bytes enough
  pub allowed : (classed_of (ledger_of s) ws old ≡ Ok (length (claims_in n ws)))
      ↔ ((length (claims_in n ws) ≤ most_claims) × (length (claims_in n ws) ≤ length old))
  pub accepted : classed_of (ledger_of s) ws old ≡ Ok (length (claims_in n ws))
      → RightMarks s m n ls (claims_in n ws) old (marks_after (ledger_of s) ws old)

-- Whatever the memory holds, and so after every list of calls.
abbrev pub ClassAlways : Type 0
ClassAlways = (s : Sheet) (m n : ℕ) (ls : List Line) (ws old : List ℕ) → ledger_of s ≡ opened m n ls → RightClass s m n ls ws old

-- "a word of another kind where a head should stand is a claim of one word and gets 101", and so does a head "with a number above 17"; a word of
-- kind 13 that breaks the rule, "in a class, in a head's place, .. gets 117"
abbrev pub StrayWords : Type 0
StrayWords =
    (m n : ℕ) (ls : List Line) (ws : List ℕ) → 0 < length ws
    → (((first_word ws).kind ≡ head_kind) × ((first_word ws).number ≤ largest_head) → ⊥)
    → (claims_in n ws ≡ front 1 ws ∷ claims_in n (behind 1 ws))
    × (mark_byte (marked_of (opened m n ls) (front 1 ws)) ≡ cond (eqb (first_word ws).kind top_kind) 117 101)

-- "texts outside this grammar or over 256 bytes"
abbrev pub NoEquation : List ℕ → Type 0
NoEquation text = ((e : Sides) → Typed e text → ⊥) ⊎ (largest_text < length text)

-- What document 02 says of an equation typed as text, S-1, on a sheet whose ledger has m, n and ls.
pub record RightTyping (s : Sheet) (m n : ℕ) (ls : List Line) (text : List ℕ) : Type 0 where
  -- "On an opened sheet 11 is given exactly for texts outside this grammar or over 256 bytes"
  pub eleven : (entered_of (ledger_of s) (types text) ≡ Err 11) ↔ NoEquation text
  -- "and an accepted text holds mod m at exactly the vectors that solve the equation added."; "for typed text, q is m"
  pub accepted : (k : ℕ) → entered_of (ledger_of s) (types text) ≡ Ok k
      → (e : Sides) × (added : Line) × Typed e text × (added.modulus ≡ m)
      × (ledger_of (sheet_after s (types text)) ≡ opened m n (ls ++ (added ∷ [])))
      × ((v : List ℕ) → HoldsMod m e v ↔ T (holds_one added v))

-- So it is with texts too.
abbrev pub TypedAlways : Type 0
TypedAlways = (s : Sheet) (m n : ℕ) (ls : List Line) (text : List ℕ) → ledger_of s ≡ opened m n ls → RightTyping s m n ls text
