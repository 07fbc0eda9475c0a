-- What a tape prints for answers and marks, in document 01's terms and in demand 3's. Each promise is a type; proofs/Promises.antt
-- keeps it. Definitions only.
use Rattle.std.specs.Prelude.{◌≡◌, Bool, List, ◌∷◌, ◌++◌, map, ℕ, T, eqb}
use Rattle.std.proofs.Math.Option.{some}
use Rattle.equations.specs.Lists.{every}
use Rattle.equations.specs.Line.{Line, line_start, line_steps, line_refutes}
use Rattle.ledger.specs.Ledger.{Ledger, unopened, unknowns_of, opened}
use Rattle.ledger.specs.Shapes.{claim_from}
use Rattle.words.specs.Words.{words_in, head_kind}
use Rattle.words.specs.Fronts.{first_word}
use Rattle.ledger.specs.Classes.{claims_in}
use Rattle.ledger.specs.Calls.{Call, marks, answers_from_tape, queries}
use Rattle.ledger.specs.Questions.{plain}
use Rattle.ledger.specs.History.{enter, ledger}
use Rattle.sheet.specs.Promises.{NothingSolves, WellFormed, RightMark}
use Rattle.tape.specs.Text.{line}
use Rattle.tape.specs.Calls.{calls_on}
use Rattle.tape.specs.Output.{step_lines, mark_line, call_lines, lines_from}

-- "Each call gives a line": for a call behind others, `call_lines` of the ledger that those lead to is what a tape prints between
-- their lines and the lines of the calls behind it.
abbrev pub CallPrinted : Type 0
CallPrinted =
    (before rest : List Call) (c : Call)
    → lines_from unopened (before ++ (c ∷ rest))
    ≡ lines_from unopened before ++ (call_lines (ledger before) c ++ lines_from (enter (ledger before) c) rest)

-- the lines of an answer for ls
pub record AnswerPrinted (m n : ℕ) (ls : List Line) (printed : List ℕ) : Type 0 where
  -- "An answer is `from` and the n entries, then a `step` line with n entries for each step": "01's starting vector, then all of
  -- 01's steps and no others, by rising place"
  pub solution : (start : List ℕ) → line_start m n ls ≡ some start
      → printed ≡ line "from" start ++ step_lines (line_steps m n ls)
  -- "or `none` and the multipliers": where "no vector of residues solves all those equations"
  pub refutation : NothingSolves m n ls → (ks : List ℕ) × T (line_refutes m n ls ks) × (printed ≡ line "none" ks)

-- after every list of calls that leads to an opened ledger, for an answer word whose number is 0
abbrev pub AnswersPrinted : Type 0
AnswersPrinted =
    (calls : List Call) (m n : ℕ) (ls : List Line) → ledger calls ≡ opened m n ls
    → (number : ℕ) → T (plain number) → AnswerPrinted m n ls (call_lines (ledger calls) (queries (answers_from_tape number)))

-- `pass`, `long` and `fail`, after every such list, for "a well-formed claim marked then"
abbrev pub MarksPrinted : Type 0
MarksPrinted =
    (calls : List Call) (m n : ℕ) (ls : List Line) → ledger calls ≡ opened m n ls
    → (ws : List ℕ) → WellFormed m n ws → RightMark mark_line m n ls (claim_from n (words_in ws)) (call_lines (ledger calls) (queries (marks ws)))

-- a head stands where it should
abbrev pub has_head : List ℕ → Bool
has_head claim = eqb (first_word claim).kind head_kind

-- "Each claim's length is taken as on the tape", S-4: the words of a class whose claims all begin with a head are, on tape, the marks of
-- just these claims.
abbrev pub ClassOnTape : Type 0
ClassOnTape =
    (l : Ledger) (ws : List ℕ) → T (every has_head (claims_in (unknowns_of l) ws))
    → calls_on l ws ≡ map (λ (claim : List ℕ). queries (marks claim)) (claims_in (unknowns_of l) ws)
