-- The mark of a claim that lies in words, and the reason beside it. Definitions only.
use Rattle.std.specs.Prelude.{List, ℕ, ◌*◌, length}
use Rattle.equations.specs.declared.Mark.{Mark}
use Rattle.equations.specs.declared.Reason.{Reason}
use Rattle.equations.specs.declared.Reason.TheVariants.{Passes, Solvable, Unsolvable, Breaks, Changes, Misses, Superfluous}
use Rattle.equations.specs.Line.{line_mark}
use Rattle.equations.specs.LineReasons.{line_reason}
use Rattle.system.specs.Lines.{line_shown}
use Rattle.words.specs.Words.{words_in, words_of, entry_kind, multiplier_kind}
use Rattle.ledger.specs.Ledger.{Ledger, modulus_of, unknowns_of, lines_in}
use Rattle.ledger.specs.Shapes.{claim_from}
use Rattle.ledger.specs.Block.{counts_for}

-- "Pass if the described vectors are those that solve the ledger's equations, fail otherwise.", each line mod its q; and "right but long"
abbrev pub claim_mark : Ledger → List ℕ → Mark
claim_mark l ws = line_mark (modulus_of l) (unknowns_of l) (lines_in l) (claim_from (unknowns_of l) (words_in ws))

-- "The tool gives the first of these that holds"
abbrev pub claim_reason : Ledger → List ℕ → Reason
claim_reason l ws = line_reason (modulus_of l) (unknowns_of l) (lines_in l) (claim_from (unknowns_of l) (words_in ws))

-- the numbers that are shown beside it
abbrev pub reason_numbers : Ledger → List ℕ → List ℕ
reason_numbers l ws = line_shown (modulus_of l) (unknowns_of l) (lines_in l) (claim_from (unknowns_of l) (words_in ws))

-- "It writes words of kinds 6 and 7 as the answer does": the entries of a vector, or multipliers
abbrev pub shown_kind : Reason → ℕ
shown_kind Passes = entry_kind
shown_kind Solvable = entry_kind
shown_kind Unsolvable = multiplier_kind
shown_kind (Breaks equation) = entry_kind
shown_kind (Changes step equation) = entry_kind
shown_kind Misses = entry_kind
shown_kind (Superfluous step) = entry_kind

unfoldable pub reason_words : Ledger → List ℕ → List ℕ
reason_words l ws = words_of (shown_kind (claim_reason l ws)) (reason_numbers l ws)

-- how much room question 8 asks for: "a multiplier, and an entry that the reason tool shows, counts two words when m is above 2^28"
unfoldable pub reason_room : Ledger → List ℕ → ℕ
reason_room l ws = length (reason_numbers l ws) * counts_for (modulus_of l)
