-- Words with a minus sign, document 02, S-3. Definitions only.
use Rattle.std.specs.Prelude.{Bool, cond, ◌||◌, List, map, ℕ, eqb, ℤ, pos, neg_ℤ}
use Rattle.residue.specs.Residue.{residue_of}
use Rattle.words.specs.declared.unpacking.Word.{Word}
use Rattle.words.specs.Words.{coefficient_kind, right_kind, minus_coefficient_kind, minus_right_kind}

-- whether a kind has a minus sign
abbrev pub has_minus : ℕ → Bool
has_minus kind = eqb kind minus_coefficient_kind || eqb kind minus_right_kind

-- "and may stand wherever 3 and 4 may": the kind in whose place it stands
abbrev pub without_minus : ℕ → ℕ
without_minus kind = cond (eqb kind minus_coefficient_kind) coefficient_kind (cond (eqb kind minus_right_kind) right_kind kind)

-- the number with its sign, as a whole number
abbrev pub whole_of : Word → ℤ
whole_of w = cond (has_minus w.kind) (neg_ℤ (pos w.number)) (pos w.number)

-- the kinds in whose places words stand, and the whole numbers that they say
abbrev pub plain_kinds_of : List Word → List ℕ
plain_kinds_of words = map (λ (w : Word). without_minus w.kind) words

abbrev pub wholes_of : List Word → List ℤ
wholes_of words = map whole_of words

-- "Any number of 28 bits is allowed and is brought to its residue"
abbrev pub residues_of : ℕ → List Word → List ℕ
residues_of m words = map (λ (w : Word). residue_of m (whole_of w)) words

-- a word without its sign, its number that residue
abbrev pub plain_of : ℕ → Word → Word
plain_of m w = record { kind = without_minus w.kind; number = residue_of m (whole_of w) }
