-- Minus signs and large numbers, each a theorem about the definitions that the contracts cite. All but the congruence of -1 are found by
-- computing these definitions.
use mathlib.Core.Path.{◌≡◌, refl, sym, ap, ap₂, ◌∙◌}
use mathlib.Core.List.{List, [], ◌∷◌, ◌++◌}
use Prim.Native.Nat.{ℕ, ◌+◌, ◌*◌, ◌/◌, ◌%◌, ◌<◌}
use native.Mathlib.Nat.{mul-mod_left, mod-eq_of_lt}
use native.Mathlib.Decide.{dec_lt}
use native.Mathlib.Omega.{arith}
use lib.IntN.{pos, neg_ℤ}
use lib.ListN.{replicate}
use Rattle.words.specs.Fronts.{first_length, front_length}
use Rattle.residue.specs.Congruent.{Congruent}
use Rattle.residue.specs.Negative.{negative}
use Rattle.residue.specs.Residue.{residue_of}
use Rattle.residue.specs.Euclid.{euclid}
use Rattle.residue.specs.Gcd.{gcd}
use Rattle.residue.specs.Bezout.{cofactors}
use Rattle.residue.proofs.Congruent.{congruent_refl, congruent_add}
use Rattle.residue.proofs.Solutions.{solutions_are, solutions_describe}
use Rattle.std.specs.Prelude.{Ok}
use Rattle.congruence.specs.Congruence.{congruence_of}
use Rattle.words.specs.Words.{word, words_in, coefficient_kind, right_kind, minus_coefficient_kind, minus_right_kind, carries, words_for}
use Rattle.equations.specs.Line.{lines_mod}
use Rattle.ledger.specs.Ledger.{Ledger, unopened, opened}
use Rattle.ledger.specs.Calls.{adds, meaningless, enters, queries}
use Rattle.ledger.specs.Questions.{refusal_of}
use Rattle.ledger.specs.History.{enter, ledger_from, ledger}
use Rattle.tape.specs.FirstCall.{first_call, behind_first}
use Rattle.examples.proofs.Starred.{equation, opening}
use Rattle.examples.proofs.Typed.{full}
use Rattle.residue.specs.Congruence.{spaced}
use Rattle.congruence.specs.Congruence.{solved}

-- ---- residues

-- "Any number of 28 bits is allowed and is brought to its residue"
pub largest_of_28_bits : residue_of 65535 (pos 268435455) ≡ 4095
unfolding residue_of
largest_of_28_bits = refl

pub minus_largest_of_28_bits : residue_of 65535 (neg_ℤ (pos 268435455)) ≡ 61440
unfolding residue_of negative
minus_largest_of_28_bits = refl

-- the least number of 32 bits
pub least_of_32_bits : residue_of 65535 (neg_ℤ (pos 2147483648)) ≡ 32767
unfolding residue_of negative
least_of_32_bits = refl

pub minus_one_mod_two : residue_of 2 (neg_ℤ (pos 1)) ≡ 1
unfolding residue_of negative
minus_one_mod_two = refl

-- -1·t = 1: 65,534 is the least of all u with 65,534·u ≡ 1, since 65,534·u + u is a multiple of 65,535
abbrev found : ℕ
found = (cofactors 65535 65534 65535).s * (1 / gcd 65534 65535) % (65535 / gcd 65534 65535)

coprime : gcd 65534 65535 ≡ 1
unfolding gcd euclid
coprime = refl

only_one : (t : ℕ) → Congruent 65535 (65534 * t) 1 → t < 65535 → t ≡ 65534
only_one t solves small = by (dec_lt (1 + t) 65535)
  where
    whole : 65534 * t + t ≡ t * 65535
    whole = omega arith

    multiple : (1 + t) % 65535 ≡ 0
    multiple = sym (congruent_add solves (congruent_refl {a = t})).same ∙ ap (λ (k : ℕ). k % 65535) whole ∙ mul-mod_left t 65535

    by : Dec (1 + t < 65535) → t ≡ 65534
    by (yes less) = let none : 1 + t ≡ 0 = sym (mod-eq_of_lt less) ∙ multiple in absurd (omega arith)
    by (no not-less) = omega arith

found_is : found ≡ 65534
found_is =
    let d = solutions_describe 65534 1 65535 (omega arith) (ap (λ (g : ℕ). 1 % g) coprime) in
    only_one found d.solves d.small

pub minus_t_is_one : congruence_of (neg_ℤ (pos 1)) (pos 1) 65535 ≡ solved 65534 65535
unfolding congruence_of residue_of negative
minus_t_is_one =
    ap Ok
    (solutions_are 65534 1 65535 (omega arith) (ap (λ (g : ℕ). 1 % g) coprime)
    ∙ ap₂ spaced found_is (ap (λ (g : ℕ). 65535 / g) coprime))

-- ---- adding, mod 12 with 2 unknowns

abbrev plus : ℕ → ℕ
plus a = word coefficient_kind a

abbrev minus : ℕ → ℕ
minus a = word minus_coefficient_kind a

abbrev right : ℕ → ℕ
right b = word right_kind b

abbrev minus_right : ℕ → ℕ
minus_right b = word minus_right_kind b

-- "in any mix", "minus 0 is 0": -5·x1 + 268,435,455·x2 = -30
pub any_mix :
    ledger (opening 12 2 ∷ enters (adds (minus 5 ∷ plus 268435455 ∷ minus_right 30 ∷ []))
    ∷ enters (adds (minus 0 ∷ minus 13 ∷ right 12 ∷ [])) ∷ [])
    ≡ opened 12 2 (lines_mod 12 (equation (7 ∷ 3 ∷ []) 6 ∷ equation (0 ∷ 11 ∷ []) 0 ∷ []))
unfolding ledger_from enter refusal_of words_in residue_of negative carries words_for
any_mix = refl

abbrev numbers : Ledger → List (List ℕ) → List ℕ
numbers l [] = []
numbers l (ws ∷ wss) = refusal_of l (enters (adds ws)) ∷ numbers l wss

-- 11 in a coefficient's place, 10 in the right side's, too few words and too many
abbrev pub wrong_shapes : List (List ℕ)
wrong_shapes =
    (plus 1 ∷ minus_right 1 ∷ right 1 ∷ []) ∷ (minus_right 1 ∷ plus 1 ∷ right 1 ∷ []) ∷ (plus 1 ∷ plus 1 ∷ minus 1 ∷ [])
    ∷ (minus 1 ∷ []) ∷ (minus 1 ∷ minus_right 1 ∷ []) ∷ (minus 1 ∷ minus 1 ∷ minus_right 1 ∷ minus_right 1 ∷ []) ∷ []

pub wrong_shapes_lem : numbers (opened 12 2 []) wrong_shapes ≡ replicate 6 1
unfolding refusal_of words_in carries words_for
wrong_shapes_lem = refl

abbrev right_shape : List ℕ
right_shape = minus 268435455 ∷ plus 12 ∷ minus_right 12 ∷ []

-- numbers of m and more are no reason to turn an equation away; a full sheet is, and one that is not opened
pub only_full : numbers (opened 12 2 []) (right_shape ∷ []) ≡ (0 ∷ [])
unfolding refusal_of words_in carries words_for
only_full = refl

pub full_sheet : numbers (opened 12 2 (lines_mod 12 full)) (right_shape ∷ []) ≡ (5 ∷ [])
unfolding refusal_of words_in carries words_for
full_sheet = refl

pub not_opened : numbers unopened (right_shape ∷ []) ≡ (4 ∷ [])
unfolding refusal_of words_in carries words_for
not_opened = refl

-- ---- on tape

-- "A first word of kind 10 begins an add of n+1 words as kind 3 does", of one word when unopened
pub ten_first : (ws : List ℕ)
    → (first_call (opened 12 2 []) (right_shape ++ ws) ≡ enters (adds right_shape)) × (behind_first (opened 12 2 []) (right_shape ++ ws) ≡ ws)
unfolding first_call behind_first words_in carries words_for first_length front_length
ten_first [] = (refl, refl)
ten_first (w ∷ ws) = (refl, refl)

pub ten_first_unopened : (ws : List ℕ)
    → (first_call unopened (right_shape ++ ws) ≡ enters (adds (minus 268435455 ∷ [])))
    × (behind_first unopened (right_shape ++ ws) ≡ (plus 12 ∷ minus_right 12 ∷ []) ++ ws)
unfolding first_call behind_first words_in carries words_for first_length front_length
ten_first_unopened ws = (refl, refl)

-- "11 as first word is refused with 1", opened or not
pub eleven-first : (l : Ledger) (ws : List ℕ)
    → (first_call l (minus_right 1 ∷ ws) ≡ queries (meaningless (minus_right 1 ∷ []))) × (behind_first l (minus_right 1 ∷ ws) ≡ ws)
    × (refusal_of l (queries (meaningless (minus_right 1 ∷ []))) ≡ 1)
unfolding first_call behind_first refusal_of words_in carries words_for first_length front_length
eleven-first l [] = (refl, refl, refl)
eleven-first l (w ∷ ws) = (refl, refl, refl)

-- "The printed example keeps its last line, now for wrong shape."
pub last_word : numbers (opened 2 2 (lines_mod 2 (equation (1 ∷ 1 ∷ []) 1 ∷ []))) ((minus 0 ∷ []) ∷ []) ≡ (1 ∷ [])
unfolding refusal_of words_in carries words_for
last_word = refl
