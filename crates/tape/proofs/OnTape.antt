-- The words of a tape, and those of its rest.
--   words_length, -first   how many they are, and the first
--   words_on_lem               one word more of the first i
--   words_taken            the first c, or all where there are fewer
--   words_behind           those behind the first c are the words of the rest
use mathlib.Core.Path.{◌≡◌, refl, sym, ap, ◌∙◌}
use mathlib.Core.List.{List, [], ◌∷◌, ◌++◌}
use Prim.Native.Nat.{ℕ, zero, suc, ◌+◌, ◌-◌, ◌*◌, ◌/◌, ◌≤◌, ◌<◌, min}
use native.Mathlib.Numerals.{add-one}
use native.Mathlib.Omega.{arith}
use lib.ListN.{length, take, drop, get_or, set, length-drop}
use lib.Seq.{drop-drop}
use Rattle.slices.specs.Over.{over}
use Rattle.slices.proofs.Over.{over-one}
use Rattle.tape.specs.Bytes.{word_at, words_within, words_on}

pub within-length : (c : ℕ) (b : List ℕ) → length (words_within c b) ≡ c
within-length zero b = refl
within-length (suc c) b = ap suc (within-length c (drop 4 b))

pub words_length : (b : List ℕ) → length (words_on b) ≡ length b / 4
unfolding words_on
words_length b = within-length (length b / 4) b

within_first : (c : ℕ) (b : List ℕ) → 0 < c → get_or (words_within c b) 0 0 ≡ word_at b
within_first zero b some = absurd (omega arith)
within_first (suc c) b some = refl

pub words_first : (b : List ℕ) → 4 ≤ length b → get_or (words_on b) 0 0 ≡ word_at b
unfolding words_on
words_first b whole = within_first (length b / 4) b (omega arith)

-- four bytes less, and then four for each of c words, are four for each of c and one words
four_more : (c : ℕ) (b : List ℕ) → drop (4 * c) (drop 4 b) ≡ drop (4 * suc c) b
four_more c b =
    let same : 4 + 4 * c ≡ 4 * suc c = omega arith in
    drop-drop (4 * c) 4 b ∙ ap (λ (k : ℕ). drop k b) same

within_on : (i : ℕ) (b : List ℕ) → words_within (suc i) b ≡ words_within i b ++ (word_at (drop (4 * i) b) ∷ [])
within_on zero b = refl
within_on (suc i) b =
    ap (λ (ws : List ℕ). word_at b ∷ ws) (within_on i (drop 4 b))
    ∙ ap (λ (rest : List ℕ). word_at b ∷ (words_within i (drop 4 b) ++ (word_at rest ∷ []))) (four_more i b)

pub words_on_lem : (i w : ℕ) (b old : List ℕ) {new : List ℕ} → i < length old → w ≡ word_at (drop (4 * i) b)
    → new ≡ over (words_within i b) old → set new i w ≡ over (words_within (i + 1) b) old
words_on_lem i w b old {new} room is front =
    ap (λ (z : List ℕ). set z i w) front ∙ ap (λ (k : ℕ). set (over (words_within i b) old) k w) (sym (within-length i b))
    ∙ over-one (words_within i b) old w (omega (arith, within-length i b))
    ∙ ap (λ (x : ℕ). over (words_within i b ++ (x ∷ [])) old) is
    ∙ ap (λ (ws : List ℕ). over ws old) (sym (within_on i b) ∙ ap (λ (k : ℕ). words_within k b) (sym (add-one i)))

within_taken : (c k : ℕ) (b : List ℕ) → take c (words_within k b) ≡ words_within (min c k) b
within_taken zero k b = let none : 0 ≡ min 0 k = omega arith in ap (λ (c : ℕ). words_within c b) none
within_taken (suc c) zero b = let none : 0 ≡ min (suc c) 0 = omega arith in ap (λ (k : ℕ). words_within k b) none
within_taken (suc c) (suc k) b =
    let one : suc (min c k) ≡ min (suc c) (suc k) = omega arith in
    ap (λ (ws : List ℕ). word_at b ∷ ws) (within_taken c k (drop 4 b)) ∙ ap (λ (j : ℕ). words_within j b) one

pub words_taken : (c : ℕ) (b : List ℕ) → take c (words_on b) ≡ words_within (min c (length b / 4)) b
unfolding words_on
words_taken c b = within_taken c (length b / 4) b

within-behind : (c k : ℕ) (b : List ℕ) → drop c (words_within k b) ≡ words_within (k - c) (drop (4 * c) b)
within-behind zero k b = let all : k ≡ k - 0 = omega arith in ap (λ (c : ℕ). words_within c b) all
within-behind (suc c) zero b =
    let none : 0 ≡ 0 - suc c = omega arith in
    ap (λ (k : ℕ). words_within k (drop (4 * suc c) b)) none
within-behind (suc c) (suc k) b =
    let same : k - c ≡ suc k - suc c = omega arith in
    within-behind c k (drop 4 b) ∙ ap (words_within (k - c)) (four_more c b)
    ∙ ap (λ (j : ℕ). words_within j (drop (4 * suc c) b)) same

pub words_behind : (c : ℕ) (b : List ℕ) → words_on (drop (4 * c) b) ≡ drop c (words_on b)
unfolding words_on
words_behind c b =
    let fewer : length (drop (4 * c) b) / 4 ≡ length b / 4 - c = omega (arith, length-drop (4 * c) b) in
    ap (λ (k : ℕ). words_within k (drop (4 * c) b)) fewer ∙ sym (within-behind c (length b / 4) b)
