-- The memory of the first k words, and what lies behind it.
--   front-length-zero, ..   how much memory it is, by cases
--   front_two, front_fits   two memory words for each word at most, and no more than there are
--   front_takes             one at least
--   front_length_lem            as many as that
--   parted                  both are the whole
--   front_words, behind_words   they read as the first k words and the others
--   first_cut, front_cut    where enough memory is seen, the first word and the first k words are those of the whole
use mathlib.Core.Path.{◌≡◌, refl, sym, ap, ap₂, ◌∙◌}
use mathlib.Core.List.{List, [], ◌∷◌, ◌++◌}
use mathlib.Core.Bool.{Bool, true, false}
use Prim.Native.Nat.{ℕ, zero, suc, ◌+◌, ◌-◌, ◌*◌, ◌<◌, ◌≤◌}
use native.Mathlib.Omega.{arith}
use lib.ListN.{length, take, drop, length-drop, take-append-drop}
use lib.Seq.{take-nil, take-add, drop-drop, length-take-le}
use Rattle.words.specs.declared.unpacking.Word.{Word}
use Rattle.words.specs.Words.{carries, word_of, words_in}
use Rattle.words.specs.Fronts.{first_of, first_word, first_length, front_length, front, behind, front_some}
use Rattle.words.proofs.Tops.{along, words_none, words_one, words_pair, words_single, words_first}
use Rattle.words.proofs.Tops.{first-none, first-last, first_pair, first_single, first_two, first_fits}

-- ---- how much memory

pub front-length-zero : (ws : List ℕ) → front_length 0 ws ≡ 0
unfolding front_length
front-length-zero ws = refl

pub front-length-suc : (k : ℕ) (ws : List ℕ) → front_length (suc k) ws ≡ first_length ws + front_length k (drop (first_length ws) ws)
unfolding front_length
front-length-suc k ws = refl

pub front-length-none : (k : ℕ) → front_length k [] ≡ 0
front-length-none zero = front-length-zero []
front-length-none (suc k) = front-length-suc k [] ∙ rw first-none (omega (arith, front-length-none k))

pub front_two : (k : ℕ) (ws : List ℕ) → front_length k ws ≤ 2 * k
front_two zero ws = omega (arith, front-length-zero ws)
front_two (suc k) ws =
    omega (arith, front-length-suc k ws, first_two ws, front_two k (drop (first_length ws) ws))

pub front_fits : (k : ℕ) (ws : List ℕ) → front_length k ws ≤ length ws
front_fits zero ws = omega (arith, front-length-zero ws)
front_fits (suc k) ws =
    let rest = drop (first_length ws) ws in
    omega (arith, front-length-suc k ws, first_fits ws, front_fits k rest, length-drop (first_length ws) ws)

pub front_takes : (k : ℕ) (ws : List ℕ) → 0 < k → 0 < length ws → 0 < front_length k ws
front_takes k [] h some = absurd (omega arith)
front_takes k (w ∷ ws) h some = front_some k w ws h

pub front_length_lem : (k : ℕ) (ws : List ℕ) → length (front k ws) ≡ front_length k ws
front_length_lem k ws = length-take-le (front_length k ws) ws (front_fits k ws)

-- ---- a first word is the same where less is behind it

module _ (n : ℕ) where
  abbrev Kept : List ℕ → Type 0
  Kept ws =
      0 < length ws → words_in (take (first_length ws + n) ws) ≡ first_word ws ∷ words_in (take n (drop (first_length ws) ws))

  kept-last : (w : ℕ) → Kept (w ∷ [])
  kept-last w h =
      rw (first-last w, take-add 1 n (w ∷ []), take-nil {A = ℕ} n, words_none)
      (words_one w ∙ ap (λ (first : Word). first ∷ []) (sym (ap first_of (words_one w))))

  kept_pair : (w v : ℕ) (ws : List ℕ) → carries w v ≡ true → Kept ws → Kept (w ∷ v ∷ ws)
  kept_pair w v ws h _ _ =
      rw (first_pair w v ws h, words_pair w v ws h, take-add 2 n (w ∷ v ∷ ws)) (words_pair w v (take n ws) h)

  alone : (w v : ℕ) (ws : List ℕ) (i : ℕ) → carries w v ≡ false
      → words_in (w ∷ take i (v ∷ ws)) ≡ word_of w ∷ words_in (take i (v ∷ ws))
  alone w v ws zero h = words_one w ∙ ap (λ (words : List Word). word_of w ∷ words) (sym words_none)
  alone w v ws (suc i) h = words_single w v (take i ws) h

  kept_single : (w v : ℕ) (ws : List ℕ) → carries w v ≡ false → Kept (v ∷ ws) → Kept (w ∷ v ∷ ws)
  kept_single w v ws h _ _ =
      rw (first_single w v ws h, words_single w v ws h, take-add 1 n (w ∷ v ∷ ws)) (alone w v ws n h)

  first-kept : (ws : List ℕ) → Kept ws
  first-kept = along Kept (λ h. absurd (omega arith)) kept-last kept_pair kept_single

-- ---- front and behind

pub parted : (k : ℕ) (ws : List ℕ) → front k ws ++ behind k ws ≡ ws
parted k ws = take-append-drop (front_length k ws) ws

pub front_words : (k : ℕ) (ws : List ℕ) → words_in (front k ws) ≡ take k (words_in ws)
front_words zero ws = rw (front-length-zero ws) words_none
front_words (suc k) [] = rw (front-length-none (suc k), words_none) refl
front_words (suc k) (w ∷ ws) =
    let whole = w ∷ ws in
    let rest = drop (first_length whole) whole in
    ap (λ (n : ℕ). words_in (take n whole)) (front-length-suc k whole)
    ∙ first-kept (front_length k rest) whole (omega arith)
    ∙ ap (λ (words : List Word). first_word whole ∷ words) (front_words k rest)
    ∙ ap (take (suc k)) (sym (words_first whole (omega arith)))

pub behind_words : (k : ℕ) (ws : List ℕ) → words_in (behind k ws) ≡ drop k (words_in ws)
behind_words zero ws = rw (front-length-zero ws) refl
behind_words (suc k) [] = rw (front-length-none (suc k), words_none) refl
behind_words (suc k) (w ∷ ws) =
    let whole = w ∷ ws in
    let rest = drop (first_length whole) whole in
    ap (λ (n : ℕ). words_in (drop n whole)) (front-length-suc k whole)
    ∙ ap words_in (sym (drop-drop (front_length k rest) (first_length whole) whole))
    ∙ behind_words k rest
    ∙ ap (drop (suc k)) (sym (words_first whole (omega arith)))

-- ---- enough memory is seen

first_seen : (w v : ℕ) (ws rest : List ℕ) (b : Bool) → carries w v ≡ b → first_word (w ∷ v ∷ ws) ≡ first_word (w ∷ v ∷ rest)
first_seen w v ws rest true h = ap first_of (words_pair w v ws h) ∙ sym (ap first_of (words_pair w v rest h))
first_seen w v ws rest false h = ap first_of (words_single w v ws h) ∙ sym (ap first_of (words_single w v rest h))

pub first_cut : (ws : List ℕ) → first_word (take 2 ws) ≡ first_word ws
first_cut [] = refl
first_cut (w ∷ []) = refl
first_cut (w ∷ v ∷ ws) = first_seen w v [] ws (carries w v) refl

abbrev Long : ℕ → List ℕ → Type 0
Long c ws = first_length ws ≤ c → first_length (take c ws) ≡ first_length ws

long_pair : (c w v : ℕ) (ws : List ℕ) → carries w v ≡ true → Long c (w ∷ v ∷ ws)
long_pair zero w v ws h few = absurd (omega (arith, first_pair w v ws h))
long_pair (suc zero) w v ws h few = absurd (omega (arith, first_pair w v ws h))
long_pair (suc (suc c)) w v ws h few = first_pair w v (take c ws) h ∙ sym (first_pair w v ws h)

long_single : (c w v : ℕ) (ws : List ℕ) → carries w v ≡ false → Long c (w ∷ v ∷ ws)
long_single zero w v ws h few = absurd (omega (arith, first_single w v ws h))
long_single (suc zero) w v ws h few = first-last w ∙ sym (first_single w v ws h)
long_single (suc (suc c)) w v ws h few = first_single w v (take c ws) h ∙ sym (first_single w v ws h)

long-last : (c w : ℕ) → Long c (w ∷ [])
long-last zero w few = absurd (omega (arith, first-last w))
long-last (suc c) w few = ap (λ (z : List ℕ). first_length (w ∷ z)) (take-nil {A = ℕ} c)

long_cut : (c : ℕ) (ws : List ℕ) → Long c ws
long_cut c =
    along (Long c) (λ few. ap first_length (take-nil {A = ℕ} c)) (long-last c) (λ w v ws h _. long_pair c w v ws h)
    (λ w v ws h _. long_single c w v ws h)

drop_cut : (i c : ℕ) (ws : List ℕ) → drop i (take (i + c) ws) ≡ take c (drop i ws)
drop_cut zero c ws = let none : 0 + c ≡ c = omega arith in ap (λ (n : ℕ). take n ws) none
drop_cut (suc i) c [] = rw (take-nil {A = ℕ} (suc i + c), take-nil {A = ℕ} c)
drop_cut (suc i) c (w ∷ ws) =
    let more : suc i + c ≡ suc (i + c) = omega arith in
    ap (λ (n : ℕ). drop (suc i) (take n (w ∷ ws))) more ∙ drop_cut i c ws

pub front_cut : (k c : ℕ) (ws : List ℕ) → front_length k ws ≤ c → front_length k (take c ws) ≡ front_length k ws
front_cut zero c ws few = front-length-zero (take c ws) ∙ sym (front-length-zero ws)
front_cut (suc k) c ws few =
    let n = first_length ws in
    let parts = front-length-suc k ws in
    let left : c ≡ n + (c - n) = omega (arith, parts) in
    let same : first_length (take c ws) ≡ n = long_cut c ws (omega (arith, parts)) in
    front-length-suc k (take c ws)
    ∙ ap₂ ◌+◌ same
    (ap₂ (λ (i j : ℕ). front_length k (drop i (take j ws))) same left
    ∙ ap (front_length k) (drop_cut n (c - n) ws)
    ∙ front_cut k (c - n) (drop n ws) (omega (arith, parts)))
    ∙ sym parts
