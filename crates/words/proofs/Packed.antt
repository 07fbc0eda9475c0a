-- Words as they are written.
--   words_small, words_large     a number below 2 ^ 28, and one from there on
--   length-small, length_large   how many memory words it takes,
--   length_kind                  whatever the kind
--   length_two, written_two      two for each number at most
--   written_sum                  what each takes, summed up
--   written_one                  one for each where all are below 2 ^ 28
--   written_kind                 as many whatever the kind
--   words_of_append              the words of two lists of numbers
--   words_on_lem, words_length_on    one number more
--   words_parted, words_end      how much memory that is; all of them
--   words_back_then, words_back  what is read back
--   front_back                   and how much memory it takes, whatever lies behind it
use mathlib.Core.Path.{◌≡◌, refl, sym, ap, ap₂, ◌∙◌}
use mathlib.Core.List.{List, [], ◌∷◌, ◌++◌, map, append_assoc, append-nil}
use mathlib.Core.Bool.{Bool, true, false, false≢true}
use Prim.Native.Nat.{ℕ, suc, ◌+◌, ◌*◌, ◌/◌, ◌%◌, ◌<◌, ◌≤◌}
use native.Mathlib.Numerals.{add-one}
use native.Mathlib.Omega.{arith}
use lib.ListN.{length, take, drop, get_or, length-append, take-append-drop}
use lib.Seq.{take-suc, take_all, drop-cons, drop_at}
use lib.Dec.{ltb}
use borrow.Author.Tests.{eq-eqb, le-leb, ltb-true, ltb-false, lt-ltb}
use Rattle.std.specs.List.{sum}
use Rattle.std.proofs.lemmas.List.Sums.{sum_by-cons}
use Rattle.equations.specs.Vectors.{Below}
use Rattle.words.specs.declared.unpacking.Word.{Word}
use Rattle.words.specs.Words.{numbers_of_a_kind, word_of, word, top_kind, takes_top, carries, words_in, words_for, words_of}
use Rattle.words.specs.Fronts.{first_length, front_length}
use Rattle.words.specs.Promises.{numbers_of_a_word}
use Rattle.words.proofs.Words.{word_kind, word_number}
use Rattle.words.proofs.Tops.{words_pair, words_other, words_none, first_pair, first_other}
use Rattle.words.proofs.Fronts.{front-length-suc}

-- ---- one number

module _ (k x : ℕ) where
  pub words_small : ltb x numbers_of_a_kind ≡ true → words_for k x ≡ word k x ∷ []
  unfolding words_for
  words_small h = rw h refl

  pub words_large : ltb x numbers_of_a_kind ≡ false
      → words_for k x ≡ word top_kind (x / numbers_of_a_kind) ∷ word k (x % numbers_of_a_kind) ∷ []
  unfolding words_for
  words_large h = rw h refl

  pub length-small : ltb x numbers_of_a_kind ≡ true → length (words_for k x) ≡ 1
  length-small h = ap length (words_small h)

  pub length_large : ltb x numbers_of_a_kind ≡ false → length (words_for k x) ≡ 2
  length_large h = ap length (words_large h)

either_size : (P : Type 0) (x : ℕ) → (ltb x numbers_of_a_kind ≡ true → P) → (ltb x numbers_of_a_kind ≡ false → P) → P
either_size P x small large = by (ltb x numbers_of_a_kind) refl
  where
    by : (b : Bool) → ltb x numbers_of_a_kind ≡ b → P
    by true h = small h
    by false h = large h

pub length_two : (k x : ℕ) → length (words_for k x) ≤ 2
length_two k x =
    either_size (length (words_for k x) ≤ 2) x (λ h. omega (arith, length-small k x h)) (λ h. omega (arith, length_large k x h))

pub length_kind : (k j x : ℕ) → length (words_for k x) ≡ length (words_for j x)
length_kind k j x =
    either_size (length (words_for k x) ≡ length (words_for j x)) x (λ h. length-small k x h ∙ sym (length-small j x h))
    (λ h. length_large k x h ∙ sym (length_large j x h))

-- ---- many

length-cons : (k x : ℕ) (xs : List ℕ) → length (words_of k (x ∷ xs)) ≡ length (words_for k x) + length (words_of k xs)
length-cons k x xs = length-append (words_for k x) (words_of k xs)

pub written_two : (k : ℕ) (xs : List ℕ) → length (words_of k xs) ≤ 2 * length xs
written_two k [] = omega arith
written_two k (x ∷ xs) = omega (arith, length-cons k x xs, length_two k x, written_two k xs)

pub written_sum : (k : ℕ) (xs : List ℕ) → sum (map (λ (x : ℕ). length (words_for k x)) xs) ≡ length (words_of k xs)
written_sum k [] = refl
written_sum k (x ∷ xs) =
    let lengths = map (λ (y : ℕ). length (words_for k y)) xs in
    omega (arith, length-cons k x xs, written_sum k xs, sum_by-cons (λ y. y) (length (words_for k x)) lengths)

pub written_one : (k : ℕ) (xs : List ℕ) → Below numbers_of_a_kind xs → length (words_of k xs) ≡ length xs
written_one k [] h = refl
written_one k (x ∷ xs) h =
    omega (arith, length-cons k x xs, length-small k x (lt-ltb x numbers_of_a_kind h.0), written_one k xs h.1)

pub written_kind : (k j : ℕ) (xs : List ℕ) → length (words_of k xs) ≡ length (words_of j xs)
written_kind k j [] = refl
written_kind k j (x ∷ xs) =
    length-cons k x xs ∙ ap₂ ◌+◌ (length_kind k j x) (written_kind k j xs) ∙ sym (length-cons j x xs)

pub words_of_append : (k : ℕ) (xs ys : List ℕ) → words_of k (xs ++ ys) ≡ words_of k xs ++ words_of k ys
words_of_append k [] ys = refl
words_of_append k (x ∷ xs) ys =
    ap (λ (z : List ℕ). words_for k x ++ z) (words_of_append k xs ys)
    ∙ sym (append_assoc (words_for k x) (words_of k xs) (words_of k ys))

module _ (xs : List ℕ) (i : ℕ) (at : i < length xs) where
  pub words_on_lem : (k : ℕ) → words_of k (take (i + 1) xs) ≡ words_of k (take i xs) ++ words_for k (get_or xs i 0)
  words_on_lem k =
      ap (λ (n : ℕ). words_of k (take n xs)) (add-one i) ∙ ap (words_of k) (take-suc xs i 0 at)
      ∙ words_of_append k (take i xs) (get_or xs i 0 ∷ [])
      ∙ ap (λ (z : List ℕ). words_of k (take i xs) ++ z) (append-nil (words_for k (get_or xs i 0)))

  pub words_length_on : (k : ℕ)
      → length (words_of k (drop i xs)) ≡ length (words_for k (get_or xs i 0)) + length (words_of k (drop (i + 1) xs))
  words_length_on k =
      ap (λ (z : List ℕ). length (words_of k z)) (drop-cons xs i 0 at)
      ∙ length-cons k (get_or xs i 0) (drop (suc i) xs)
      ∙ ap (λ (n : ℕ). length (words_for k (get_or xs i 0)) + length (words_of k (drop n xs))) (sym (add-one i))

  pub words_parted : (k : ℕ) → length (words_of k (take i xs)) + length (words_for k (get_or xs i 0)) ≤ length (words_of k xs)
  words_parted k =
      omega (
        arith,
        ap (λ (z : List ℕ). length (words_of k z)) (sym (take-append-drop i xs)),
        ap length (words_of_append k (take i xs) (drop i xs)),
        length-append (words_of k (take i xs)) (words_of k (drop i xs)),
        words_length_on k,
      )

pub words_end : (xs : List ℕ) (i k : ℕ) → length xs ≤ i → words_of k (take i xs) ≡ words_of k xs
words_end xs i k h = ap (words_of k) (take_all i xs h)

-- ---- read back

abbrev pub numbered : ℕ → ℕ → Word
numbered k x = record { kind = k; number = x }

module _ (k : ℕ) (takes : takes_top k ≡ true) where
  no_top : k ≡ top_kind → ⊥
  no_top e = false≢true (ap takes_top (sym e) ∙ takes)

  module _ (x : ℕ) (ws : List ℕ) where
    back_small : x < numbers_of_a_kind → words_in (word k x ∷ ws) ≡ numbered k x ∷ words_in ws
    back_small h =
        words_other (word k x) ws (λ e. no_top (sym (word_kind k x h) ∙ e))
        ∙ ap (λ (first : Word). first ∷ words_in ws) (ap₂ numbered (word_kind k x h) (word_number k x h))

    abbrev low : ℕ
    low = word k (x % numbers_of_a_kind)

    abbrev top : ℕ
    top = word top_kind (x / numbers_of_a_kind)

    module _ (h : numbers_of_a_kind ≤ x) (g : x < numbers_of_a_word) where
      kind_low : (word_of low).kind ≡ k
      kind_low = word_kind k (x % numbers_of_a_kind) (omega arith)

      number_top : (word_of top).number ≡ x / numbers_of_a_kind
      number_top = word_number top_kind (x / numbers_of_a_kind) (omega arith)

      good : carries top low ≡ true
      unfolding carries
      good =
          rw (
            eq-eqb (word_of top).kind top_kind (word_kind top_kind (x / numbers_of_a_kind) (omega arith)),
            le-leb 1 (word_of top).number (omega (arith, number_top)),
            le-leb (word_of top).number 15 (omega (arith, number_top)),
          )
          (ap takes_top kind_low ∙ takes)

      whole : (word_of top).number * numbers_of_a_kind + (word_of low).number ≡ x
      whole = omega (arith, number_top, word_number k (x % numbers_of_a_kind) (omega arith))

      back_large : words_in (top ∷ low ∷ ws) ≡ numbered k x ∷ words_in ws
      back_large = words_pair top low ws good ∙ ap (λ (first : Word). first ∷ words_in ws) (ap₂ numbered kind_low whole)

    word_back : x < numbers_of_a_word → words_in (words_for k x ++ ws) ≡ numbered k x ∷ words_in ws
    word_back g =
        either_size (words_in (words_for k x ++ ws) ≡ numbered k x ∷ words_in ws) x
        (λ h. ap (λ (z : List ℕ). words_in (z ++ ws)) (words_small k x h) ∙ back_small (ltb-true x numbers_of_a_kind h))
        (λ h. ap (λ (z : List ℕ). words_in (z ++ ws)) (words_large k x h) ∙ back_large (ltb-false x numbers_of_a_kind h) g)

  pub words_back_then : (xs ws : List ℕ) → Below numbers_of_a_word xs → words_in (words_of k xs ++ ws) ≡ map (numbered k) xs ++ words_in ws
  words_back_then [] ws h = refl
  words_back_then (x ∷ xs) ws h =
      ap words_in (append_assoc (words_for k x) (words_of k xs) ws) ∙ word_back x (words_of k xs ++ ws) h.0
      ∙ ap (λ (words : List Word). numbered k x ∷ words) (words_back_then xs ws h.1)

  pub words_back : (xs : List ℕ) → Below numbers_of_a_word xs → words_in (words_of k xs) ≡ map (numbered k) xs
  words_back xs h =
      ap words_in (sym (append-nil (words_of k xs))) ∙ words_back_then xs [] h
      ∙ ap (λ (words : List Word). map (numbered k) xs ++ words) words_none ∙ append-nil (map (numbered k) xs)

  -- ---- how much memory

  first_back : (x : ℕ) (ws : List ℕ) → x < numbers_of_a_word → first_length (words_for k x ++ ws) ≡ length (words_for k x)
  first_back x ws g =
      either_size (first_length (words_for k x ++ ws) ≡ length (words_for k x)) x
      (λ h. ap (λ (z : List ℕ). first_length (z ++ ws)) (words_small k x h)
      ∙ first_other (word k x) ws (λ e. no_top (sym (word_kind k x (ltb-true x numbers_of_a_kind h)) ∙ e)) ∙ sym (length-small k x h))
      (λ h. ap (λ (z : List ℕ). first_length (z ++ ws)) (words_large k x h)
      ∙ first_pair (top x ws) (low x ws) ws (good x ws (ltb-false x numbers_of_a_kind h) g) ∙ sym (length_large k x h))

  pub front_back : (xs ws : List ℕ) (j : ℕ) → Below numbers_of_a_word xs
      → front_length (length xs + j) (words_of k xs ++ ws) ≡ length (words_of k xs) + front_length j ws
  front_back [] ws j h = let same : 0 + j ≡ j = omega arith in ap (λ (i : ℕ). front_length i ws) same ∙ omega arith
  front_back (x ∷ xs) ws j h =
      let rest = words_of k xs ++ ws in
      let same : suc (length xs) + j ≡ suc (length xs + j) = omega arith in
      let first : first_length (words_for k x ++ rest) ≡ length (words_for k x) = first_back x rest h.0 in
      ap₂ front_length same (append_assoc (words_for k x) (words_of k xs) ws)
      ∙ front-length-suc (length xs + j) (words_for k x ++ rest)
      ∙ ap₂ (λ (l : ℕ) (s : List ℕ). l + front_length (length xs + j) s) first
      (ap (λ (l : ℕ). drop l (words_for k x ++ rest)) first ∙ drop_at (words_for k x) rest (length (words_for k x)) refl)
      ∙ omega (arith, front_back xs ws j h.1, length-cons k x xs)
