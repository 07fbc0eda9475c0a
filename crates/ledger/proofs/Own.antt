-- The words of an answer with a starting vector, read as a claim.
--   words_claim, words_entries    a head and entries in words are a claim, and have the entries that they were made of
--   line-vector, line-vectors     start and steps of lines are vectors
--   own_shape, own_entries        so it is with the words of such an answer: they are well-formed,
--   own_claim                     and claim the starting vector with the steps
use mathlib.Core.Path.{◌≡◌, refl, sym, ap, ap₂, subst, ◌∙◌}
use mathlib.Core.List.{List, [], ◌∷◌, ◌++◌, map, flatten}
use mathlib.Core.Option.{some}
use Prim.Native.Nat.{ℕ, suc, ◌*◌, ◌<◌, ◌≤◌}
use native.Mathlib.Omega.{arith}
use lib.ListN.{length, replicate, length-append}
use lib.Dec.{T, leb, le→leb}
use mir.Facts.{yes_and}
use Rattle.questions.specs.Questions.{largest_modulus}
use Rattle.equations.specs.Vectors.{Vector, AllVectors, Below}
use Rattle.equations.specs.Line.{Line, Moduli, line_start, line_steps, scaled}
use Rattle.equations.specs.Multipliers.{all_below}
use Rattle.equations.specs.Claim.{from}
use Rattle.equations.proofs.Lists.{same_of_eq}
use Rattle.equations.proofs.Vectors.{vector-length, vector-below, below-append, below_mono, all-below}
use Rattle.equations.proofs.Answer.{start_solves}
use Rattle.equations.proofs.LineAnswer.{line_start_lem, line_steps_lem}
use Rattle.equations.proofs.Listed.{flat_below, flat_length, steps_vectors, steps_few}
use Rattle.system.specs.Claims.{claim_of}
use Rattle.system.proofs.Claims.{claim_of_flat}
use Rattle.words.specs.declared.unpacking.Word.{Word}
use Rattle.words.specs.Words.{word_of, word, words_in, kinds_of, words_of, have_kinds, head_kind, entry_kind}
use Rattle.words.specs.Promises.{numbers_of_a_word}
use Rattle.words.proofs.Tops.{words_other}
use Rattle.words.proofs.Words.{kind_of, number_of, word_kind, word_number}
use Rattle.words.proofs.Packed.{numbered, words_back}
use Rattle.ledger.specs.Ledger.{opened}
use Rattle.ledger.specs.Shapes.{number_at, largest_head, is_claim, entries_of, claim_from}
use Rattle.ledger.specs.Block.{answer_words}
use Rattle.ledger.proofs.Answer.{answer_some}

module _ (h : ℕ) (xs : List ℕ) (below : Below numbers_of_a_word xs) (small : h ≤ largest_head) where
  abbrev written : List ℕ
  written = word head_kind h ∷ words_of entry_kind xs

  kind_is : (word_of (word head_kind h)).kind ≡ head_kind
  kind_is = word_kind head_kind h (omega arith)

  -- the block reads as itself
  words_written : words_in written ≡ record { kind = head_kind; number = h } ∷ map (numbered entry_kind) xs
  words_written =
      words_other (word head_kind h) (words_of entry_kind xs) (λ e. omega (arith, kind_is))
      ∙ ap₂ ◌∷◌ (ap₂ numbered kind_is (word_number head_kind h (omega arith))) (words_back entry_kind refl xs below)

  entries_of_lem : (ys : List ℕ) → map number_of (map (numbered entry_kind) ys) ≡ ys
  entries_of_lem [] = refl
  entries_of_lem (y ∷ ys) = ap (λ (zs : List ℕ). y ∷ zs) (entries_of_lem ys)

  kinds_of_lem : (ys : List ℕ) → map kind_of (map (numbered entry_kind) ys) ≡ replicate (length ys) entry_kind
  kinds_of_lem [] = refl
  kinds_of_lem (y ∷ ys) = ap (λ (ks : List ℕ). entry_kind ∷ ks) (kinds_of_lem ys)

  pub words_entries : entries_of (words_in (word head_kind h ∷ words_of entry_kind xs)) ≡ xs
  words_entries = ap entries_of words_written ∙ entries_of_lem xs

  words_head : number_at (words_in written) 0 ≡ h
  words_head = ap (λ (words : List Word). number_at words 0) words_written

  written_kinds : kinds_of (words_in written) ≡ head_kind ∷ replicate (length xs) entry_kind
  written_kinds = ap kinds_of words_written ∙ ap (λ (ks : List ℕ). head_kind ∷ ks) (kinds_of_lem xs)

  pub words_claim : (n : ℕ) → length xs ≡ h * n → T (is_claim n (words_in (word head_kind h ∷ words_of entry_kind xs)))
  words_claim n long =
      yes_and (leb (number_at (words_in written) 0) largest_head)
      (have_kinds (words_in written) (head_kind ∷ replicate (number_at (words_in written) 0 * n) entry_kind))
      (le→leb (number_at (words_in written) 0) largest_head (omega (arith, words_head)))
      (same_of_eq (kinds_of (words_in written)) (head_kind ∷ replicate (number_at (words_in written) 0 * n) entry_kind)
      (written_kinds
      ∙ ap (λ (k : ℕ). head_kind ∷ replicate k entry_kind) (long ∙ ap (λ (k : ℕ). k * n) (sym words_head))))

module _ (m n : ℕ) (pos : 0 < m) (ls : List Line) (moduli : Moduli m ls) where
  pub line-vector : (c : List ℕ) → line_start m n ls ≡ some c → Vector m n c
  line-vector c start = (start_solves m n (scaled m ls) c (sym (line_start_lem m n pos ls moduli) ∙ start)).0

  pub line-vectors : AllVectors m n (line_steps m n ls)
  line-vectors = subst (AllVectors m n) (sym (line_steps_lem m n pos ls moduli)) (steps_vectors m n (scaled m ls))

  few : length (line_steps m n ls) ≤ n
  few = subst (λ (ss : List (List ℕ)). length ss ≤ n) (sym (line_steps_lem m n pos ls moduli)) (steps_few m n (scaled m ls))

module _ (m n : ℕ) (pos : 0 < m) (ls : List Line) (moduli : Moduli m ls) (largest : m ≤ largest_modulus) (c : List ℕ)
    (start : line_start m n ls ≡ some c) where
  abbrev steps : List (List ℕ)
  steps = line_steps m n ls

  vector : Vector m n c
  vector = line-vector m n pos ls moduli c start

  vectors : AllVectors m n steps
  vectors = line-vectors m n pos ls moduli

  abbrev entries : List ℕ
  entries = c ++ flatten steps

  residues : Below m entries
  residues =
      below-append m c (flatten steps) (vector-below m n c vector)
      (flat_below m n steps vectors)

  numbers : Below numbers_of_a_word entries
  numbers = below_mono m numbers_of_a_word entries (omega arith) residues

  small : n ≤ 16 → suc (length steps) ≤ largest_head
  small unknowns = omega (arith, few m n pos ls moduli)

  entries_length : length entries ≡ suc (length steps) * n
  entries_length =
      omega (
        arith,
        length-append c (flatten steps),
        vector-length m n c vector,
        flat_length m n steps vectors,
      )

  pub own_shape : n ≤ 16 → T (is_claim n (words_in (answer_words (opened m n ls))))
  own_shape unknowns =
      subst (λ (ws : List ℕ). T (is_claim n (words_in ws))) (sym (answer_some m n ls c start))
      (words_claim (suc (length steps)) entries numbers (small unknowns) n entries_length)

  entries_are : n ≤ 16 → entries_of (words_in (answer_words (opened m n ls))) ≡ entries
  entries_are unknowns =
      ap (λ (ws : List ℕ). entries_of (words_in ws)) (answer_some m n ls c start)
      ∙ words_entries (suc (length steps)) entries numbers (small unknowns)

  pub own_entries : n ≤ 16 → T (all_below m (entries_of (words_in (answer_words (opened m n ls)))))
  own_entries unknowns =
      subst (λ (xs : List ℕ). T (all_below m xs)) (sym (entries_are unknowns)) ((all-below m entries).1 residues)

  pub own_claim : n ≤ 16 → 0 < n → claim_from n (words_in (answer_words (opened m n ls))) ≡ from c (line_steps m n ls)
  own_claim unknowns some-n =
      ap (claim_of n) (entries_are unknowns)
      ∙ claim_of_flat m n c steps some-n vector vectors
