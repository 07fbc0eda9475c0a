-- The questions about a safe, asked of what the code sees, and what is known of a safe that they let in.
--   size-allowed                 what the question of the size says
--   values_count                 the question of the kinds says how many values there are
--   size-asked                   the code asks for the size by the number of locks, which is none where it is not allowed
--   kinds_asked, numbers_asked   where the questions so far have the answer yes, what is seen tells the next answer
--   accepted                     what is known where no question about the arguments turns the safe away
use mathlib.Core.Bool.{Bool, true, false, cond, ◌&&◌}
use mathlib.Core.List.{List}
use Rattle.std.proofs.Common.{Some, None}
use mathlib.Core.Path.{◌≡◌, refl, sym, ap, ◌∙◌}
use Prim.Native.Nat.{ℕ, ◌*◌, ◌≤◌, ◌<◌, min}
use native.Mathlib.Nat.{mul-pos}
use native.Mathlib.Omega.{arith}
use lib.Dec.{T, leb, leb→le}
use lib.ListN.{length, take, replicate, length-replicate}
use mir.Facts.{and_yes}
use Rattle.slices.specs.Over.{over}
use Rattle.questions.specs.Questions.{first_no, largest_modulus}
use Rattle.questions.proofs.Questions.{all_yes, within_range}
use Rattle.equations.specs.Vectors.{same_vector}
use Rattle.equations.specs.Multipliers.{all_below}
use Rattle.equations.proofs.Truth.{true_of}
use Rattle.equations.proofs.Vectors.{all-below}
use Rattle.words.specs.declared.unpacking.Word.{Word}
use Rattle.words.specs.Words.{entry_kind, words_in, kinds_of, numbers_of, have_kinds}
use Rattle.words.proofs.Compared.{kinds_length}
use Rattle.words.proofs.Words.{kind_of, number_of, parts_count}
use Rattle.words.proofs.Unpacked.{kinds_seen, parts_seen}
use Rattle.safe.specs.Calls.{most_locks, allowed_size, argument_questions}
use Rattle.safe.specs.Model.Handed.{values_room, Lockable}

-- ---- the size

pub size-allowed : (rows columns : ℕ) → T (allowed_size rows columns)
    → (1 ≤ rows) × (1 ≤ columns) × (rows * columns ≤ most_locks)
size-allowed rows columns t =
    let a = and_yes (leb 1 rows && leb 1 columns) (leb (rows * columns) most_locks) t in
    let b = and_yes (leb 1 rows) (leb 1 columns) a.0 in
    (leb→le 1 rows b.0, leb→le 1 columns b.1, leb→le (rows * columns) most_locks a.1)

-- ---- the words

pub values_count : (n : ℕ) (words : List Word) → T (have_kinds words (replicate n entry_kind)) → n ≡ length words
values_count n words t =
    let same = true_of (have_kinds words (replicate n entry_kind)) t in
    omega (
      arith,
      kinds_length (kinds_of words) (replicate n entry_kind) same,
      parts_count kind_of words,
      length-replicate n entry_kind,
    )

-- ---- what the code asks

module _ (rows columns : ℕ) where
  abbrev wanted : List ℕ
  wanted = replicate (rows * columns) entry_kind

  pub size-asked : {locks : ℕ} → Some locks ≡ cond (allowed_size rows columns) (Some (rows * columns)) None
      → (allowed_size rows columns ≡ true) × (locks ≡ rows * columns)
  size-asked {locks} is = either (allowed_size rows columns) is
    where
      either : (b : Bool) → Some locks ≡ cond b (Some (rows * columns)) None → (b ≡ true) × (locks ≡ rows * columns)
      either true same = (refl, cc)
      either false same = let z : ◌≡◌ {A = ℕ} 0 1 = cc in absurd (omega arith)

  module _ (values old : List ℕ) {r : ℕ} {new : List ℕ} (count : r ≡ min values_room (length (words_in values)))
      (size : T (allowed_size rows columns)) where
    pub kinds_asked : {locks : ℕ} → locks ≡ rows * columns → new ≡ over (take values_room (kinds_of (words_in values))) old
        → same_vector (take r new) (replicate locks entry_kind) ≡ have_kinds (words_in values) wanted
    kinds_asked {locks} is front =
        ap (λ (n : ℕ). same_vector (take r new) (replicate n entry_kind)) is
        ∙ kinds_seen kind_of values_room values old front count wanted
        (omega (arith, length-replicate (rows * columns) entry_kind, (size-allowed rows columns size).2))

    pub numbers_asked : (m : ℕ) → T (have_kinds (words_in values) wanted)
        → new ≡ over (take values_room (numbers_of (words_in values))) old
        → all_below m (take r new) ≡ all_below m (numbers_of (words_in values))
    numbers_asked m shape front =
        let few : length (words_in values) ≤ most_locks =
        omega (arith, values_count (rows * columns) (words_in values) shape, (size-allowed rows columns size).2) in
        ap (all_below m) (parts_seen number_of values_room values old front count (omega (arith, few)))

-- ---- a safe that is let in

pub accepted : (m rows columns : ℕ) (values : List ℕ) → first_no (argument_questions m rows columns values) ≡ 0
    → Lockable m rows columns (numbers_of (words_in values))
accepted m rows columns values none =
    let yes = all_yes (argument_questions m rows columns values) tt none in
    let modulus = (within_range 2 m largest_modulus).0 yes.0 in
    let size = size-allowed rows columns yes.1.0 in
    let some : 0 < rows * columns = mul-pos size.0 size.1 in
    let count : rows * columns ≡ length (numbers_of (words_in values)) =
    values_count (rows * columns) (words_in values) yes.1.1.1.0 ∙ sym (parts_count number_of (words_in values)) in
    record {
      modulus = modulus.0;
      largest = modulus.1;
      row = size.1;
      count = count;
      has_locks = omega arith;
      few = omega arith;
      residues = (all-below m (numbers_of (words_in values))).0 yes.1.1.1.1.0;
    }
