-- A claim by what is seen of its words, `claim_seen`: the kinds and the head tell whether the words are one.
use mathlib.Core.Path.{◌≡◌, refl, ap, ◌∙◌}
use mathlib.Core.Bool.{Bool, true, false, ◌&&◌, and-false}
use mathlib.Core.List.{List, [], ◌∷◌}
use Prim.Native.Nat.{ℕ, ◌*◌, ◌<◌, ◌≤◌, min}
use native.Mathlib.Nat.{mul-le-mul}
use native.Mathlib.Omega.{arith}
use lib.Dec.{T, leb, leb→le}
use lib.ListN.{length, take, get_or, replicate, length-replicate}
use Rattle.slices.specs.Over.{over}
use Rattle.equations.specs.Vectors.{same_vector}
use Rattle.words.specs.declared.unpacking.Word.{Word}
use Rattle.words.specs.Words.{words_in, kinds_of, numbers_of, have_kinds, head_kind, entry_kind}
use Rattle.words.proofs.Words.{kind_of, number_of}
use Rattle.words.proofs.Unpacked.{kinds_seen, part_seen}
use Rattle.ledger.specs.Ledger.{most_unknowns}
use Rattle.ledger.specs.Shapes.{number_at, is_claim, largest_head}
use Rattle.asking.specs.Sees.{claim_room}

-- a second test counts only where the first holds
and_where : (b : Bool) {x y : Bool} → (T b → x ≡ y) → (b && x) ≡ (b && y)
and_where true same = same tt
and_where false same = refl

module _ (n : ℕ) (few : n ≤ most_unknowns) where
  abbrev kinds_by : ℕ → List ℕ
  kinds_by head = head_kind ∷ replicate (head * n) entry_kind

  kinds_fit : (head : ℕ) → T (leb head largest_head) → length (kinds_by head) < claim_room
  kinds_fit head most =
      omega (
        arith,
        length-replicate (head * n) entry_kind,
        mul-le-mul {n₁ = head} {m₁ = n} {n₂ = largest_head} {m₂ = most_unknowns} (leb→le head largest_head most) few,
      )

  -- without a word there is no head: whatever is taken for its number, no kinds at all are not a claim's
  head_seen : (words : List Word) {head : ℕ} → (0 < length words → head ≡ number_at words 0)
      → (leb head largest_head && have_kinds words (kinds_by head)) ≡ is_claim n words
  head_seen [] {head} is = and-false (leb head largest_head)
  head_seen (w ∷ words) is =
      ap (λ (head : ℕ). leb head largest_head && have_kinds (w ∷ words) (kinds_by head)) (is (omega arith))

  abbrev pub claim_by : ℕ → List ℕ → Bool
  claim_by head kinds = leb head largest_head && same_vector kinds (head_kind ∷ replicate (head * n) entry_kind)

  pub claim_seen : (ws kinds₀ numbers₀ : List ℕ) {r : ℕ} {kinds numbers : List ℕ} → r ≡ min claim_room (length (words_in ws))
      → kinds ≡ over (take claim_room (kinds_of (words_in ws))) kinds₀
      → numbers ≡ over (take claim_room (numbers_of (words_in ws))) numbers₀
      → claim_by (get_or numbers 0 0) (take r kinds) ≡ is_claim n (words_in ws)
  claim_seen ws kinds₀ numbers₀ {r} {kinds} {numbers} count ks xs =
      let head = get_or numbers 0 0 in
      and_where (leb head largest_head) (λ most. kinds_seen kind_of claim_room ws kinds₀ ks count (kinds_by head) (kinds_fit head most))
      ∙ head_seen (words_in ws) (part_seen number_of claim_room ws numbers₀ xs 0 (omega arith))
