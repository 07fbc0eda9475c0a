-- A class: its bytes one after the other, and what is given back and left of the marks.
--   map_at                          one byte of all
--   bytes_count                     there are as many as claims
--   BytesSo                         the bytes of the first i claims are written, and the claims behind them are those of the rest
--   bytes-none, bytes_more, -all    before the first claim, a claim more, and after the last
--   bytes_left                      there is a byte for the next claim,
--   bytes-full                      so no claim is left where no byte is
--   classed_asked, marks-asked      what the call gives and leaves, by its questions
--   class_refused                   a refused class
--   class_accepted, claims_few      what is said to be marked was accepted, and is at most 64 claims
--   class_few, class_fits           an accepted one: there are not too many claims, and bytes enough,
--   class_counted                   all its claims are counted,
--   class_marked                    and it is marked
use mathlib.Core.Path.{◌≡◌, refl, sym, ap, ◌∙◌}
use mathlib.Core.Bool.{Bool, true, false, cond}
use mathlib.Core.List.{List, [], ◌∷◌, map}
use mathlib.Core.Logic.{⊎_elim}
use Prim.Native.Nat.{ℕ, zero, suc, ◌+◌, ◌-◌, ◌≤◌, ◌<◌, min}
use native.Mathlib.Nat.{eq-zero-or-pos}
use native.Mathlib.Numerals.{add-one}
use native.Mathlib.Omega.{arith}
use borrow.Author.Tests.{ne_eqb, eqb-true}
use lib.Dec.{eqb, leb, leb→le}
use lib.ListN.{length, take, drop, get_or, set, length-drop, length-map}
use lib.Seq.{drop-cons}
use Rattle.std.specs.Prelude.{Ok, Err}
use Rattle.slices.specs.Over.{over}
use Rattle.slices.proofs.Parts.{lent}
use Rattle.slices.proofs.Copied.{Copied, copied_none, copied_more, copied_all}
use Rattle.questions.specs.Questions.{asks, first_no, unless_refused}
use Rattle.questions.proofs.Reply.{reply_result, reply_memory}
use Rattle.ledger.specs.Ledger.{Ledger, is_opened, unknowns_of}
use Rattle.ledger.specs.Classes.{most_claims, first_claim, claims_in}
use Rattle.ledger.specs.Calls.{classes, queries}
use Rattle.ledger.specs.Questions.{refusal_of}
use Rattle.ledger.proofs.Questions.{accepted-yes}
use Rattle.ledger.proofs.Classes.{claims_taken, claims_end}
use Rattle.asking.specs.Sees.{counted_claims}
use Rattle.sheet.specs.Calls.{marked_of, mark_byte, claims_of, class_bytes, classed_of, marks_after}

-- ---- all bytes

-- what lies from place i on
drop-first : {A : Type 0} (i : ℕ) (xs : List A) {y : A} {ys : List A} → drop i xs ≡ y ∷ ys
    → (i < length xs) × (drop (suc i) xs ≡ ys) × ((f : A → ℕ) → get_or (map f xs) i 0 ≡ f y)
drop-first zero [] {y} {ys} is = let z : 0 ≡ suc (length ys) = ap length is in absurd (omega arith)
drop-first zero (x ∷ xs) {y} is = let same : x ≡ y = cc in (omega arith, cc, λ f. ap f same)
drop-first (suc i) [] {y} {ys} is = let z : 0 ≡ suc (length ys) = ap length is in absurd (omega arith)
drop-first (suc i) (x ∷ xs) is = let rest = drop-first i xs is in (omega (arith, rest.0), rest.1, rest.2)

pub map_at : {A : Type 0} (f : A → ℕ) (xs : List A) (i : ℕ) (z : A) → i < length xs → get_or (map f xs) i 0 ≡ f (get_or xs i z)
map_at f xs i z at = (drop-first i xs (drop-cons xs i z at)).2 f

pub bytes_count : (l : Ledger) (ws : List ℕ) → length (class_bytes l ws) ≡ length (claims_of l ws)
bytes_count l ws = length-map (claims_of l ws) (λ (claim : List ℕ). mark_byte (marked_of l claim))

module _ (l : Ledger) (words old : List ℕ) where
  abbrev byte : List ℕ → ℕ
  byte claim = mark_byte (marked_of l claim)

  abbrev pub BytesSo : ℕ → List ℕ → List ℕ → Type 0
  BytesSo i rest new = Copied i (class_bytes l words) old new × (drop i (claims_of l words) ≡ claims_of l rest)

  pub bytes-none : BytesSo 0 words old
  bytes-none = (copied_none (class_bytes l words) old, refl)

  module _ (room : length (claims_of l words) ≤ length old) (i : ℕ) (rest : List ℕ) {new : List ℕ} (so_far : BytesSo i rest new) where
    module _ (some : 0 < length rest) {n used : ℕ} (same-n : n ≡ unknowns_of l) (is : used ≡ length (first_claim n rest)) where
      next : drop i (claims_of l words) ≡ take used rest ∷ claims_of l (lent used rest)
      next =
          so_far.1
          ∙ claims_taken (unknowns_of l) rest some (is ∙ ap (λ (k : ℕ). length (first_claim k rest)) same-n)

      pub bytes_left : i < length new
      bytes_left = omega (arith, (drop-first i (claims_of l words) next).0, so_far.0.1)

      pub bytes_more : {x : ℕ} → x ≡ mark_byte (marked_of l (take used rest)) → BytesSo (i + 1) (lent used rest) (set new i x)
      bytes_more made =
          let first = drop-first i (claims_of l words) next in (
            copied_more i (class_bytes l words) old 0 so_far.0 (omega (arith, bytes_count l words, first.0)) (omega (arith, first.0))
                (made ∙ sym (first.2 byte)),
            ap (λ (k : ℕ). drop k (claims_of l words)) (add-one i) ∙ first.1,
          )

    pub bytes-full : i ≡ length new → length rest ≡ 0
    bytes-full end = ⊎_elim (λ none. none) (λ some. absurd (omega (arith, bytes_left some refl refl))) (eq-zero-or-pos (length rest))

    pub bytes-all : length rest ≡ 0 → new ≡ over (class_bytes l words) old
    bytes-all none =
        let behind : length (claims_of l words) - i ≡ 0 =
        sym (length-drop i (claims_of l words)) ∙ ap length (so_far.1 ∙ claims_end (unknowns_of l) rest none) in
        copied_all i (class_bytes l words) old so_far.0 (omega (arith, bytes_count l words, so_far.0.0))

-- ---- the call

module _ (l : Ledger) (ws old : List ℕ) where
  abbrev many : ℕ
  many = length (claims_of l ws)

  -- 8 is asked of the bytes: there are as many as claims
  abbrev number : ℕ → ℕ
  number k = first_no (asks 4 (is_opened l) ∷ asks 14 (leb many most_claims) ∷ asks 8 (leb k (length old)) ∷ [])

  same_number : number (length (class_bytes l ws)) ≡ number many
  same_number = ap number (bytes_count l ws)

  pub classed_asked : classed_of l ws old
      ≡ unless_refused Err (refusal_of l (queries (classes ws old))) (Ok (length (claims_of l ws)))
  unfolding classed_of refusal_of
  classed_asked =
      reply_result (asks 4 (is_opened l) ∷ asks 14 (leb many most_claims) ∷ []) (length (class_bytes l ws)) (Ok many) (class_bytes l ws) old Err tt
      ∙ ap (λ (k : ℕ). unless_refused Err k (Ok many)) same_number

  pub marks-asked : marks_after l ws old
      ≡ unless_refused (λ (k : ℕ). old) (refusal_of l (queries (classes ws old))) (over (class_bytes l ws) old)
  unfolding marks_after refusal_of
  marks-asked =
      reply_memory (asks 4 (is_opened l) ∷ asks 14 (leb many most_claims) ∷ []) (length (class_bytes l ws)) (Ok many) (class_bytes l ws) old tt
      ∙ ap (λ (k : ℕ). unless_refused (λ (j : ℕ). old) k (over (class_bytes l ws) old)) same_number

  pub class_refused : {k : ℕ} → k ≡ refusal_of l (queries (classes ws old)) → (k ≡ 0 → ⊥)
      → (Err k ≡ classed_of l ws old) × (old ≡ marks_after l ws old)
  class_refused {k} is some = (
    sym (classed_asked ∙ rw (← is, ne_eqb k 0 some)),
    sym (marks-asked ∙ rw (← is, ne_eqb k 0 some)),
  )

  -- what is said to be marked was accepted
  said : (k : ℕ) {count : ℕ} → unless_refused Err k (Ok many) ≡ Ok count → (k ≡ 0) × (count ≡ many)
  said k {count} is = go (eqb k 0) refl is
    where
      go : (b : Bool) → eqb k 0 ≡ b → cond b (Ok many) (Err k) ≡ Ok count → (k ≡ 0) × (count ≡ many)
      go true none h = (eqb-true k 0 none, cc)
      go false some h = let z : ◌≡◌ {A = ℕ} 0 1 = cc in absurd (omega arith)

  pub class_accepted : {count : ℕ} → classed_of l ws old ≡ Ok count → refusal_of l (queries (classes ws old)) ≡ 0
  class_accepted is = (said (refusal_of l (queries (classes ws old))) (sym classed_asked ∙ is)).0

  pub claims_few : {count : ℕ} → classed_of l ws old ≡ Ok count → count ≤ most_claims
  claims_few is =
      let few = (accepted-yes l (queries (classes ws old)) (class_accepted is)).1.0 in
      omega (arith, (said (refusal_of l (queries (classes ws old))) (sym classed_asked ∙ is)).1, leb→le many most_claims few)

  module _ (accepted : refusal_of l (queries (classes ws old)) ≡ 0) where
    pub class_few : length (claims_of l ws) ≤ most_claims
    class_few = leb→le many most_claims (accepted-yes l (queries (classes ws old)) accepted).1.0

    pub class_fits : length (claims_of l ws) ≤ length old
    class_fits = leb→le many (length old) (accepted-yes l (queries (classes ws old)) accepted).1.1.0

    pub class_counted : {n count : ℕ} → n ≡ unknowns_of l → count ≡ min counted_claims (length (claims_in n ws))
        → count ≡ length (claims_of l ws)
    class_counted {n} same-n is =
        let same : length (claims_in n ws) ≡ many = ap (λ (k : ℕ). length (claims_in k ws)) same-n in omega (arith, class_few)

    pub class_marked : {count : ℕ} {new : List ℕ} → count ≡ length (claims_of l ws) → new ≡ over (class_bytes l ws) old
        → (Ok count ≡ classed_of l ws old) × (new ≡ marks_after l ws old)
    class_marked counted written = (
      ap (λ (k : ℕ). Ok k) counted ∙ sym (classed_asked ∙ rw accepted),
      written ∙ sym (marks-asked ∙ rw accepted),
    )
