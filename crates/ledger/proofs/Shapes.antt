-- How many words an opening, an equation and a claim have, and what follows for their numbers.
--   opening_length     an opening has two words
--   equation-length    an equation has n + 1
--   opening_tops, equation_tops, adding_tops   in words of these shapes no word of kind 13 breaks the rule
--   claim_kind         a claim begins with a head,
--   claim_head         which is at most 17
--   claim_length_lem       and counts the vectors of n words behind it,
--   claim_some         so that there is a head,
--   claim_fits         and behind it no more words than 17 vectors of 16 entries
--   claim_tops         and no word of kind 13
--   claimed            its entries are whole vectors
use mathlib.Core.Path.{◌≡◌, refl, sym, ap, ap₂, ◌∙◌}
use mathlib.Core.Bool.{Bool, true, false, cond, ◌&&◌, not}
use mathlib.Core.List.{List, [], ◌∷◌, ◌++◌, append-nil}
use Prim.Native.Nat.{ℕ, zero, suc, ◌+◌, ◌*◌, ◌%◌, ◌<◌, ◌≤◌}
use native.Mathlib.Nat.{mul-le-mul, mul-mod_left}
use native.Mathlib.Omega.{arith}
use borrow.Author.Tests.{eqb-true}
use lib.Dec.{T, leb, leb→le, eqb, eqb→eq}
use lib.ListN.{length, replicate, length-drop, length-append, length-replicate}
use mir.Facts.{and_yes}
use Rattle.equations.specs.Lists.{every}
use Rattle.equations.specs.Multipliers.{all_below}
use Rattle.equations.proofs.Lists.{eq_of_same}
use Rattle.equations.proofs.Truth.{of_true, true_of}
use Rattle.equations.proofs.Vectors.{all-below}
use Rattle.system.specs.Claims.{Claimed}
use Rattle.words.specs.declared.unpacking.Word.{Word}
use Rattle.words.specs.Words.{top_kind, tops_fit, kinds_of, numbers_of, have_kinds, modulus_kind, unknowns_kind, coefficient_kind, right_kind, head_kind, entry_kind, own_modulus_kind}
use Rattle.words.specs.Signs.{without_minus, plain_kinds_of}
use Rattle.words.specs.Fronts.{first_of}
use Rattle.words.proofs.Compared.{kinds_length}
use Rattle.words.proofs.Words.{kind_of, number_of, plain_kind_of, parts_count}
use Rattle.ledger.specs.Shapes.{number_at, is_opening, is_equation, equation_words, is_claim, entries_of, largest_head}

-- as many words as kinds
have_length : (words : List Word) (ks : List ℕ) → have_kinds words ks ≡ true → length words ≡ length ks
have_length words ks h = sym (parts_count kind_of words) ∙ kinds_length (kinds_of words) ks h

pub opening_length : (words : List Word) → is_opening words ≡ true → length words ≡ 2
opening_length words h = have_length words (modulus_kind ∷ unknowns_kind ∷ []) h

pub equation_kinds : (n : ℕ) → length (replicate n coefficient_kind ++ (right_kind ∷ [])) ≡ n + 1
equation_kinds n =
    length-append (replicate n coefficient_kind) (right_kind ∷ [])
    ∙ ap (λ (k : ℕ). k + 1) (length-replicate n coefficient_kind)

pub equation-length : (n : ℕ) (words : List Word) → is_equation n words ≡ true → length words ≡ n + 1
equation-length n words shape =
    sym (parts_count plain_kind_of words)
    ∙ kinds_length (plain_kinds_of words) (replicate n coefficient_kind ++ (right_kind ∷ [])) shape ∙ equation_kinds n

-- ---- no word of kind 13

abbrev is_other : ℕ → Bool
is_other k = not (eqb k top_kind)

tops_of : (words : List Word) → tops_fit words ≡ every is_other (kinds_of words)
tops_of [] = refl
tops_of (w ∷ words) = ap (λ (b : Bool). is_other w.kind && b) (tops_of words)

tops_kinds : (words : List Word) (ks : List ℕ) → have_kinds words ks ≡ true → every is_other ks ≡ true → tops_fit words ≡ true
tops_kinds words ks h other = tops_of words ∙ ap (every is_other) (eq_of_same (kinds_of words) ks (of_true h)) ∙ other

run_other : (n k : ℕ) (ks : List ℕ) → is_other k ≡ true → every is_other ks ≡ true → every is_other (replicate n k ++ ks) ≡ true
run_other zero k ks one rest = rest
run_other (suc n) k ks one rest = ap₂ ◌&&◌ one (run_other n k ks one rest)

-- a sign makes no word one of kind 13
sign_other : (k : ℕ) → is_other (without_minus k) ≡ is_other k
sign_other k = go (eqb k 10) (eqb k 11) refl refl
  where
    go : (a b : Bool) → eqb k 10 ≡ a → eqb k 11 ≡ b → is_other (cond a coefficient_kind (cond b right_kind k)) ≡ is_other k
    go true b ten eleven = ap is_other (sym (eqb-true k 10 ten))
    go false true ten eleven = ap is_other (sym (eqb-true k 11 eleven))
    go false false ten eleven = refl

plain_tops : (words : List Word) → tops_fit words ≡ every is_other (plain_kinds_of words)
plain_tops [] = refl
plain_tops (w ∷ words) = ap₂ ◌&&◌ (sym (sign_other w.kind)) (plain_tops words)

pub opening_tops : (words : List Word) → is_opening words ≡ true → tops_fit words ≡ true
opening_tops words shape = tops_kinds words (modulus_kind ∷ unknowns_kind ∷ []) shape refl

pub equation_tops : (n : ℕ) (words : List Word) → is_equation n words ≡ true → tops_fit words ≡ true
equation_tops n words shape =
    plain_tops words
    ∙ ap (every is_other) (eq_of_same (plain_kinds_of words) (replicate n coefficient_kind ++ (right_kind ∷ [])) (of_true shape))
    ∙ run_other n coefficient_kind (right_kind ∷ []) refl refl

-- nor where a modulus of its own stands in front
pub adding_tops : (n : ℕ) (words : List Word) → is_equation n (equation_words words) ≡ true → tops_fit words ≡ true
adding_tops n [] shape = refl
adding_tops n (w ∷ words) shape = go (eqb w.kind own_modulus_kind) refl shape
  where
    go : (own : Bool) → eqb w.kind own_modulus_kind ≡ own → is_equation n (cond own words (w ∷ words)) ≡ true
        → tops_fit (w ∷ words) ≡ true
    go true own is = ap₂ ◌&&◌ (ap is_other (eqb-true w.kind own_modulus_kind own)) (equation_tops n words is)
    go false own is = equation_tops n (w ∷ words) is

-- ---- claims

-- the first of them
have_first : (words : List Word) (k : ℕ) (ks : List ℕ) → T (have_kinds words (k ∷ ks)) → (first_of words).kind ≡ k
have_first [] k ks h = absurd h
have_first (w ∷ words) k ks h = eqb→eq w.kind k (and_yes (eqb w.kind k) (have_kinds words ks) h).0

module _ (n : ℕ) (words : List Word) (shape : T (is_claim n words)) where
  abbrev head : ℕ
  head = number_at words 0

  abbrev kinds : List ℕ
  kinds = head_kind ∷ replicate (head * n) entry_kind

  tests : T (leb head largest_head) × T (have_kinds words kinds)
  tests = and_yes (leb head largest_head) (have_kinds words kinds) shape

  has_kinds : have_kinds words kinds ≡ true
  has_kinds = true_of (have_kinds words kinds) tests.1

  pub claim_kind : (first_of words).kind ≡ head_kind
  claim_kind = have_first words head_kind (replicate (head * n) entry_kind) tests.1

  pub claim_head : number_at words 0 ≤ largest_head
  claim_head = leb→le head largest_head tests.0

  pub claim_length_lem : length words ≡ suc (number_at words 0 * n)
  claim_length_lem = have_length words kinds has_kinds ∙ ap suc (length-replicate (head * n) entry_kind)

  pub claim_some : 0 < length words
  claim_some = omega (arith, claim_length_lem)

  pub claim_fits : n ≤ 16 → length words ≤ 273
  claim_fits h = omega (arith, claim_length_lem, mul-le-mul {n₁ = head} {m₁ = n} {n₂ = largest_head} {m₂ = 16} claim_head h)

  pub claim_tops : tops_fit words ≡ true
  claim_tops =
      tops_kinds words kinds has_kinds
      (ap (every is_other) (sym (append-nil (replicate (head * n) entry_kind))) ∙ run_other (head * n) entry_kind [] refl refl)

  entries_length : length (entries_of words) ≡ head * n
  entries_length = length-drop 1 (numbers_of words) ∙ omega (arith, claim_length_lem, parts_count number_of words)

  pub claimed : (m : ℕ) → T (all_below m (entries_of words)) → Claimed m n (entries_of words)
  claimed m below =
      record {
        whole = ap (λ (k : ℕ). k % n) entries_length ∙ mul-mod_left head n;
        vectors = omega (arith, entries_length, mul-le-mul {n₁ = head} {m₁ = n} {n₂ = largest_head} {m₂ = n} claim_head (omega arith));
        residues = (all-below m (entries_of words)).0 below;
      }
