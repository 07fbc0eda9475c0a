-- Kinds, compared with those that are asked for.
--   kinds_length, kinds_other   there are as many as are asked for, else they are not the same
--   kinds_head, kinds_pair      the first and the rest; two
--   kinds_last                  a run and one kind behind it
--   kinds_cut                   only so many need be seen as are asked for, and one more
--   run, run_each               whether kinds are all the same one: each of them is it
use mathlib.Core.Path.{◌≡◌, refl, sym, ap, subst, ◌∙◌}
use mathlib.Core.List.{List, [], ◌∷◌, ◌++◌}
use mathlib.Core.Bool.{Bool, true, false, ◌&&◌, and-true, and-false, and_assoc}
use Prim.Native.Nat.{ℕ, zero, suc, ◌+◌, ◌<◌}
use native.Mathlib.Numerals.{add-one}
use native.Mathlib.Nat.{suc_inj}
use native.Mathlib.Omega.{arith}
use lib.ListN.{length, take, drop, get_or, replicate, length-replicate}
use lib.Seq.{take-length, take-suc, length-take-le}
use lib.Dec.{T, eqb}
use Rattle.equations.specs.Lists.{every}
use Rattle.equations.specs.Vectors.{same_vector}
use Rattle.equations.proofs.Lists.{eq_of_same}

pub kinds_other : (xs ks : List ℕ) → (length xs ≡ length ks → ⊥) → same_vector xs ks ≡ false
kinds_other [] [] h = absurd (h refl)
kinds_other [] (k ∷ ks) h = refl
kinds_other (x ∷ xs) [] h = refl
kinds_other (x ∷ xs) (k ∷ ks) h = rw (kinds_other xs ks (λ e. h (ap suc e))) (and-false (eqb x k))

pub kinds_length : (xs ks : List ℕ) → same_vector xs ks ≡ true → length xs ≡ length ks
kinds_length xs ks h = ap length (eq_of_same xs ks (subst T (sym h) tt))

pub kinds_head : (xs : List ℕ) (k : ℕ) (ks : List ℕ) → 0 < length xs
    → same_vector xs (k ∷ ks) ≡ (eqb (get_or xs 0 0) k && same_vector (drop 1 xs) ks)
kinds_head [] k ks h = absurd (omega arith)
kinds_head (x ∷ xs) k ks h = refl

pub kinds_pair : (xs : List ℕ) (k j : ℕ) → length xs ≡ 2
    → same_vector xs (k ∷ j ∷ []) ≡ (eqb (get_or xs 0 0) k && eqb (get_or xs 1 0) j)
kinds_pair [] k j h = absurd (omega arith)
kinds_pair (x ∷ []) k j h = absurd (omega arith)
kinds_pair (x ∷ y ∷ []) k j h = ap (λ (b : Bool). eqb x k && b) (and-true (eqb y j))
kinds_pair (x ∷ y ∷ z ∷ xs) k j h = absurd (omega arith)

kinds_append : (xs ys js ks : List ℕ) → length xs ≡ length js
    → same_vector (xs ++ ys) (js ++ ks) ≡ (same_vector xs js && same_vector ys ks)
kinds_append [] ys [] ks h = refl
kinds_append [] ys (j ∷ js) ks h = absurd (omega arith)
kinds_append (x ∷ xs) ys [] ks h = absurd (omega arith)
kinds_append (x ∷ xs) ys (j ∷ js) ks h =
    rw (kinds_append xs ys js ks (suc_inj h)) (sym (and_assoc (eqb x j) (same_vector xs js) (same_vector ys ks)))

pub kinds_last : (n : ℕ) (xs : List ℕ) (k j : ℕ) → length xs ≡ n + 1
    → same_vector xs (replicate n k ++ (j ∷ [])) ≡ (same_vector (take n xs) (replicate n k) && eqb (get_or xs n 0) j)
kinds_last n xs k j h =
    let whole : xs ≡ take n xs ++ (get_or xs n 0 ∷ []) =
    sym (take-length xs) ∙ ap (λ (i : ℕ). take i xs) (h ∙ add-one n) ∙ take-suc xs n 0 (omega arith) in
    ap (λ (z : List ℕ). same_vector z (replicate n k ++ (j ∷ []))) whole
    ∙ kinds_append (take n xs) (get_or xs n 0 ∷ []) (replicate n k) (j ∷ [])
    (length-take-le n xs (omega arith) ∙ sym (length-replicate n k))
    ∙ ap (λ (b : Bool). same_vector (take n xs) (replicate n k) && b) (and-true (eqb (get_or xs n 0) j))

pub kinds_cut : (c : ℕ) (xs ks : List ℕ) → length ks < c → same_vector (take c xs) ks ≡ same_vector xs ks
kinds_cut zero xs ks h = absurd (omega arith)
kinds_cut (suc c) [] ks h = refl
kinds_cut (suc c) (x ∷ xs) [] h = refl
kinds_cut (suc c) (x ∷ xs) (k ∷ ks) h = ap (λ (b : Bool). eqb x k && b) (kinds_cut c xs ks (omega arith))

-- ---- all the same one

abbrev pub run : ℕ → List ℕ → Bool
run k xs = same_vector xs (replicate (length xs) k)

pub run_each : (k : ℕ) (xs : List ℕ) → run k xs ≡ every (λ (x : ℕ). eqb x k) xs
run_each k [] = refl
run_each k (x ∷ xs) = ap (λ (b : Bool). eqb x k && b) (run_each k xs)
