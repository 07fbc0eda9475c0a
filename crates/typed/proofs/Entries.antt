-- An array made entry by entry.
--   from_fn_same    each entry is what the closure gives, if that changes nothing
--   combine_made    hence a combination, entry by entry, is the combination
use Rattle.std.proofs.Common.{◌≡◌, ℕ, zero, suc, ◌+◌, ◌*◌, ◌%◌, ◌≤◌, ◌<◌, List, [], ◌∷◌, length, get_or, refl, sym, ◌∙◌, arith, Bool, true, false, ltb}
use borrow.Author.Tests.{ltb-true, ltb-false}
use denote.Param.Members.{Mut, Called}
use Rattle.std.specs.Array.{IsElementAt, IsFromFnResult, IsFromFnResultFrom}
use Rattle.std.proofs.lemmas.List.FromFn.{fill_by_all}
use Rattle.equations.specs.Vectors.{combine}
use Rattle.equations.proofs.Dot.{length-combine}

module _ {F B : Type 0} {g : Mut F (ℕ × Unit {0}) B} {f : F} (h : ℕ → B)
    (same : (i : ℕ) (y : B) (q : F) → Called g f (i, tt) y q → (y ≡ h i) × (q ≡ f)) (d : B) (ys : List B) where
  from_each : (n i : ℕ) (p : F) → p ≡ f → IsFromFnResultFrom g p ys i n → (k : ℕ) → i ≤ k → k < i + n → get_or ys k d ≡ h k
  from_each zero i p e made k low high = absurd (omega arith)
  from_each (suc n) i p e (q, y, is, called, rest) k low high =
      let this = same i y q (rw e at called) in
      here_or_after y this.0 is (from_each n (i + 1) q this.1 rest k) (ltb i k) refl
    where
      here_or_after : (y : B) → y ≡ h i → IsElementAt ys i y → (i + 1 ≤ k → k < (i + 1) + n → get_or ys k d ≡ h k)
          → (b : Bool) → ltb i k ≡ b → get_or ys k d ≡ h k
      here_or_after y is at after true further =
          let beyond : i < k = ltb-true i k further in after (omega arith) (omega arith)
      here_or_after y is at after false near =
          let same : k ≡ i = omega (arith, ltb-false i k near) in rw same (at.1 d ∙ is)

  pub from_fn_same : (n : ℕ) → IsFromFnResult g f ys n → (k : ℕ) → k < n → get_or ys k d ≡ h k
  from_fn_same n made k below = from_each n 0 f refl made.each k (omega arith) (omega arith)

entry_combine : (m s t : ℕ) (a b : List ℕ) (j : ℕ) → length a ≡ length b → j < length a
    → get_or (combine m s t a b) j 0 ≡ (s * get_or a j 0 + t * get_or b j 0) % m
entry_combine m s t [] b j e h = absurd (omega arith)
entry_combine m s t (x ∷ a) [] j e h = absurd (omega arith)
entry_combine m s t (x ∷ a) (y ∷ b) zero e h = refl
entry_combine m s t (x ∷ a) (y ∷ b) (suc j) e h = entry_combine m s t a b j (omega arith) (omega arith)

pub combine_made : (m s t : ℕ) (a b c : List ℕ) (n : ℕ) → length a ≡ n → length b ≡ n → length c ≡ n
    → ((j : ℕ) → j < n → get_or c j 0 ≡ (s * get_or a j 0 + t * get_or b j 0) % m) → c ≡ combine m s t a b
combine_made m s t a b c n p q r each =
    let h = λ (j : ℕ). (s * get_or a j 0 + t * get_or b j 0) % m in
    fill_by_all h c n 0 r each
    ∙ sym (fill_by_all h (combine m s t a b) n 0 (length-combine m s t a b (p ∙ sym q) ∙ p)
    (λ j below. entry_combine m s t a b j (p ∙ sym q) (omega arith)))
