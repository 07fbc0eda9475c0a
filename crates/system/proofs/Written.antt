-- What `solving::solve_into` and `solving::solve` give back, and the block.
--   Gives                            what `solve_into` returns, and what it leaves of lent memory
--   written_solved, written_refuted  this for vectors, and for multipliers
--   answer_is                        what `solve` makes of it
--   written-block, answer-block      the block, as it lies in what they give back
--   written-fits, answer-fits        its numbers lie in the memory
use mathlib.Core.Path.{◌≡◌, refl, sym, ap, ap₂, ◌∙◌}
use mathlib.Core.List.{List, ◌∷◌, flatten}
use mathlib.Core.Option.{Option, none, some}
use Prim.Native.Nat.{ℕ, ◌*◌, ◌<◌, ◌≤◌}
use native.Mathlib.Omega.{arith}
use lib.ListN.{length, take, drop, get_or, replicate}
use Rattle.slices.specs.Over.{over}
use Rattle.slices.proofs.Over.{over-fits, over-front}
use Rattle.equations.specs.Equation.{Equation}
use Rattle.equations.specs.Answer.{start_of, steps_of}
use Rattle.elimination.specs.Multipliers.{multipliers_of}
use Rattle.system.specs.declared.solving.Answer.{Answer}
use Rattle.system.specs.declared.solving.Written.{Written}
use Rattle.system.specs.Block.{block_with, block_of, head_of, behind_head, written_of, answer_of}
use Rattle.system.specs.Model.Reading.{Laid, answer_vectors}
use Rattle.system.proofs.Laid.{laid_zero}
use Rattle.system.proofs.Answer.{block_solved, block_refuted}

module _ (m n : ℕ) (es : List Equation) where
  -- ---- from the block

  -- w is returned, and the memory went from `old` to `new`
  abbrev pub Gives : Written → List ℕ → List ℕ → Type 0
  Gives w old new = (w ≡ written_of m n es) × (new ≡ over (behind_head m n es) old)

  gives-block : (head len : ℕ) (xs old : List ℕ) {new : List ℕ} → head ∷ xs ≡ block_of m n es → length xs ≡ len
      → new ≡ over xs old → Gives (record { head = head; len = len }) old new
  unfolding written_of
  gives-block head len xs old is long lies = (
    ap₂ {C = Written} (λ h l. record { head = h; len = l }) (ap (λ (z : List ℕ). get_or z 0 0) is)
        (sym long ∙ ap (λ (z : List ℕ). length (drop 1 z)) is),
    lies ∙ ap (λ (z : List ℕ). over (drop 1 z) old) is,
  )

  pub written_solved : (r : ℕ) (old : List ℕ) {new : List ℕ} → 0 < r → Laid n (answer_vectors m n es) old new r
      → Gives (record { head = r; len = r * n }) old new
  written_solved r old h w =
      gives-block r (r * n) (flatten (answer_vectors m n es)) old (block_solved m n r es w.count h) w.size w.written

  -- the vectors, none, left the memory as it was
  pub written_refuted : (r k : ℕ) (old : List ℕ) {between new : List ℕ} → r ≡ 0
      → Laid n (answer_vectors m n es) old between r → k ≡ length (multipliers_of m n es)
      → new ≡ over (multipliers_of m n es) between → Gives (record { head = 0; len = k }) old new
  written_refuted r k old z w count lies =
      gives-block 0 k (multipliers_of m n es) old (block_refuted m n r es w.count z) (sym count)
      (lies ∙ ap (over (multipliers_of m n es)) (laid_zero n r (answer_vectors m n es) z w))

  pub answer_is : (w : Written) {numbers : List ℕ} → Gives w (replicate 272 0) numbers
      → ◌≡◌ {A = Answer} (record { head = w.head; len = w.len; numbers = numbers }) (answer_of m n es)
  unfolding written_of answer_of
  answer_is w (is, lies) =
      ap₂ {C = Answer} (λ v ns. record { head = v.head; len = v.len; numbers = ns }) is lies

  -- ---- back to the block

  parts : head_of m n es ∷ behind_head m n es ≡ block_of m n es
  unfolding block_of
  parts = with_parts (start_of m n es)
    where
      block : Option (List ℕ) → List ℕ
      block o = block_with o (steps_of m n es) (multipliers_of m n es)

      with_parts : (o : Option (List ℕ)) → get_or (block o) 0 0 ∷ drop 1 (block o) ≡ block o
      with_parts none = refl
      with_parts (some start) = refl

  module _ (w : Written) (old : List ℕ) {new : List ℕ} (gives : Gives w old new) where
    pub written-block : w.head ∷ take w.len new ≡ block_of m n es
    unfolding written_of
    written-block =
        ap₂ {C = List ℕ} ◌∷◌ (ap (λ (v : Written). v.head) gives.0)
        (over-front w.len (behind_head m n es) old gives.1 (sym (ap (λ (v : Written). v.len) gives.0)))
        ∙ parts

    pub written-fits : w.len ≤ length new
    unfolding written_of
    written-fits = omega (arith, ap (λ (v : Written). v.len) gives.0, over-fits (behind_head m n es) old gives.1)

  module _ (a : Answer) (is : a ≡ answer_of m n es) where
    written : Gives (record { head = a.head; len = a.len }) (replicate 272 0) a.numbers
    unfolding written_of answer_of
    written = (ap (λ (b : Answer). record { head = b.head; len = b.len }) is, ap (λ (b : Answer). b.numbers) is)

    pub answer-block : a.head ∷ take a.len a.numbers ≡ block_of m n es
    answer-block = written-block (record { head = a.head; len = a.len }) (replicate 272 0) written

    pub answer-fits : a.len ≤ length a.numbers
    answer-fits = written-fits (record { head = a.head; len = a.len }) (replicate 272 0) written
