-- The number of a class's claims, which is counted up to one too many, is asked about.
--   few_asked     whether they are few enough,
--   room_asked    and then, whether the marks have room
use mathlib.Core.Path.{◌≡◌, ap, ◌∙◌}
use mathlib.Core.Bool.{true}
use mathlib.Core.List.{List}
use Prim.Native.Nat.{ℕ, ◌≤◌, min}
use native.Mathlib.Omega.{arith}
use lib.Dec.{leb, leb→le, le→leb}
use lib.ListN.{length}
use Rattle.equations.proofs.Truth.{of_true, same_of_both}
use Rattle.ledger.specs.Ledger.{Ledger, unknowns_of}
use Rattle.ledger.specs.Classes.{most_claims, claims_in}
use Rattle.asking.specs.declared.Seen.{Seen}
use Rattle.asking.specs.Sees.{Sees, counted_claims}

-- two tests that hold together
same_test : (a b c d : ℕ) → (a ≤ b → c ≤ d) → (c ≤ d → a ≤ b) → leb a b ≡ leb c d
same_test a b c d there back =
    same_of_both (leb a b) (leb c d) (λ t. le→leb c d (there (leb→le a b t))) (λ t. le→leb a b (back (leb→le c d t)))

module _ {seen : Seen} {claims : ℕ} {l : Ledger} (ws : List ℕ) (sees : Sees l seen)
    (counted : claims ≡ min counted_claims (length (claims_in seen.unknowns ws))) where
  abbrev many : ℕ
  many = length (claims_in (unknowns_of l) ws)

  count_is : claims ≡ min counted_claims many
  count_is = counted ∙ ap (λ (n : ℕ). min counted_claims (length (claims_in n ws))) sees.unknowns

  pub few_asked : leb claims most_claims ≡ leb many most_claims
  few_asked = same_test claims most_claims many most_claims (λ h. omega (arith, count_is)) (λ h. omega (arith, count_is))

  pub room_asked : leb many most_claims ≡ true → {room : ℕ} (marks : List ℕ) → room ≡ length marks → leb claims room ≡ leb many (length marks)
  room_asked few {room} marks lent =
      let most = leb→le many most_claims (of_true few) in
      same_test claims room many (length marks) (λ h. omega (arith, count_is, most)) (λ h. omega (arith, count_is, most))
