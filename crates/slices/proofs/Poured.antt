-- A loop that takes a part off the front of one list and writes what it makes of it behind what stands in another: one invariant for every
-- such loop.
--   Poured        what was made of the parts that are off stands in front, `at` elements; of what is left, `make` is to come
--   poured_none   before the first turn
--   poured_room   what is made of the next part fits,
--   poured_lent   into what is lent of the other list,
--   poured_more   and is written there
--   poured_all    after the last turn
use mathlib.Core.Path.{◌≡◌, refl, sym, ap, ◌∙◌}
use mathlib.Core.List.{List, [], ◌++◌, append-nil, append_assoc}
use Prim.Native.Nat.{ℕ, ◌+◌, ◌≤◌}
use native.Mathlib.Omega.{arith}
use lib.ListN.{length, length-append}
use Rattle.slices.specs.Over.{over}
use Rattle.slices.proofs.Over.{over-long, over-behind}
use Rattle.slices.proofs.Parts.{lent, put_back, lent_length}

module _ {A B : Type 0} (make : List A → List B) (all : List A) (old : List B) where
  pub record Poured (rest : List A) (at : ℕ) (out : List B) : Type 0 where
    pub made : List B
    pub size : length made ≡ at
    pub whole : made ++ make rest ≡ make all
    pub written : out ≡ over made old

  pub poured_none : Poured all 0 old
  poured_none = record { made = []; size = refl; whole = refl; written = refl }

  module _ (rest : List A) (at : ℕ) (out : List B) (p : Poured rest at out) (fits : length (make all) ≤ length old) where
    module _ (piece : List B) (left : List A) (parts : make rest ≡ piece ++ make left) where
      pub poured_room : at + length piece ≤ length old
      poured_room =
          omega (
            arith,
            p.size,
            ap length p.whole,
            length-append p.made (make rest),
            ap length parts,
            length-append piece (make left),
          )

      pub poured_lent : length piece ≤ length (lent at out)
      poured_lent =
          omega (
            arith,
            poured_room,
            lent_length at out,
            ap length p.written,
            over-long p.made old (omega (arith, poured_room, p.size)),
          )

      pub poured_more : {part : List B} (next : ℕ) → next ≡ at + length piece → part ≡ over piece (lent at out)
          → Poured left next (put_back at out part)
      poured_more {part} next there is = record {
        made = p.made ++ piece;
        size = omega (arith, length-append p.made piece, p.size);
        whole = append_assoc p.made piece (make left) ∙ ap (λ (s : List B). p.made ++ s) (sym parts) ∙ p.whole;
        written = over-behind at p.made piece old p.size p.written is;
      }

    pub poured_all : make rest ≡ [] → (at ≡ length (make all)) × (out ≡ over (make all) old)
    poured_all none =
        let same = sym (append-nil p.made) ∙ ap (λ (s : List B). p.made ++ s) (sym none) ∙ p.whole in
        (sym p.size ∙ ap length same, p.written ∙ ap (λ (s : List B). over s old) same)
