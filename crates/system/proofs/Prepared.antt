-- The basis of the lines in lent memory: there already, or zeros where it is to be built. `size` numbers are lent for it, and come back as p.
--   ready_size            the memory's length
--   ready_there           its first number is not 0: the basis is there
--   room_within, -length, -zeros   it is 0: the part that is lent then
--   prepared              and what has come back
--   prepared_front        where the basis lies
use mathlib.Core.Path.{◌≡◌, sym, ap, subst, ◌∙◌}
use mathlib.Core.Logic.{⊎_elim}
use mathlib.Core.List.{List, ◌++◌}
use Prim.Native.Nat.{ℕ, ◌+◌, ◌≤◌, ◌<◌}
use native.Mathlib.Nat.{add-zero}
use native.Mathlib.Omega.{arith}
use lib.ListN.{length, take, drop, get_or, replicate, length-append, length-drop, length-replicate, get_or-append}
use lib.Seq.{length-take-le, take_at, get_or-take}
use Rattle.equations.specs.Lines.{equations_of}
use Rattle.elimination.specs.Tableau.{tableau}
use Rattle.tableau.specs.Packed.{rows, triangle, Kept}
use Rattle.tableau.proofs.Packed.{triangle-front}
use Rattle.tableau.proofs.Column.{row_head}
use Rattle.tableau.proofs.Walk.{kept-front}
use Rattle.system.specs.Model.Marking.{basis_room, Based, Prepared}
use Rattle.system.specs.Ready.{Ready}
use Rattle.system.specs.Ready.Kept.{ready_is}
use Rattle.system.proofs.Fronts.{front-within, front_zeros, rows_alone}

module _ (m n : ℕ) (lines s : List ℕ) where
  pub ready_size : Ready m n lines s → length s ≡ basis_room
  ready_size ready =
      ⊎_elim (λ zeros. ap length zeros ∙ length-replicate {A = ℕ} basis_room 0) (λ there. there.size) (ready_is m n lines s ready)

  pub ready_there : Ready m n lines s → (get_or s 0 0 ≡ 0 → ⊥) → Prepared m n lines s
  ready_there ready some =
      ⊎_elim (λ zeros. absurd (some (ap (λ (xs : List ℕ). get_or xs 0 0) zeros))) (λ there. there) (ready_is m n lines s ready)

  -- where it is 0, so is all of the memory
  ready_zeros : Ready m n lines s → get_or s 0 0 ≡ 0 → s ≡ replicate basis_room 0
  ready_zeros ready none =
      ⊎_elim (λ zeros. zeros) (λ there. absurd (omega (arith, there.there))) (ready_is m n lines s ready)

  module _ (few : n ≤ 16) (ready : Ready m n lines s) (size : ℕ) (is : size ≡ triangle (n + 1) (n + 1)) where
    pub room_within : size ≤ length s
    room_within = omega (arith, front-within (n + 1) size (omega arith) is, ready_size ready)

    pub room-length : length (take size s) ≡ triangle (n + 1) (n + 1)
    room-length = length-take-le size s room_within ∙ is

    module _ (none : get_or s 0 0 ≡ 0) where
      pub room_zeros : take size s ≡ replicate (triangle (n + 1) (n + 1 + 0)) 0
      room_zeros =
          ap (take size) (ready_zeros ready none)
          ∙ front_zeros (n + 1) size (omega arith) is
          ∙ ap (λ (l : ℕ). replicate (triangle (n + 1) l) 0) (sym (add-zero (n + 1)))

    module _ (p : List ℕ) (e : length p ≡ length (take size s))
        (built : rows (n + 1) (n + 1 + 0) p ≡ tableau m n 0 (equations_of n lines)) (kept : Kept m (rows (n + 1) (n + 1 + 0) p)) where
      long : length p ≡ triangle (n + 1) (n + 1)
      long = e ∙ room-length

      first_fits : n + 1 ≤ length p
      first_fits = omega (arith, long, triangle-front (n + 1) (n + 1) (omega arith))

      -- the first number is the first row's pivot
      first : 0 < get_or p 0 0
      first =
          let row = length-take-le (n + 1 + 0) p (omega (arith, first_fits)) in
          subst (λ (d : ℕ). 0 < d) (get_or-take (n + 1 + 0) p 0 0 (omega arith))
          (row_head m (take (n + 1 + 0) p) (omega (arith, row)) (kept-front m (n + 1) (n + 1 + 0) p (omega arith) kept)).0

      based : 1 < m → Based m n lines p
      based modulus =
          let e : n + 1 + 0 ≡ n + 1 = omega arith in
          record {
            readable = record { modulus = modulus; unknowns = few; size = long; kept = rw e at kept };
            rows = rows_alone (n + 1) (n + 1) p (tableau m n 0 (equations_of n lines)) built;
          }

      pub prepared : 1 < m → Prepared m n lines (p ++ drop size s)
      prepared modulus =
          record {
            size =
                length-append p (drop size s)
                ∙ omega (arith, long, is, length-drop size s, room_within, ready_size ready);
            there = subst (λ (d : ℕ). 0 < d) (sym (get_or-append p (drop size s) 0 0 (omega (arith, first_fits)))) first;
            basis = subst (Based m n lines) (sym (take_at p (drop size s) (triangle (n + 1) (n + 1)) long)) (based modulus);
          }

  pub prepared_front : (there : Prepared m n lines s) (size : ℕ) → size ≡ triangle (n + 1) (n + 1) → Based m n lines (take size s)
  prepared_front there size is = subst (λ (k : ℕ). Based m n lines (take k s)) (sym is) there.basis
