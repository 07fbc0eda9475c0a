-- The ledger that a sheet's numbers read as.
--   Fit, readable-fit, fit-readable   what a readable record is
--   cells_room, moduli-room, filled, filled_fits, length_numbers, length_own   its lines lie in its cells
--   lying                             the ledger that lies in it
--   ledger-opened, ledger-unopened    a readable record reads as that ledger, any other as an unopened one
--   opened-readable                   and only a readable record is
--   opened-posed                      the equations of a readable record may be asked about
--   lines_lie                         they are its lines, with both sides times m/q
--   held_counts                       it counts the ledger's lines
--   reads-allowed                     what an opened sheet holds is what the questions let in
--   lines-size                        how many numbers so many lines are, where both factors have other names too
use mathlib.Core.Path.{◌≡◌, sym, ap, ap₂, subst, ◌∙◌}
use mathlib.Core.Logic.{⊎_elim}
use mathlib.Core.Bool.{Bool, true, false, cond, ◌&&◌}
use mathlib.Core.List.{List, [], ◌∷◌}
use Prim.Native.Nat.{ℕ, zero, suc, ◌+◌, ◌*◌, ◌%◌, ◌≤◌, ◌<◌}
use native.Mathlib.Nat.{mul-le-mul, mul-mod_left, mul-le-mul_right}
use native.Mathlib.Omega.{arith}
use lib.Dec.{T, eqb, leb, leb→le, le→leb, eqb→eq}
use lib.ListN.{length, drop, length-drop}
use lib.Seq.{length-take-le}
use mir.Facts.{and_yes, yes_and, yes_eqb}
use Rattle.questions.specs.Questions.{allowed_modulus, allowed_own, largest_modulus}
use Rattle.questions.proofs.Questions.{within_range, own_least}
use Rattle.equations.specs.Vectors.{Below}
use Rattle.equations.specs.Equation.{Equation}
use Rattle.equations.specs.Multipliers.{all_below}
use Rattle.equations.specs.Lines.{equations_of}
use Rattle.equations.specs.Line.{scaled}
use Rattle.equations.proofs.Truth.{true_of, of_true, true_or_false}
use Rattle.equations.proofs.Vectors.{all-below, below_at, below-take, below-drop}
use Rattle.equations.proofs.Lines.{equations-none, equations_more, equations-shaped, equations-count}
use Rattle.lines.specs.Stored.{fits, all_fit, multiples, in_row, stored}
use Rattle.lines.proofs.Stored.{scaled-stored, stored-count, stored-moduli, stored-shaped, stored-small, stored-below}
use Rattle.system.specs.Posed.{Posed}
use Rattle.ledger.specs.Ledger.{Ledger, unopened, opened, is_opened, modulus_of, unknowns_of, lines_in, most_equations, most_unknowns}
use Rattle.ledger.specs.Allowed.{Residues, Allowed}
use Rattle.ledger.specs.Questions.{allowed_unknowns}
use Rattle.sheet.specs.Record.{Sheet, modulus_in, unknowns_in, held_in, moduli_in, cells_in, room, size, cells_of, own_in, numbers_in, lying_in, readable, ledger_of}

pub lines-size : {a b k n : ℕ} → a ≡ k → b ≡ n → a * (b + 1) ≡ k * (n + 1)
lines-size = ap₂ (λ (x y : ℕ). x * (y + 1))

-- the equations that lie in numbers below m have coefficients and right sides below m
AllBelow : ℕ → List Equation → Type 0
AllBelow m [] = Unit {0}
AllBelow m (e ∷ es) = Below m e.coefficients × (e.right < m) × AllBelow m es

equations-below : (k m n : ℕ) (xs : List ℕ) → length xs ≡ k * (n + 1) → Below m xs → AllBelow m (equations_of n xs)
unfolding AllBelow
equations-below zero m n xs long below = rw (equations-none n xs (omega (arith, long))) tt
equations-below (suc k) m n xs long below =
    rw (equations_more n xs (omega (arith, long))) (
      below-take m n xs below,
      below_at m n xs below (omega (arith, long)),
      equations-below k m n (drop (n + 1) xs) (omega (arith, long, length-drop (n + 1) xs)) (below-drop m (n + 1) xs below),
    )

-- so their lines have residues mod their own moduli
stored-residues : (m : ℕ) (qs : List ℕ) (es : List Equation) → 0 < m → AllBelow m es → T (all_fit m qs es)
    → Residues (stored m qs es)
unfolding AllBelow
stored-residues m [] es pos below t = tt
stored-residues m (q ∷ qs) [] pos below t = tt
stored-residues m (q ∷ qs) (e ∷ es) pos below t =
    let both = and_yes (fits m q e) (all_fit m qs es) t in
    let own = (and_yes (allowed_own m q) (multiples _ (in_row e)) both.0).0 in (
      own_least m q own,
      stored-below m q pos own e.coefficients below.0,
      stored-small m q pos own e.right below.1,
      stored-residues m qs es pos below.2 both.1,
    )

pub record Fit (s : Sheet) : Type 0 where
  pub modulus : 2 ≤ modulus_in s
  pub largest : modulus_in s ≤ largest_modulus
  pub has_unknowns : 1 ≤ unknowns_in s
  pub unknowns : unknowns_in s ≤ most_unknowns
  pub equations : held_in s ≤ most_equations
  pub whole : length s ≡ size
  pub residues : Below (modulus_in s) (numbers_in s)
  pub own : T (all_fit (modulus_in s) (own_in s) (lying_in s))

abbrev pub filled : Sheet → ℕ
filled s = cells_of s (held_in s)

module _ (s : Sheet) where
  -- the tests, from the last to the first
  abbrev up_to_below : Bool
  up_to_below =
      allowed_modulus (modulus_in s) && allowed_unknowns (unknowns_in s) && leb (held_in s) most_equations
      && eqb (length s) size && all_below (modulus_in s) (numbers_in s)

  abbrev up_to_whole : Bool
  up_to_whole =
      allowed_modulus (modulus_in s) && allowed_unknowns (unknowns_in s) && leb (held_in s) most_equations
      && eqb (length s) size

  abbrev up_to_held : Bool
  up_to_held = allowed_modulus (modulus_in s) && allowed_unknowns (unknowns_in s) && leb (held_in s) most_equations

  pub readable-fit : readable s ≡ true → Fit s
  readable-fit h =
      let f = and_yes up_to_below (all_fit (modulus_in s) (own_in s) (lying_in s)) (of_true h) in
      let e = and_yes up_to_whole (all_below (modulus_in s) (numbers_in s)) f.0 in
      let d = and_yes up_to_held (eqb (length s) size) e.0 in
      let c = and_yes (allowed_modulus (modulus_in s) && allowed_unknowns (unknowns_in s)) (leb (held_in s) most_equations) d.0 in
      let b = and_yes (allowed_modulus (modulus_in s)) (allowed_unknowns (unknowns_in s)) c.0 in
      let m = (within_range 2 (modulus_in s) largest_modulus).0 b.0 in
      let n = (within_range 1 (unknowns_in s) most_unknowns).0 b.1 in
      record {
        modulus = m.0;
        largest = m.1;
        has_unknowns = n.0;
        unknowns = n.1;
        equations = leb→le (held_in s) most_equations c.1;
        whole = eqb→eq (length s) size d.1;
        residues = (all-below (modulus_in s) (numbers_in s)).0 e.1;
        own = f.1;
      }

  pub fit-readable : Fit s → readable s ≡ true
  fit-readable f =
      true_of (readable s)
      (yes_and up_to_below (all_fit (modulus_in s) (own_in s) (lying_in s))
      (yes_and up_to_whole (all_below (modulus_in s) (numbers_in s))
      (yes_and up_to_held (eqb (length s) size)
      (yes_and (allowed_modulus (modulus_in s) && allowed_unknowns (unknowns_in s)) (leb (held_in s) most_equations)
      (yes_and (allowed_modulus (modulus_in s)) (allowed_unknowns (unknowns_in s))
      ((within_range 2 (modulus_in s) largest_modulus).1 (f.modulus, f.largest))
      ((within_range 1 (unknowns_in s) most_unknowns).1 (f.has_unknowns, f.unknowns)))
      (le→leb (held_in s) most_equations f.equations))
      (yes_eqb f.whole))
      ((all-below (modulus_in s) (numbers_in s)).1 f.residues))
      f.own)

  pub cells_room : Fit s → length (cells_in s) ≡ room
  cells_room f = omega (arith, f.whole, length-drop (3 + most_equations) s)

  pub moduli-room : Fit s → length (moduli_in s) ≡ most_equations
  moduli-room f = length-take-le most_equations (drop 3 s) (omega (arith, f.whole, length-drop 3 s))

  pub filled_fits : Fit s → filled s ≤ length (cells_in s)
  filled_fits f =
      omega (
        arith,
        cells_room f,
        mul-le-mul {n₁ = held_in s} {m₁ = unknowns_in s + 1} {n₂ = 16} {m₂ = 17} f.equations (omega (arith, f.unknowns)),
      )

  pub length_numbers : Fit s → length (numbers_in s) ≡ filled s
  length_numbers f = length-take-le (filled s) (cells_in s) (filled_fits f)

  pub length_own : Fit s → length (own_in s) ≡ held_in s
  length_own f = length-take-le (held_in s) (moduli_in s) (omega (arith, f.equations, moduli-room f))

  -- a modulus for each equation
  pub same_count : Fit s → length (own_in s) ≡ length (lying_in s)
  same_count f = length_own f ∙ sym (equations-count (held_in s) (unknowns_in s) (numbers_in s) (length_numbers f))

  -- the ledger that lies in the record, readable or not
  abbrev pub lying : Ledger
  lying = opened (modulus_in s) (unknowns_in s) (stored (modulus_in s) (own_in s) (lying_in s))

  pub ledger-opened : readable s ≡ true
      → ledger_of s ≡ opened (modulus_in s) (unknowns_in s) (stored (modulus_in s) (own_in s) (lying_in s))
  unfolding ledger_of
  ledger-opened h = ap (λ (b : Bool). cond b lying unopened) h

  pub ledger-unopened : readable s ≡ false → ledger_of s ≡ unopened
  unfolding ledger_of
  ledger-unopened h = ap (λ (b : Bool). cond b lying unopened) h

  pub opened-readable : T (is_opened (ledger_of s)) → readable s ≡ true
  opened-readable h =
      ⊎_elim (λ r. r) (λ r. absurd (subst (λ (l : Ledger). T (is_opened l)) (ledger-unopened r) h))
      (true_or_false (readable s))

  pub opened-posed : readable s ≡ true → Posed (modulus_in s) (unknowns_in s) (numbers_in s)
  opened-posed h =
      let f = readable-fit h in
      record {
        modulus = omega (arith, f.modulus);
        has_unknowns = omega (arith, f.has_unknowns);
        unknowns = f.unknowns;
        whole = ap (λ (k : ℕ). k % (unknowns_in s + 1)) (length_numbers f) ∙ mul-mod_left (held_in s) (unknowns_in s + 1);
        equations = omega (arith, length_numbers f, mul-le-mul_right (unknowns_in s + 1) f.equations);
        residues = f.residues;
      }

  pub lines_lie : readable s ≡ true → lying_in s ≡ scaled (modulus_of (ledger_of s)) (lines_in (ledger_of s))
  lines_lie h =
      let f = readable-fit h in
      sym (ap (λ (l : Ledger). scaled (modulus_of l) (lines_in l)) (ledger-opened h)
      ∙ scaled-stored (modulus_in s) (own_in s) (lying_in s) (same_count f) f.own)

  pub held_counts : readable s ≡ true → length (lines_in (ledger_of s)) ≡ held_in s
  held_counts h =
      let f = readable-fit h in
      ap (λ (l : Ledger). length (lines_in l)) (ledger-opened h)
      ∙ stored-count (modulus_in s) (own_in s) (lying_in s) (same_count f) ∙ length_own f

  pub reads-allowed : T (is_opened (ledger_of s))
      → Allowed (modulus_of (ledger_of s)) (unknowns_of (ledger_of s)) (lines_in (ledger_of s))
  reads-allowed is =
      let reads = opened-readable is in
      let f = readable-fit reads in
      let count : length (lines_in (ledger_of s)) ≡ held_in s = held_counts reads in
      subst (λ (l : Ledger). Allowed (modulus_of l) (unknowns_of l) (lines_in l)) (sym (ledger-opened reads))
      (record {
        modulus = f.modulus;
        largest = f.largest;
        has_unknowns = f.has_unknowns;
        unknowns = f.unknowns;
        equations = omega (arith, f.equations, count, ap (λ (l : Ledger). length (lines_in l)) (ledger-opened reads));
        shaped = stored-shaped (modulus_in s) (unknowns_in s) (own_in s) (lying_in s) (equations-shaped (unknowns_in s) (numbers_in s));
        moduli = stored-moduli (modulus_in s) (own_in s) (lying_in s) f.own;
        residues =
            stored-residues (modulus_in s) (own_in s) (lying_in s) (omega (arith, f.modulus))
            (equations-below (held_in s) (modulus_in s) (unknowns_in s) (numbers_in s) (length_numbers f) f.residues) f.own;
      })
