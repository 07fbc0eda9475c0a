-- The records that the effects make, and the ledgers that they read as.
--   changed-reads   the new record reads as the changed ledger
--   more_fits       there is room for one line more
--   up_to            a line that is held ends within the lines
--   made-moduli, made_cells   moduli and cells of a record that is made of them
--   written-length  numbers written into a list leave its length
use mathlib.Core.Path.{◌≡◌, refl, sym, ap, ap₂, subst, ◌∙◌}
use mathlib.Core.List.{List, [], ◌∷◌, ◌++◌, append_assoc}
use Prim.Native.Nat.{ℕ, suc, ◌+◌, ◌-◌, ◌*◌, ◌≤◌, ◌<◌}
use native.Mathlib.Nat.{mul-le-mul, mul-le-mul_right, zero-mul}
use native.Mathlib.Omega.{arith}
use lib.Dec.{T}
use lib.ListN.{length, take, drop, length-append, length-drop, length-map}
use lib.Seq.{take_at, drop_at, take-take, length-take-le}
use Rattle.questions.specs.Questions.{allowed_modulus, largest_modulus}
use Rattle.questions.proofs.Questions.{within_range}
use Rattle.equations.specs.Lists.{without}
use Rattle.equations.specs.Vectors.{Below}
use Rattle.equations.specs.Equation.{Equation}
use Rattle.equations.specs.Lines.{equations_of}
use Rattle.equations.specs.Line.{Line, scaled_one}
use Rattle.equations.proofs.Vectors.{below-append, below-take, below-drop}
use Rattle.equations.proofs.Lines.{equations_snoc, equations-take, equation-row}
use Rattle.equations.proofs.Scaled.{scaled_small, scaled-below}
use Rattle.lines.specs.Stored.{in_row, all_fit, stored}
use Rattle.lines.proofs.Stored.{own_divides, stored-scaled, scaled_fits, stored_snoc, fit_snoc, stored-without, fit-without}
use Rattle.ledger.specs.Ledger.{Ledger, opened, most_equations, most_unknowns}
use Rattle.ledger.specs.Questions.{allowed_unknowns}
use Rattle.ledger.specs.History.{Effect, begins, gains, loses, changed}
use Rattle.ledger.proofs.Effects.{Gains, Allows}
use Rattle.sheet.specs.Record.{Sheet, modulus_in, unknowns_in, held_in, moduli_in, cells_in, sheet_of, size, cells_of, own_in, numbers_in, lying_in, ledger_of, written_at, record_by}
use Rattle.sheet.proofs.Reading.{Fit, filled, lying, readable-fit, fit-readable, cells_room, moduli-room, length_numbers, length_own, same_count, filled_fits, opened-readable, ledger-opened, held_counts}
use Rattle.sheet.proofs.Joined.{equations-append, equations-drop}

-- a record that fits reads as the lines whose equations and moduli lie in it
fit-reads : (s : Sheet) → Fit s → (qs : List ℕ) → own_in s ≡ qs → (es : List Equation) → lying_in s ≡ es
    → (ls : List Line) → stored (modulus_in s) qs es ≡ ls
    → ledger_of s ≡ opened (modulus_in s) (unknowns_in s) ls
fit-reads s f qs own es lie ls is =
    ledger-opened s (fit-readable s f)
    ∙ ap (opened (modulus_in s) (unknowns_in s)) (ap₂ (stored (modulus_in s)) own lie ∙ is)

-- ---- a record without lines

module _ (s : Sheet) (none : held_in s ≡ 0) where
  numbers_none : numbers_in s ≡ []
  numbers_none = ap (λ (k : ℕ). take k (cells_in s)) (ap (λ (k : ℕ). k * (unknowns_in s + 1)) none ∙ zero-mul (unknowns_in s + 1))

  own_none : own_in s ≡ []
  own_none = ap (λ (k : ℕ). take k (moduli_in s)) none

  reads-empty : T (allowed_modulus (modulus_in s)) → T (allowed_unknowns (unknowns_in s)) → length s ≡ size
      → ledger_of s ≡ opened (modulus_in s) (unknowns_in s) []
  reads-empty modulus unknowns whole =
      let m = (within_range 2 (modulus_in s) largest_modulus).0 modulus in
      let n = (within_range 1 (unknowns_in s) most_unknowns).0 unknowns in
      let f : Fit s =
      record {
        modulus = m.0;
        largest = m.1;
        has_unknowns = n.0;
        unknowns = n.1;
        equations = omega (arith, none);
        whole = whole;
        residues = subst (Below (modulus_in s)) (sym numbers_none) tt;
        own = subst (λ (qs : List ℕ). T (all_fit (modulus_in s) qs (lying_in s))) (sym own_none) tt;
      } in
      fit-reads s f [] own_none (lying_in s) refl [] refl

-- ---- a list with numbers written from a place on

module _ (i : ℕ) (xs cells : List ℕ) (fits : i + length xs ≤ length cells) where
  abbrev rest : List ℕ
  rest = drop (length xs) (drop i cells)

  joined : written_at i xs cells ≡ (take i cells ++ xs) ++ rest
  joined = sym (append_assoc (take i cells) xs rest)

  joined_length : length (take i cells ++ xs) ≡ i + length xs
  joined_length = omega (arith, length-append (take i cells) xs, length-take-le i cells (omega arith))

  written-front : (k : ℕ) → i + length xs ≡ k → take k (written_at i xs cells) ≡ take i cells ++ xs
  written-front k is = ap (take k) joined ∙ take_at (take i cells ++ xs) rest k (joined_length ∙ is)

  pub written-length : length (written_at i xs cells) ≡ length cells
  written-length =
      omega (
        arith,
        ap length joined,
        length-append (take i cells ++ xs) rest,
        joined_length,
        length-drop i cells,
        length-drop (length xs) (drop i cells),
      )

-- ---- the lines that a record holds, and those that it then holds

module _ (m n held : ℕ) (moduli cells : List ℕ) (long : length moduli ≡ most_equations) where
  pub made-moduli : moduli_in (sheet_of m n held moduli cells) ≡ moduli
  made-moduli = take_at moduli cells most_equations long

  pub made_cells : cells_in (sheet_of m n held moduli cells) ≡ cells
  made_cells = drop_at moduli cells most_equations long

module _ (s : Sheet) (f : Fit s) where
  -- a record that differs in its moduli, its cells and its count reads as the lines that lie in it
  rewritten : (held : ℕ) → held ≤ most_equations
      → (p : ℕ) (ys : List ℕ) → p + length ys ≡ held → (qs : List ℕ) → take p (moduli_in s) ++ ys ≡ qs
      → (i : ℕ) (xs : List ℕ) → i + length xs ≡ cells_of s held → cells_of s held ≤ length (cells_in s)
      → Below (modulus_in s) (take i (cells_in s)) → Below (modulus_in s) xs
      → (es : List Equation) → equations_of (unknowns_in s) (take i (cells_in s) ++ xs) ≡ es
      → T (all_fit (modulus_in s) qs es) → (ls : List Line) → stored (modulus_in s) qs es ≡ ls
      → ledger_of (sheet_of (modulus_in s) (unknowns_in s) held (written_at p ys (moduli_in s)) (written_at i xs (cells_in s)))
      ≡ opened (modulus_in s) (unknowns_in s) ls
  rewritten held few p ys places qs own i xs size fits front back es lie t ls is =
      let moduli = written_at p ys (moduli_in s) in
      let cells = written_at i xs (cells_in s) in
      let within : p + length ys ≤ length (moduli_in s) = omega (arith, places, moduli-room s f) in
      let long : length moduli ≡ most_equations = written-length p ys (moduli_in s) within ∙ moduli-room s f in
      let s' : Sheet = sheet_of (modulus_in s) (unknowns_in s) held moduli cells in
      let owned : own_in s' ≡ qs =
      ap (take held) (made-moduli (modulus_in s) (unknowns_in s) held moduli cells long)
      ∙ written-front p ys (moduli_in s) within held places ∙ own in
      let numbers : numbers_in s' ≡ take i (cells_in s) ++ xs =
      ap (take (cells_of s held)) (made_cells (modulus_in s) (unknowns_in s) held moduli cells long)
      ∙ written-front i xs (cells_in s) (omega arith) (cells_of s held) size in
      let lying : lying_in s' ≡ es = ap (equations_of (unknowns_in s)) numbers ∙ lie in
      let g : Fit s' =
      record {
        modulus = f.modulus;
        largest = f.largest;
        has_unknowns = f.has_unknowns;
        unknowns = f.unknowns;
        equations = few;
        whole =
            omega (arith, length-append moduli cells, long, written-length i xs (cells_in s) (omega arith), cells_room s f);
        residues = subst (Below (modulus_in s)) (sym numbers) (below-append (modulus_in s) (take i (cells_in s)) xs front back);
        own =
            subst (λ (qs : List ℕ). T (all_fit (modulus_in s) qs (lying_in s'))) (sym owned)
            (subst (λ (es : List Equation). T (all_fit (modulus_in s) qs es)) (sym lying) t);
      } in
      fit-reads s' g qs owned es lying ls is

  pub more_fits : held_in s < most_equations → cells_of s (held_in s + 1) ≤ length (cells_in s)
  more_fits under =
      omega (
        arith,
        cells_room s f,
        mul-le-mul {n₁ = held_in s + 1} {m₁ = unknowns_in s + 1} {n₂ = 16} {m₂ = 17} (omega (arith, under))
            (omega (arith, f.unknowns)),
      )

  reads_gaining : (line : Line) → Gains (lying s) line → held_in s < most_equations
      → ledger_of (record_by s (gains line)) ≡ changed (lying s) (gains line)
  reads_gaining line g under =
      let m = modulus_in s in
      let pos : 0 < m = omega (arith, f.modulus) in
      let own = g.own f.modulus in
      let q = line.modulus in
      let divides = own_divides m q own in
      let e : Equation = scaled_one m line in
      let shaped : length e.coefficients ≡ unknowns_in s = length-map line.equation.coefficients _ ∙ g.shaped in
      let long : length (in_row e) ≡ unknowns_in s + 1 = omega (arith, length-append e.coefficients (e.right ∷ []), shaped) in
      rewritten (held_in s + 1) (omega arith) (held_in s) (q ∷ []) refl (own_in s ++ (q ∷ [])) refl (filled s) (in_row e)
      (omega (arith, long)) (more_fits under) f.residues
      (below-append m e.coefficients (e.right ∷ [])
      (scaled-below m q pos divides line.equation.coefficients (g.coefficients f.modulus))
      (scaled_small m q pos divides line.equation.right (g.right f.modulus), tt))
      (lying_in s ++ (e ∷ []))
      (equations_snoc (held_in s) (unknowns_in s) (numbers_in s) (in_row e) (length_numbers s f) long
      ∙ ap (λ (last : Equation). lying_in s ++ (last ∷ [])) (equation-row (unknowns_in s) e shaped))
      (fit_snoc m q e (own_in s) (lying_in s) (same_count s f) f.own (scaled_fits m pos line own)) _
      (stored_snoc m q e (own_in s) (lying_in s) (same_count s f)
      ∙ ap (λ (last : Line). stored m (own_in s) (lying_in s) ++ (last ∷ [])) (stored-scaled m pos line own))

  module _ (j : ℕ) (place : j < held_in s) where
    abbrev behind : List ℕ
    behind = drop (cells_of s (suc j)) (numbers_in s)

    pub up_to : cells_of s (suc j) ≤ filled s
    up_to = mul-le-mul_right (unknowns_in s + 1) (omega arith)

    behind-length : cells_of s j + length behind ≡ cells_of s (held_in s - 1)
    behind-length =
        let fewer : held_in s ≡ suc (held_in s - 1) = omega arith in
        omega (arith, length-drop (cells_of s (suc j)) (numbers_in s), length_numbers s f, up_to, ap (cells_of s) fewer)

    front : take (cells_of s j) (cells_in s) ≡ take (cells_of s j) (numbers_in s)
    front = sym (take-take (cells_of s j) (filled s) (cells_in s) (omega (arith, up_to)))

    front_length_lem : length (take (cells_of s j) (cells_in s)) ≡ cells_of s j
    front_length_lem = length-take-le (cells_of s j) (cells_in s) (omega (arith, up_to, filled_fits s f))

    own_left : take j (moduli_in s) ++ drop (suc j) (own_in s) ≡ without j (own_in s)
    own_left =
        ap (λ (qs : List ℕ). qs ++ drop (suc j) (own_in s)) (sym (take-take j (held_in s) (moduli_in s) (omega arith)))

    own_length : j + length (drop (suc j) (own_in s)) ≡ held_in s - 1
    own_length = omega (arith, length-drop (suc j) (own_in s), length_own s f)

    equations-left : equations_of (unknowns_in s) (take (cells_of s j) (cells_in s) ++ behind) ≡ without j (lying_in s)
    equations-left =
        equations-append j (unknowns_in s) (take (cells_of s j) (cells_in s)) behind front_length_lem
        ∙ ap₂ {C = List Equation} ◌++◌
        (ap (equations_of (unknowns_in s)) front
        ∙ equations-take j (unknowns_in s) (numbers_in s) (omega (arith, up_to, length_numbers s f)))
        (equations-drop (suc j) (unknowns_in s) (numbers_in s) (omega (arith, up_to, length_numbers s f)))

    reads_losing : ledger_of (record_by s (loses j)) ≡ changed (lying s) (loses j)
    reads_losing =
        rewritten (held_in s - 1) (omega (arith, f.equations)) j (drop (suc j) (own_in s)) own_length (without j (own_in s)) own_left
        (cells_of s j) behind behind-length
        (omega (arith, behind-length, length-drop (cells_of s (suc j)) (numbers_in s), length_numbers s f, up_to, filled_fits s f))
        (subst (Below (modulus_in s)) (sym front) (below-take (modulus_in s) (cells_of s j) (numbers_in s) f.residues))
        (below-drop (modulus_in s) (cells_of s (suc j)) (numbers_in s) f.residues) (without j (lying_in s)) equations-left
        (fit-without (modulus_in s) j (own_in s) (lying_in s) (same_count s f) f.own) _
        (stored-without (modulus_in s) j (own_in s) (lying_in s) (same_count s f))

-- ---- by effect

pub changed-reads : (s : Sheet) (e : Effect) → Allows (ledger_of s) e → ledger_of (record_by s e) ≡ changed (ledger_of s) e
changed-reads s (begins m n) (modulus, unknowns) =
    reads-empty (record_by s (begins m n)) refl modulus unknowns refl
changed-reads s (gains line) g =
    let reads = opened-readable s g.opened in
    let same = ledger-opened s reads in
    reads_gaining s (readable-fit s reads) line (subst (λ (l : Ledger). Gains l line) same g) (omega (arith, g.under, held_counts s reads))
    ∙ ap (λ (l : Ledger). changed l (gains line)) (sym same)
changed-reads s (loses j) (is, place) =
    let reads = opened-readable s is in
    reads_losing s (readable-fit s reads) j (omega (arith, place, held_counts s reads))
    ∙ ap (λ (l : Ledger). changed l (loses j)) (sym (ledger-opened s reads))
