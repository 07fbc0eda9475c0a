-- The memory of an opened sheet: a part of it is lent, and comes back with other numbers at the front.
--   whole, width_small, held_small, modulus_positive   sizes that fit a number
--   lines-within                the lines end within the memory
--   line-room, count-within, line-written   a line written behind the others, with its modulus
--   place-within, line-behind   a line that is held lies there
--   moving_fits, moved_up       the lines behind it, moved up to its place, and their moduli
--   between_long, own_moving_fits, again_long, moved_length   the memory is as long as it was, and there is room for these
use mathlib.Core.Path.{◌≡◌, refl, sym, ap, subst, ◌∙◌}
use mathlib.Core.List.{List, [], ◌∷◌, ◌++◌, map}
use Prim.Native.Nat.{ℕ, suc, ◌+◌, ◌-◌, ◌*◌, ◌/◌, ◌<◌, ◌≤◌}
use native.Mathlib.Numerals.{add-one}
use native.Mathlib.Omega.{arith}
use lib.Dec.{T}
use lib.ListN.{length, take, drop, set, length-set, length-append, length-drop, take-append-drop}
use lib.Seq.{drop-drop, take-append-le, drop-append-le}
use Rattle.slices.specs.Over.{over}
use Rattle.slices.proofs.Parts.{lent, put_back, lent_is, lent_length}
use Rattle.equations.specs.Lines.{equation_at}
use Rattle.equations.specs.Line.{Line, scaled_one}
use Rattle.lines.specs.Stored.{in_row}
use Rattle.ledger.specs.Ledger.{is_opened, most_equations}
use Rattle.ledger.specs.History.{gains, loses}
use Rattle.sheet.specs.Record.{Sheet, modulus_in, unknowns_in, held_in, moduli_in, cells_in, sheet_of, room, size, cells_of, own_in, numbers_in, ledger_of, written_at, record_by}
use Rattle.sheet.proofs.Reading.{Fit, lines-size, filled, readable-fit, cells_room, moduli-room, length_numbers, length_own, filled_fits, opened-readable}
use Rattle.sheet.proofs.Joined.{row-map, drop-take}
use Rattle.sheet.proofs.Records.{written-length, more_fits, up_to}
use Rattle.sheet.proofs.Written.{set-written, put_written, moduli-written, cells_written}

-- a sheet is made of its parts
parts : (s : Sheet) → 3 ≤ length s → s ≡ sheet_of (modulus_in s) (unknowns_in s) (held_in s) (moduli_in s) (cells_in s)
parts [] long = absurd (omega arith)
parts (m ∷ []) long = absurd (omega arith)
parts (m ∷ n ∷ []) long = absurd (omega arith)
parts (m ∷ n ∷ held ∷ rest) long = ap (λ (zs : List ℕ). m ∷ n ∷ held ∷ zs) (sym (take-append-drop most_equations rest))

module _ (s : Sheet) (is : T (is_opened (ledger_of s))) where
  fit : Fit s
  fit = readable-fit s (opened-readable s is)

  pub whole : length s ≡ size
  whole = fit.whole

  filled_small : filled s ≤ room
  filled_small = omega (arith, filled_fits s fit, cells_room s fit)

  pub width_small : unknowns_in s + 1 ≤ 17
  width_small = omega (arith, fit.unknowns)

  pub held_small : held_in s ≤ most_equations
  held_small = fit.equations

  pub modulus_positive : 0 < modulus_in s
  modulus_positive = omega (arith, fit.modulus)

  -- xs written into the cells from place i on
  cells_so : (i at : ℕ) (xs : List ℕ) → at ≡ 19 + i → {part : List ℕ} → part ≡ over xs (lent at s)
      → put_back at s part ≡ sheet_of (modulus_in s) (unknowns_in s) (held_in s) (moduli_in s) (written_at i xs (cells_in s))
  cells_so i at xs place written =
      put_written at xs s written ∙ ap (written_at at xs) (parts s (omega (arith, whole)))
      ∙ cells_written (modulus_in s) (unknowns_in s) (held_in s) (moduli_in s) (cells_in s) (moduli-room s fit) i at xs place

  -- held and n are what the code has read of the sheet
  module _ {held n : ℕ} (same-held : held ≡ held_in s) (same-n : n ≡ unknowns_in s) where
    filling : held * (n + 1) ≡ filled s
    filling = lines-size same-held same-n

    pub lines-within : 19 + held * (n + 1) ≤ length s
    lines-within = omega (arith, filling, filled_small, whole)

    -- ---- one line more

    module _ (q : ℕ) (line : List ℕ) (long : length line ≡ unknowns_in s + 1) where
      abbrev gained : Line
      gained = record { modulus = q; equation = equation_at (unknowns_in s) line }

      pub line-room : held_in s < most_equations → length line ≤ length (lent (19 + held * (n + 1)) s)
      line-room under =
          omega (arith, filling, long, more_fits s fit under, cells_room s fit, whole, lent_length (19 + held * (n + 1)) s)

      -- the cells are written; then its modulus is
      module _ (under : held_in s < most_equations) (own : ℕ) (place : own ≡ 3 + held_in s) {part : List ℕ}
          (written : part ≡ over (map (λ (a : ℕ). modulus_in s / q * a) line) (lent (19 + held * (n + 1)) s)) where
        abbrev row : List ℕ
        row = in_row (scaled_one (modulus_in s) gained)

        abbrev longer : List ℕ
        longer = written_at (filled s) row (cells_in s)

        own_written : set (put_back (19 + held * (n + 1)) s part) own q
            ≡ sheet_of (modulus_in s) (unknowns_in s) (held_in s) (written_at (held_in s) (q ∷ []) (moduli_in s)) longer
        own_written =
            ap (λ (t : Sheet). set t own q)
            (cells_so (filled s) (19 + held * (n + 1)) row (omega (arith, filling))
            (written ∙ ap (λ (xs : List ℕ). over xs (lent (19 + held * (n + 1)) s))
            (sym (row-map (λ (a : ℕ). modulus_in s / q * a) (unknowns_in s) line long))))
            ∙ set-written (sheet_of (modulus_in s) (unknowns_in s) (held_in s) (moduli_in s) longer) own q
            (omega (arith, place, moduli-room s fit, length-append (moduli_in s) longer))
            ∙ moduli-written (modulus_in s) (unknowns_in s) (held_in s) (moduli_in s) longer (moduli-room s fit) (held_in s) own (q ∷ []) place
            (omega arith)

        -- a sheet has three numbers in front
        pub count-within : 2 < length (set (put_back (19 + held * (n + 1)) s part) own q)
        count-within =
            subst (λ (t : Sheet). 2 < length t) (sym own_written) (omega (arith, length-append (written_at (held_in s) (q ∷ []) (moduli_in s)) longer))

        pub line-written : set (set (put_back (19 + held * (n + 1)) s part) own q) 2 (held_in s + 1)
            ≡ record_by s (gains (record { modulus = q; equation = equation_at (unknowns_in s) line }))
        line-written = ap (λ (t : Sheet). set t 2 (held_in s + 1)) own_written

    -- ---- one line less

    module _ (j : ℕ) (place : j < held_in s) where
      placing : j * (n + 1) ≡ j * (unknowns_in s + 1)
      placing = lines-size refl same-n

      fits : j * (n + 1) + (n + 1) ≤ held * (n + 1)
      fits = omega (arith, filling, placing, same-n, up_to s fit j place)

      pub place-within : 19 + j * (n + 1) ≤ length s
      place-within = omega (arith, fits, lines-within)

      pub line-behind : n + 1 ≤ held * (n + 1) - j * (n + 1)
      line-behind = omega (arith, fits)

      -- the numbers behind the line at the place
      abbrev count : ℕ
      count = held * (n + 1) - j * (n + 1) - (n + 1)

      pub moving_fits : n + 1 + (held * (n + 1) - j * (n + 1) - (n + 1)) ≤ length (lent (19 + j * (n + 1)) s)
      moving_fits = omega (arith, fits, lines-within, lent_length (19 + j * (n + 1)) s)

      moving_is : take count (drop (n + 1) (lent (19 + j * (n + 1)) s)) ≡ drop (cells_of s (suc j)) (numbers_in s)
      moving_is =
          let same : 19 + j * (n + 1) + (n + 1) ≡ 19 + cells_of s (suc j) = omega (arith, placing, same-n) in
          let left : count ≡ filled s - cells_of s (suc j) = omega (arith, filling, placing, same-n) in
          ap (λ (l : List ℕ). take count (drop (n + 1) l)) (lent_is (19 + j * (n + 1)) s)
          ∙ ap (take count)
          (drop-drop (n + 1) (19 + j * (n + 1)) s ∙ ap (λ (k : ℕ). drop k s) same ∙ sym (drop-drop (cells_of s (suc j)) 19 s))
          ∙ ap (λ (k : ℕ). take k (drop (cells_of s (suc j)) (cells_in s))) left
          ∙ sym (drop-take (cells_of s (suc j)) (filled s) (cells_in s))

      numbers_fit : cells_of s j + length (drop (cells_of s (suc j)) (numbers_in s)) ≤ length (cells_in s)
      numbers_fit =
          omega (arith, length-drop (cells_of s (suc j)) (numbers_in s), length_numbers s fit, up_to s fit j place, filled_fits s fit)

      -- the cells are written; then the moduli are
      module _ {part : List ℕ}
          (written : part
          ≡ over (take (held * (n + 1) - j * (n + 1) - (n + 1)) (drop (n + 1) (lent (19 + j * (n + 1)) s))) (lent (19 + j * (n + 1)) s)) where
        abbrev cells : List ℕ
        cells = written_at (cells_of s j) (drop (cells_of s (suc j)) (numbers_in s)) (cells_in s)

        abbrev between : Sheet
        between = sheet_of (modulus_in s) (unknowns_in s) (held_in s) (moduli_in s) cells

        between_is : put_back (19 + j * (n + 1)) s part ≡ between
        between_is =
            cells_so (cells_of s j) (19 + j * (n + 1)) (drop (cells_of s (suc j)) (numbers_in s)) (omega (arith, placing))
            (written ∙ ap (λ (xs : List ℕ). over xs (lent (19 + j * (n + 1)) s)) moving_is)

        between_size : length between ≡ size
        between_size =
            omega (
              arith,
              whole,
              length-append (moduli_in s) (cells_in s),
              length-append (moduli_in s) cells,
              ap length (parts s (omega (arith, whole))),
              written-length (cells_of s j) (drop (cells_of s (suc j)) (numbers_in s)) (cells_in s) numbers_fit,
            )

        pub between_long : length (put_back (19 + j * (n + 1)) s part) ≡ size
        between_long = ap length between_is ∙ between_size

        module _ (own left : ℕ) (own-place : own ≡ 3 + j) (own_left : left ≡ held_in s - j - 1) where
          pub own_moving_fits : 1 + left ≤ length (lent own (put_back (19 + j * (n + 1)) s part))
          own_moving_fits =
              omega (arith, own-place, own_left, held_small, lent_length own (put_back (19 + j * (n + 1)) s part), between_long)

          own_moving_is : take left (drop 1 (lent own between)) ≡ drop (suc j) (own_in s)
          own_moving_is =
              let same : own ≡ suc (suc (suc j)) = omega (arith, own-place) in
              let few : left ≡ held_in s - suc j = omega (arith, own_left) in
              let room = moduli-room s fit in
              ap (λ (l : List ℕ). take left (drop 1 l)) (lent_is own between ∙ ap (λ (k : ℕ). drop k between) same)
              ∙ ap (take left) (drop-drop 1 j (moduli_in s ++ cells) ∙ ap (λ (k : ℕ). drop k (moduli_in s ++ cells)) (add-one j))
              ∙ ap (take left) (drop-append-le (suc j) (moduli_in s) cells (omega (arith, room, held_small)))
              ∙ take-append-le left (drop (suc j) (moduli_in s)) cells
              (omega (arith, own_left, room, held_small, length-drop (suc j) (moduli_in s)))
              ∙ ap (λ (k : ℕ). take k (drop (suc j) (moduli_in s))) few
              ∙ sym (drop-take (suc j) (held_in s) (moduli_in s))

          module _ {again : List ℕ}
              (rewritten : again
              ≡ over (take left (drop 1 (lent own (put_back (19 + j * (n + 1)) s part)))) (lent own (put_back (19 + j * (n + 1)) s part))) where
            abbrev closed : List ℕ
            closed = drop (suc j) (own_in s)

            closed-fits : j + length closed ≤ most_equations
            closed-fits = omega (arith, own_left, held_small, length-drop (suc j) (own_in s), length_own s fit)

            lies : again ≡ over closed (lent own between)
            lies =
                rewritten ∙ ap (λ (t : Sheet). over (take left (drop 1 (lent own t))) (lent own t)) between_is
                ∙ ap (λ (ys : List ℕ). over ys (lent own between)) own_moving_is

            again_is : put_back own (put_back (19 + j * (n + 1)) s part) again
                ≡ sheet_of (modulus_in s) (unknowns_in s) (held_in s) (written_at j closed (moduli_in s)) cells
            again_is =
                ap (λ (t : Sheet). put_back own t again) between_is ∙ put_written own closed between lies
                ∙ moduli-written (modulus_in s) (unknowns_in s) (held_in s) (moduli_in s) cells (moduli-room s fit) j own closed own-place
                closed-fits

            pub again_long : length (put_back own (put_back (19 + j * (n + 1)) s part) again) ≡ size
            again_long =
                omega (
                  arith,
                  ap length again_is,
                  between_size,
                  length-append (moduli_in s) cells,
                  length-append (written_at j closed (moduli_in s)) cells,
                  written-length j closed (moduli_in s) (omega (arith, closed-fits, moduli-room s fit)),
                )

            pub moved_length : length (set (put_back own (put_back (19 + j * (n + 1)) s part) again) 2 (held_in s - 1)) ≡ length s
            moved_length =
                length-set (put_back own (put_back (19 + j * (n + 1)) s part) again) 2 (held_in s - 1) ∙ again_long ∙ sym whole

            pub moved_up : set (put_back own (put_back (19 + j * (n + 1)) s part) again) 2 (held_in s - 1) ≡ record_by s (loses j)
            moved_up = ap (λ (t : Sheet). set t 2 (held_in s - 1)) again_is
