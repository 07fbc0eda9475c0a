-- Whether a sheet is opened, and what is seen of it.
--   modulus_not, unknowns_not, equations_not, residues_not, moduli_decide   one test of that after the other
--   lines_to_lem, own_to, as_many       the lines and their moduli, up to their ends
--   sees-read, sees-unopened        what the questions see
--   seen_modulus, seen_unknowns, seen_held   of an opened sheet these are the record's
--   viewed_posed, viewed_lines      the lines that queries see are a system mod m, that of the ledger's lines
--   viewed_block                    and their block is the ledger's
use mathlib.Core.Path.{◌≡◌, refl, sym, ap, ap₂, subst, ◌∙◌}
use mathlib.Core.Bool.{Bool, true, false, cond}
use mathlib.Core.List.{List}
use Prim.Native.Nat.{ℕ, ◌+◌, ◌-◌, ◌*◌, ◌<◌, ◌≤◌}
use native.Mathlib.Nat.{mul-le-mul}
use native.Mathlib.Omega.{arith}
use borrow.Author.Tests.{le-leb, lt-leb, eq-eqb}
use lib.Dec.{T}
use lib.ListN.{length, take, drop, length-drop}
use lib.Seq.{take-take, length-take-le}
use Rattle.questions.specs.Questions.{allowed_modulus}
use Rattle.equations.specs.Multipliers.{all_below}
use Rattle.equations.specs.Lines.{equations_of}
use Rattle.equations.specs.Line.{scaled}
use Rattle.equations.proofs.Truth.{true_of}
use Rattle.system.specs.declared.solving.Answer.{Answer}
use Rattle.system.specs.Posed.{Posed}
use Rattle.system.specs.Block.{answer_from, answer_of}
use Rattle.system.specs.Lines.{line_block}
use Rattle.system.proofs.Lines.{line-block}
use Rattle.lines.specs.Stored.{all_fit, stored}
use Rattle.ledger.specs.Ledger.{Ledger, unopened, opened, is_opened, modulus_of, unknowns_of, lines_in, most_equations, most_unknowns}
use Rattle.ledger.specs.Questions.{allowed_unknowns}
use Rattle.asking.specs.declared.Seen.{Seen}
use Rattle.asking.specs.Sees.{Sees}
use Rattle.sheet.specs.declared.viewing.View.{View}
use Rattle.sheet.specs.Record.{Sheet, modulus_in, unknowns_in, held_in, cells_in, size, own_in, numbers_in, lying_in, readable, ledger_of}
use Rattle.sheet.specs.View.{lines_of}
use Rattle.sheet.proofs.Reading.{Fit, lines-size, readable-fit, ledger-opened, ledger-unopened, opened-posed, lines_lie, held_counts, reads-allowed}

module _ (s : Sheet) where
  opened_is : is_opened (ledger_of s) ≡ readable s
  unfolding ledger_of
  opened_is = go (readable s)
    where
      go : (b : Bool)
          → is_opened (cond b (opened (modulus_in s) (unknowns_in s) (stored (modulus_in s) (own_in s) (lying_in s))) unopened) ≡ b
      go true = refl
      go false = refl

  -- the lines up to their end, where the unknowns and the equations held have other names too
  pub lines_to_lem : {n held : ℕ} (end : ℕ) → end ≡ 19 + held * (n + 1) → n ≡ unknowns_in s → held ≡ held_in s → take (end - 19) (cells_in s) ≡ numbers_in s
  lines_to_lem {n} {held} end at same-n same-held =
      let count : end - 19 ≡ held_in s * (unknowns_in s + 1) = omega (arith, at, lines-size same-held same-n) in
      ap (λ (k : ℕ). take k (cells_in s)) count

  -- the moduli up to their end
  pub own_to : {held : ℕ} → held ≡ held_in s → held_in s ≤ most_equations → take (3 + held - 3) (drop 3 s) ≡ own_in s
  own_to {held} same few =
      let count : 3 + held - 3 ≡ held_in s = omega (arith, same) in
      ap (λ (k : ℕ). take k (drop 3 s)) count ∙ sym (take-take (held_in s) most_equations (drop 3 s) few)

  -- n + 1 numbers for each modulus
  pub as_many : (n held : ℕ) → n ≤ most_unknowns → held ≤ most_equations → length s ≡ size
      → length (take (19 + held * (n + 1) - 19) (drop 19 s)) ≡ length (take (3 + held - 3) (drop 3 s)) * (n + 1)
  as_many n held unknowns few whole =
      let wide = mul-le-mul {n₁ = held} {m₁ = n + 1} {n₂ = 16} {m₂ = 17} few (omega arith) in
      let own : length (take (3 + held - 3) (drop 3 s)) ≡ held =
      length-take-le (3 + held - 3) (drop 3 s) (omega (arith, whole, length-drop 3 s)) ∙ omega arith in
      length-take-le (19 + held * (n + 1) - 19) (drop 19 s) (omega (arith, whole, wide, length-drop 19 s))
      ∙ omega arith ∙ ap (λ (k : ℕ). k * (n + 1)) (sym own)

  pub modulus_not : allowed_modulus (modulus_in s) ≡ false → is_opened (ledger_of s) ≡ false
  modulus_not m = opened_is ∙ rw m

  module _ (m : allowed_modulus (modulus_in s) ≡ true) where
    pub unknowns_not : allowed_unknowns (unknowns_in s) ≡ false → is_opened (ledger_of s) ≡ false
    unknowns_not n = opened_is ∙ rw (m, n)

    module _ (n : allowed_unknowns (unknowns_in s) ≡ true) where
      pub equations_not : most_equations < held_in s → is_opened (ledger_of s) ≡ false
      equations_not many = opened_is ∙ rw (m, n, lt-leb (held_in s) most_equations many)

      module _ (few : held_in s ≤ most_equations) (whole : length s ≡ size) where
        pub residues_not : all_below (modulus_in s) (numbers_in s) ≡ false → is_opened (ledger_of s) ≡ false
        residues_not below =
            opened_is ∙ rw (m, n, le-leb (held_in s) most_equations few, eq-eqb (length s) size whole, below)

        pub moduli_decide : all_below (modulus_in s) (numbers_in s) ≡ true
            → is_opened (ledger_of s) ≡ all_fit (modulus_in s) (own_in s) (lying_in s)
        moduli_decide below =
            opened_is ∙ rw (m, n, le-leb (held_in s) most_equations few, eq-eqb (length s) size whole, below)

  -- ---- what is seen

  pub sees-unopened : is_opened (ledger_of s) ≡ false
      → Sees (ledger_of s) (record { opened = false; modulus = 0; unknowns = 0; held = 0 })
  sees-unopened h =
      subst (λ (l : Ledger). Sees l (record { opened = false; modulus = 0; unknowns = 0; held = 0 }))
      (sym (ledger-unopened s (sym opened_is ∙ h)))
      (record { opened = refl; modulus = refl; unknowns = refl; held = refl })

  module _ (h : is_opened (ledger_of s) ≡ true) where
    reads : readable s ≡ true
    reads = sym opened_is ∙ h

    opened-fit : Fit s
    opened-fit = readable-fit s reads

    opened-ledger : ledger_of s ≡ opened (modulus_in s) (unknowns_in s) (stored (modulus_in s) (own_in s) (lying_in s))
    opened-ledger = ledger-opened s reads

    -- where the unknowns and the equations held have other names too
    pub sees-read : {n held : ℕ} → n ≡ unknowns_in s → held ≡ held_in s
        → Sees (ledger_of s) (record { opened = true; modulus = modulus_in s; unknowns = n; held = held })
        × ((n ≤ most_unknowns) × (held ≤ most_equations))
    sees-read same-n same-held = (
      record {
        opened = sym h;
        modulus = sym (ap modulus_of opened-ledger);
        unknowns = same-n ∙ sym (ap unknowns_of opened-ledger);
        held = same-held ∙ sym (held_counts s reads);
      },
      (omega (arith, same-n, opened-fit.unknowns), omega (arith, same-held, opened-fit.equations)),
    )

    module _ {seen : Seen} (sees : Sees (ledger_of s) seen) where
      pub seen_modulus : seen.modulus ≡ modulus_in s
      seen_modulus = sees.modulus ∙ ap modulus_of opened-ledger

      pub seen_unknowns : seen.unknowns ≡ unknowns_in s
      seen_unknowns = sees.unknowns ∙ ap unknowns_of opened-ledger

      pub seen_held : seen.held ≡ held_in s
      seen_held = sees.held ∙ held_counts s reads

-- ---- what follows of a view of an opened sheet

module _ (v : View) (is : T (is_opened (ledger_of v.sheet.now))) where
  yes : is_opened (ledger_of v.sheet.now) ≡ true
  yes = true_of (is_opened (ledger_of v.sheet.now)) is

  modulus_is : v.seen.modulus ≡ modulus_in v.sheet.now
  modulus_is = seen_modulus v.sheet.now yes v.sees

  unknowns_are : v.seen.unknowns ≡ unknowns_in v.sheet.now
  unknowns_are = seen_unknowns v.sheet.now yes v.sees

  lines_are : lines_of v ≡ numbers_in v.sheet.now
  lines_are = ap (λ (k : ℕ). take k (cells_in v.sheet.now)) (lines-size (seen_held v.sheet.now yes v.sees) unknowns_are)

  module _ {lines : List ℕ} (lie : lines ≡ lines_of v) where
    pub viewed_posed : Posed v.seen.modulus v.seen.unknowns lines
    viewed_posed = rw (lie, lines_are, modulus_is, unknowns_are) (opened-posed v.sheet.now (reads v.sheet.now yes))

    pub viewed_lines : equations_of v.seen.unknowns lines ≡ scaled (modulus_of (ledger_of v.sheet.now)) (lines_in (ledger_of v.sheet.now))
    viewed_lines = rw (lie, lines_are, unknowns_are) (lines_lie v.sheet.now (reads v.sheet.now yes))

    pub viewed_block : {b : Answer} → b ≡ answer_of v.seen.modulus v.seen.unknowns (equations_of v.seen.unknowns lines)
        → b
        ≡ answer_from (line_block (modulus_of (ledger_of v.sheet.now)) (unknowns_of (ledger_of v.sheet.now)) (lines_in (ledger_of v.sheet.now)))
    unfolding answer_of
    viewed_block made =
        let l = ledger_of v.sheet.now in
        let allowed = reads-allowed v.sheet.now is in
        made ∙ ap (answer_of v.seen.modulus v.seen.unknowns) viewed_lines
        ∙ ap₂ (λ (m n : ℕ). answer_of m n (scaled (modulus_of l) (lines_in l))) v.sees.modulus v.sees.unknowns
        ∙ ap answer_from (sym (line-block _ _ (omega (arith, allowed.modulus)) (lines_in l) allowed.moduli))
