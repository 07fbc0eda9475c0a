-- What open, add and strike give back.
--   entry_refused                   the number of the question that turned the call away, and the sheet as it was
--   open_is, open_accepted          an accepted opening has two words
--   modulus_some                    an opened sheet has a modulus
--   gain_fits, gain_accepted          there is room for the line of an accepted equation, it has residues mod its own modulus, and it is
--                                     written
--   add-opened                        an accepted equation is asked of an opened sheet
--   used_line                         its residues are taken by its own modulus,
--   line-long, line_own, line_lies    they are those of its words,
--   typed_lies                        or what the reader gives
--   strike_opened, strike_some, strike_within, strike_accepted   an accepted strike has a line to strike, at its place
use mathlib.Core.Path.{◌≡◌, refl, sym, ap, ap₂, subst, ◌∙◌}
use mathlib.Core.Bool.{true}
use mathlib.Core.List.{List, [], ◌∷◌}
use mathlib.Core.Option.{Option}
use Prim.Native.Nat.{ℕ, ◌+◌, ◌-◌, ◌<◌, ◌≤◌}
use native.Mathlib.Omega.{arith}
use borrow.Author.Tests.{eq-eqb, ne_eqb}
use lib.Dec.{T}
use lib.ListN.{length, take, get_or, replicate}
use lib.Seq.{take_all}
use Rattle.std.specs.Prelude.{Ok, Err}
use Rattle.slices.specs.Over.{over}
use Rattle.slices.proofs.Over.{over-front}
use Rattle.questions.specs.Questions.{allowed_own}
use Rattle.questions.proofs.Questions.{AllYes}
use Rattle.equations.specs.Vectors.{Below}
use Rattle.equations.specs.Equation.{Equation}
use Rattle.equations.specs.Lines.{equation_at}
use Rattle.equations.specs.Line.{Line}
use Rattle.equations.proofs.Lines.{equation-front}
use Rattle.equations.proofs.Truth.{true_of}
use Rattle.equations.proofs.Vectors.{below-append}
use Rattle.words.specs.Words.{words_in, numbers_of}
use Rattle.words.specs.Signs.{residues_of}
use Rattle.words.proofs.Words.{number_of, parts_count}
use Rattle.words.proofs.Unpacked.{part_seen}
use Rattle.grammar.specs.Tree.{Sides}
use Rattle.grammar.specs.Texts.{equation_in}
use Rattle.ledger.specs.Ledger.{unopened, is_opened, modulus_of, unknowns_of, lines_in, most_equations}
use Rattle.ledger.specs.Shapes.{number_at, is_opening, own_modulus, equation_words, line_from}
use Rattle.ledger.specs.Calls.{Entry, opens, adds, strikes, enters}
use Rattle.ledger.specs.Questions.{questions, refusal_of}
use Rattle.ledger.specs.History.{Effect, gains, loses, struck_at, effect_of, changed}
use Rattle.ledger.proofs.Shapes.{opening_length}
use Rattle.ledger.proofs.Questions.{opens_any, accepted-yes}
use Rattle.ledger.proofs.Effects.{Gains, Allows, residues-long, accepted_allows, enter-accepted, gains_counts, loses_counts}
use Rattle.asking.specs.declared.Seen.{Seen}
use Rattle.asking.specs.Sees.{Sees, opening_room, equation_room, used_modulus}
use Rattle.asking.proofs.Owned.{used_own}
use Rattle.sheet.specs.Record.{Sheet, modulus_in, unknowns_in, held_in, sheet_of, room, ledger_of, record_by}
use Rattle.sheet.specs.Calls.{entered_of, sheet_after}
use Rattle.sheet.proofs.Reading.{reads-allowed}
use Rattle.sheet.proofs.Opened.{seen_modulus, seen_unknowns, seen_held}
use Rattle.sheet.proofs.Joined.{line-whole}
use Rattle.sheet.proofs.Few.{unknowns-few}

abbrev coefficients_of : Equation → List ℕ
coefficients_of e = e.coefficients

abbrev right_of : Equation → ℕ
right_of e = e.right

module _ (s : Sheet) (e : Entry) (number : ℕ) (is : number ≡ refusal_of (ledger_of s) (enters e)) where
  pub entry_refused : (number ≡ 0 → ⊥) → (Err number ≡ entered_of (ledger_of s) e) × (s ≡ sheet_after s e)
  unfolding sheet_after entered_of
  entry_refused some = let no = ne_eqb number 0 some in (rw (← is, no), rw (← is, no))

  -- the numbers that its effect makes, or others that are the same
  entry_accepted : number ≡ 0 → (effect : Effect) → effect_of (ledger_of s) e ≡ effect
      → (k : ℕ) → length (lines_in (changed (ledger_of s) effect)) ≡ k → {new : Sheet} → new ≡ record_by s effect
      → (Ok k ≡ entered_of (ledger_of s) e) × (new ≡ sheet_after s e)
  unfolding sheet_after entered_of
  entry_accepted none effect same k counts made =
      let yes = eq-eqb number 0 none in (
        rw (enter-accepted (ledger_of s) e (sym is ∙ none), same, counts, ← is, yes),
        rw (made, same, ← is, yes),
      )

-- ---- open

module _ (ws : List ℕ) (number : ℕ) (is : number ≡ refusal_of unopened (enters (opens ws))) where
  pub open_is : (s : Sheet) → number ≡ refusal_of (ledger_of s) (enters (opens ws))
  open_is s = is ∙ sym (opens_any (ledger_of s) ws)

  module _ (none : number ≡ 0) (old : List ℕ) {new : List ℕ}
      (seen : new ≡ over (take opening_room (numbers_of (words_in ws))) old) where
    abbrev all : List ℕ
    all = numbers_of (words_in ws)

    two : length all ≡ 2
    two =
        parts_count number_of (words_in ws)
        ∙ opening_length (words_in ws) (true_of (is_opening (words_in ws)) (accepted-yes unopened (enters (opens ws)) (sym is ∙ none)).1.0)

    number_is : (i : ℕ) → i < 2 → get_or new i 0 ≡ number_at (words_in ws) i
    number_is i at = part_seen number_of opening_room ws old seen i (omega arith) (omega (arith, two, parts_count number_of (words_in ws)))

    pub open_accepted : (s : Sheet) {after : Sheet} → after ≡ sheet_of (get_or new 0 0) (get_or new 1 0) 0 (replicate most_equations 0) (replicate room 0)
        → (Ok 0 ≡ entered_of (ledger_of s) (opens ws)) × (after ≡ sheet_after s (opens ws))
    open_accepted s made =
        entry_accepted s (opens ws) number (open_is s) none _ refl 0 refl
        (made ∙ ap₂ (λ (m n : ℕ). sheet_of m n 0 (replicate most_equations 0) (replicate room 0)) (number_is 0 (omega arith)) (number_is 1 (omega arith)))

-- ---- a line more

-- what an opened sheet is seen to have is a modulus
pub modulus_some : (s : Sheet) {seen : Seen} → Sees (ledger_of s) seen → T seen.opened → 2 ≤ seen.modulus
modulus_some s sees is =
    omega (arith, sees.modulus, (reads-allowed s (subst T sees.opened is)).modulus)

module _ (s : Sheet) (e : Entry) (gained : Line) (effect : effect_of (ledger_of s) e ≡ gains gained) {seen : Seen}
    (sees : Sees (ledger_of s) seen) (number : ℕ) (is : number ≡ refusal_of (ledger_of s) (enters e)) (none : number ≡ 0) where
  allows : Gains (ledger_of s) gained
  allows = subst (Allows (ledger_of s)) effect (accepted_allows (ledger_of s) e (sym is ∙ none))

  is_opened_lem : T (is_opened (ledger_of s))
  is_opened_lem = allows.opened

  opens_so : is_opened (ledger_of s) ≡ true
  opens_so = true_of (is_opened (ledger_of s)) is_opened_lem

  same-unknowns : seen.unknowns ≡ unknowns_in s
  same-unknowns = seen_unknowns s opens_so sees

  least : 2 ≤ modulus_of (ledger_of s)
  least = (reads-allowed s is_opened_lem).modulus

  -- the line lies in numbers
  module _ (q : ℕ) (own : q ≡ gained.modulus) (line : List ℕ) (long : length line ≡ seen.unknowns + 1)
      (lies : equation_at seen.unknowns line ≡ gained.equation) where
    gain_own : T (allowed_own (modulus_in s) q)
    gain_own =
        rw (own, ← sym sees.modulus ∙ seen_modulus s opens_so sees) (allows.own least)

    gain_below : Below q line
    gain_below =
        let whole = line-whole seen.unknowns line long in
        subst (Below q) whole
        (below-append q (take seen.unknowns line) (get_or line seen.unknowns 0 ∷ [])
        (rw (own, ap coefficients_of lies) (allows.coefficients least)) (rw (own, ap right_of lies) (allows.right least), tt))

    -- what `with_line` asks for
    pub gain_fits : (T (is_opened (ledger_of s)) × (held_in s < most_equations) × (length line ≡ unknowns_in s + 1))
        × (T (allowed_own (modulus_in s) q) × Below q line)
    gain_fits = (
      (is_opened_lem, omega (arith, allows.under, sees.held, seen_held s opens_so sees), long ∙ ap (λ (k : ℕ). k + 1) same-unknowns),
      (gain_own, gain_below),
    )

    -- the line is written
    pub gain_accepted : {after : Sheet}
        → after ≡ record_by s (gains (record { modulus = q; equation = equation_at (unknowns_in s) line }))
        → (Ok (seen.held + 1) ≡ entered_of (ledger_of s) e) × (after ≡ sheet_after s e)
    gain_accepted =
        entry_accepted s e number is none (gains (record { modulus = q; equation = equation_at (unknowns_in s) line }))
        (effect ∙ ap gains (ap₂ {C = Line} (λ (p : ℕ) (x : Equation). record { modulus = p; equation = x }) (sym own)
        (sym lies ∙ ap (λ (n : ℕ). equation_at n line) same-unknowns)))
        (seen.held + 1) (gains_counts (ledger_of s) _ is_opened_lem ∙ ap (λ (k : ℕ). k + 1) (sym sees.held))

-- ---- add

-- an accepted equation is asked of an opened sheet
pub add-opened : (s : Sheet) (ws : List ℕ) {seen : Seen} → Sees (ledger_of s) seen → (number : ℕ)
    → number ≡ refusal_of (ledger_of s) (enters (adds ws)) → number ≡ 0 → T seen.opened
add-opened s ws sees number is none =
    subst T (sym sees.opened) (accepted-yes (ledger_of s) (enters (adds ws)) (sym is ∙ none)).0

pub used_line : (s : Sheet) (ws : List ℕ) {seen : Seen} → Sees (ledger_of s) seen → 0 ≡ refusal_of (ledger_of s) (enters (adds ws))
    → {q : ℕ} → q ≡ own_modulus seen.modulus (words_in ws) → (old : List ℕ) {new : List ℕ}
    → new ≡ over (take equation_room (residues_of (used_modulus seen.modulus (words_in ws)) (equation_words (words_in ws)))) old
    → new ≡ over (take equation_room (residues_of q (equation_words (words_in ws)))) old
used_line s ws {seen} sees is {q} own old front =
    let asked = accepted-yes (ledger_of s) (enters (adds ws)) (sym is) in
    let allowed = subst (λ (m : ℕ). T (allowed_own m (own_modulus m (words_in ws)))) (sym sees.modulus) asked.1.1.1.0 in
    let used = used_own seen.modulus (own_modulus seen.modulus (words_in ws)) (allowed_own seen.modulus (own_modulus seen.modulus (words_in ws))) allowed in
    front ∙ ap (λ (p : ℕ). over (take equation_room (residues_of p (equation_words (words_in ws)))) old) (used ∙ sym own)

module _ (s : Sheet) (ws : List ℕ) {seen : Seen} (sees : Sees (ledger_of s) seen) (number q : ℕ)
    (is : number ≡ refusal_of (ledger_of s) (enters (adds ws))) (none : number ≡ 0)
    (own : q ≡ own_modulus seen.modulus (words_in ws)) (old : List ℕ) {new : List ℕ}
    (front : new ≡ over (take equation_room (residues_of q (equation_words (words_in ws)))) old) where
  asked : AllYes (questions (ledger_of s) (enters (adds ws)))
  asked = accepted-yes (ledger_of s) (enters (adds ws)) (sym is ∙ none)

  abbrev residues : List ℕ
  residues = residues_of q (equation_words (words_in ws))

  residues_are : length residues ≡ seen.unknowns + 1
  residues_are =
      residues-long q (unknowns_of (ledger_of s)) (equation_words (words_in ws)) asked.1.1.0 ∙ ap (λ (k : ℕ). k + 1) (sym sees.unknowns)

  line_seen : take (seen.unknowns + 1) new ≡ residues
  line_seen =
      let few = unknowns-few s in
      over-front (seen.unknowns + 1) residues old
      (front ∙ ap (λ (xs : List ℕ). over xs old) (take_all equation_room residues (omega (arith, residues_are, sees.unknowns)))) residues_are

  pub line-long : length (take (seen.unknowns + 1) new) ≡ seen.unknowns + 1
  line-long = ap length line_seen ∙ residues_are

  pub line_own : q ≡ (line_from (modulus_of (ledger_of s)) (unknowns_of (ledger_of s)) (words_in ws)).modulus
  line_own = own ∙ ap (λ (m : ℕ). own_modulus m (words_in ws)) sees.modulus

  pub line_lies : equation_at seen.unknowns (take (seen.unknowns + 1) new)
      ≡ (line_from (modulus_of (ledger_of s)) (unknowns_of (ledger_of s)) (words_in ws)).equation
  line_lies =
      ap₂ equation_at sees.unknowns (line_seen ∙ ap (λ (p : ℕ). residues_of p (equation_words (words_in ws))) line_own)

-- ---- a typed equation

-- the line of what is typed, at the front of more numbers
pub typed_lies : (s : Sheet) (x : Option Sides) {seen : Seen} → Sees (ledger_of s) seen → (line : List ℕ)
    → equation_at seen.unknowns line ≡ equation_in seen.modulus seen.unknowns x
    → equation_at seen.unknowns (take (seen.unknowns + 1) line) ≡ equation_in (modulus_of (ledger_of s)) (unknowns_of (ledger_of s)) x
typed_lies s x {seen} sees line lies =
    equation-front seen.unknowns line ∙ lies ∙ ap₂ (λ (m n : ℕ). equation_in m n x) sees.modulus sees.unknowns

-- ---- strike

module _ (s : Sheet) (place : ℕ) {seen : Seen} (sees : Sees (ledger_of s) seen) (number : ℕ)
    (is : number ≡ refusal_of (ledger_of s) (enters (strikes place))) (none : number ≡ 0) where
  struck : Allows (ledger_of s) (loses (struck_at (length (lines_in (ledger_of s))) place))
  struck = accepted_allows (ledger_of s) (strikes place) (sym is ∙ none)

  pub strike_opened : T (is_opened (ledger_of s))
  strike_opened = struck.0

  pub strike_some : 0 < seen.held
  strike_some = omega (arith, struck.1, sees.held)

  -- the strike's line, counted from 0
  module _ {at : ℕ} (lies : at ≡ struck_at seen.held place) where
    same_place : at ≡ struck_at (length (lines_in (ledger_of s))) place
    same_place = lies ∙ ap (λ (k : ℕ). struck_at k place) sees.held

    at_within : at < length (lines_in (ledger_of s))
    at_within = subst (λ (j : ℕ). j < length (lines_in (ledger_of s))) (sym same_place) struck.1

    pub strike_within : at < held_in s
    strike_within = omega (arith, at_within, sees.held, seen_held s (true_of (is_opened (ledger_of s)) strike_opened) sees)

    pub strike_accepted : {after : Sheet} → after ≡ record_by s (loses at)
        → (Ok (seen.held - 1) ≡ entered_of (ledger_of s) (strikes place)) × (after ≡ sheet_after s (strikes place))
    strike_accepted =
        entry_accepted s (strikes place) number is none (loses at) (ap loses (sym same_place)) (seen.held - 1)
        (loses_counts (ledger_of s) at at_within ∙ ap (λ (k : ℕ). k - 1) (sym sees.held))
