-- The equations of a safe: the turns that open it are their solutions.
--   equations_from         the equations of the locks from a place on
--   equations_of_lines    they are what lies in the model's lines
--   opens-solves          turns open the safe exactly when they solve its equations
--   turns_start           so the wanted turns are the starting vector
use mathlib.Core.Bool.{Bool, true, false, cond, ◌&&◌}
use mathlib.Core.List.{List, [], ◌∷◌, ◌++◌, append_assoc}
use mathlib.Core.Path.{◌≡◌, refl, sym, ap, ap₂, ◌∙◌}
use Prim.Native.Nat.{ℕ, suc, ◌+◌, ◌*◌, ◌%◌, ◌<◌}
use native.Mathlib.Omega.{arith}
use lib.Dec.{eqb, eqb→eq}
use lib.ListN.{length, take, get_or, length-append}
use lib.Seq.{take_at, drop_at, get_or_at}
use mir.Facts.{yes_eqb}
use Rattle.residue.specs.Congruent.{Congruent}
use Rattle.residue.specs.Negative.{negative}
use Rattle.residue.proofs.Congruent.{congruent_of_eq, congruent_refl, congruent_sym, congruent_trans, congruent_add, congruent_mod, congruent_of_remainder, remainder_of_congruent}
use Rattle.residue.proofs.Negative.{negative-reduced, negative-unique}
use Rattle.equations.specs.Lists.{every}
use Rattle.equations.specs.Vectors.{Below}
use Rattle.equations.specs.Equation.{Equation, dot, solves_one, solves}
use Rattle.equations.specs.Lines.{equation_at, equations_of}
use Rattle.equations.specs.Answer.{start_of}
use Rattle.equations.proofs.Truth.{same_of_both}
use Rattle.equations.proofs.Vectors.{vector-length}
use Rattle.equations.proofs.Lines.{equations-none, equations_more}
use Rattle.equations.proofs.Search.{first_cong}
use Rattle.safe.specs.Locks.{meets}
use Rattle.safe.specs.Turns.{opens, turns_of}
use Rattle.safe.specs.Promises.{sum_from}
use Rattle.safe.specs.Model.Lines.{coefficients, line_of, lines_from}
use Rattle.safe.proofs.Turning.{shifted, after_is}
use Rattle.safe.proofs.Laid.{length-coefficients, length-line}

abbrev pub equation_for : ℕ → ℕ → ℕ → ℕ → ℕ → Equation
equation_for m columns n i x = record { coefficients = coefficients columns i 0 n; right = negative m x % m }

abbrev pub equations_from : ℕ → ℕ → ℕ → ℕ → List ℕ → List Equation
equations_from m columns n i [] = []
equations_from m columns n i (x ∷ values) = equation_for m columns n i x ∷ equations_from m columns n (suc i) values

-- ---- as lines

equation_of_line : (m columns n i x : ℕ) (rest : List ℕ)
    → equation_at n (line_of m columns n i x ++ rest) ≡ equation_for m columns n i x
equation_of_line m columns n i x rest =
    let cs = coefficients columns i 0 n in
    let long = length-coefficients columns i 0 n in
    let whole = append_assoc cs (negative m x % m ∷ []) rest in
    ap₂ (λ (v : List ℕ) (b : ℕ). record { coefficients = v; right = b })
    (ap (take n) whole ∙ take_at cs (negative m x % m ∷ rest) n long)
    (ap (λ (z : List ℕ). get_or z n 0) whole ∙ get_or_at cs (negative m x % m) rest 0 n long)

pub equations_of_lines : (m columns n i : ℕ) (values : List ℕ)
    → equations_of n (lines_from m columns n i values) ≡ equations_from m columns n i values
equations_of_lines m columns n i [] = equations-none n [] (omega arith)
equations_of_lines m columns n i (x ∷ values) =
    let line = line_of m columns n i x in
    let rest = lines_from m columns n (suc i) values in
    let long = length-line m columns n i x in
    equations_more n (line ++ rest) (omega (arith, length-append line rest, long))
    ∙ ap₂ ◌∷◌ (equation_of_line m columns n i x rest)
    (ap (equations_of n) (drop_at line rest (n + 1) long) ∙ equations_of_lines m columns n (suc i) values)

-- ---- one lock

sum-dot : (columns i p : ℕ) (turns : List ℕ)
    → dot (coefficients columns i p (length turns)) turns ≡ sum_from columns i p turns
sum-dot columns i p [] = refl
sum-dot columns i p (t ∷ turns) = ap₂ ◌+◌ (one (meets columns p i)) (sum-dot columns i (suc p) turns)
  where
    one : (c : Bool) → cond c 1 0 * t ≡ cond c t 0
    one true = omega arith
    one false = omega arith

-- a sum leaves the negative of x exactly when it brings x to 0
negative-zero : (m x sum : ℕ) → 0 < m → eqb (sum % m) (negative m x % m % m) ≡ eqb ((x + sum) % m) 0
negative-zero m x sum pos =
    same_of_both (eqb (sum % m) (negative m x % m % m)) (eqb ((x + sum) % m) 0)
    (λ t. yes_eqb (remainder_of_congruent (to_zero (record { same = eqb→eq (sum % m) (negative m x % m % m) t }))))
    (λ t. yes_eqb (to_negative (congruent_of_remainder (eqb→eq ((x + sum) % m) 0 t))).same)
  where
    to_zero : Congruent m sum (negative m x % m) → Congruent m (x + sum) 0
    to_zero h = congruent_trans (congruent_add (congruent_refl {a = x}) h) (negative-reduced m x pos)

    to_negative : Congruent m (x + sum) 0 → Congruent m sum (negative m x % m)
    to_negative h =
        congruent_trans (negative-unique m x pos (congruent_trans {b = x + sum} (congruent_of_eq (omega arith)) h))
        (congruent_sym (congruent_mod m (negative m x)))

module _ (m columns n : ℕ) (turns : List ℕ) (pos : 0 < m) (long : length turns ≡ n) where
  -- its equation holds exactly when it is 0 after the turns
  lock_solved : (i x : ℕ)
      → solves_one m (equation_for m columns n i x) turns ≡ eqb ((x + sum_from columns i 0 turns) % m) 0
  lock_solved i x =
      let sum : dot (coefficients columns i 0 n) turns ≡ sum_from columns i 0 turns =
      rw (← long) (sum-dot columns i 0 turns) in
      ap (λ (z : ℕ). eqb (z % m) (negative m x % m % m)) sum ∙ negative-zero m x (sum_from columns i 0 turns) pos

  solves_shifted : (i : ℕ) (values : List ℕ)
      → solves m (equations_from m columns n i values) turns ≡ every (λ x. eqb x 0) (shifted m columns 0 turns i values)
  solves_shifted i [] = refl
  solves_shifted i (x ∷ values) = ap₂ ◌&&◌ (lock_solved i x) (solves_shifted (suc i) values)

  -- ---- all locks

  pub opens-solves : (values : List ℕ) → Below m values
      → opens m columns values turns ≡ solves m (equations_from m columns n 0 values) turns
  unfolding opens
  opens-solves values b =
      ap (every (λ x. eqb x 0)) (after_is m columns turns values b) ∙ sym (solves_shifted 0 values)

pub turns_start : (m rows columns : ℕ) (values : List ℕ) → 0 < m → Below m values
    → turns_of m rows columns values
    ≡ start_of m (rows * columns) (equations_of (rows * columns) (lines_from m columns (rows * columns) 0 values))
unfolding turns_of start_of
turns_start m rows columns values pos b =
    let n = rows * columns in
    first_cong m n (opens m columns values)
    (solves m (equations_of n (lines_from m columns n 0 values)))
    (λ v vec. opens-solves m columns n v pos (vector-length m n v vec) values b
    ∙ ap (λ (es : List Equation). solves m es v) (sym (equations_of_lines m columns n 0 values)))
