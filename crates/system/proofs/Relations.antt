-- The system of the relations of steps, as it is written place by place into zeros, and the place that is found with its generators.
--   Related                                  the lines of the first p places are written
--   related_none, related_more, related_all  before the first, one more, all of them
--   lines-few, related_room                  how many numbers there are, and that one line more has room
--   place_on                                 the place j is not the one
use mathlib.Core.Path.{◌≡◌, refl, sym, ap, ap₂, ◌∙◌}
use mathlib.Core.Bool.{Bool, false, cond}
use mathlib.Core.List.{List, [], ◌∷◌, ◌++◌, append_assoc}
use Prim.Native.Nat.{ℕ, zero, suc, ◌+◌, ◌-◌, ◌*◌, ◌<◌, ◌≤◌}
use native.Mathlib.Nat.{mul-le-mul}
use native.Mathlib.Numerals.{add-one}
use native.Mathlib.Omega.{arith}
use lib.ListN.{length, take, drop, get_or, replicate, length-append, length-map, length-replicate, get_or-replicate, set}
use lib.Seq.{take-suc, take-length, take_at, get_or_at, set-get_or}
use Rattle.slices.specs.Over.{over}
use Rattle.slices.proofs.Over.{over_past, over-whole, over-one, over-within}
use Rattle.equations.specs.Vectors.{AllVectors, Below}
use Rattle.equations.specs.Equation.{Equation}
use Rattle.equations.specs.Lines.{equation_at, equations_of}
use Rattle.equations.specs.Marks.{place_from}
use Rattle.equations.proofs.Vectors.{vector-below, below-append}
use Rattle.equations.proofs.Lines.{equations-none, equations_snoc}
use Rattle.elimination.specs.Relations.{entries_at, across, relations}
use Rattle.elimination.proofs.Transposed.{length-across}
use Rattle.system.specs.Claims.{vectors_of}
use Rattle.system.proofs.Chunks.{vectors_listed}

-- ---- the lines

pub record Related (n k : ℕ) (steps old : List ℕ) (p : ℕ) (lines : List ℕ) : Type 0 where
  pub numbers : List ℕ
  pub size : length numbers ≡ p * (k + 1)
  pub equations : equations_of k numbers ≡ take p (relations n (vectors_of n steps))
  pub residues : (m : ℕ) → 0 < m → Below m steps → Below m numbers
  pub written : lines ≡ over numbers old

across_at : (q p i : ℕ) (ss : List (List ℕ)) (w : List ℕ) (e : Equation) → p < length w → q + p ≡ i
    → get_or (across q ss w) p e ≡ record { coefficients = entries_at i ss; right = get_or w p 0 }
across_at q p i ss [] e h is = absurd (omega arith)
across_at q zero i ss (x ∷ w) e h is =
    let same : q ≡ i = omega arith in ap {B = Equation} (λ (c : ℕ). record { coefficients = entries_at c ss; right = x }) same
across_at q (suc p) i ss (x ∷ w) e h is = across_at (suc q) p i ss w e (omega arith) (omega arith)

-- the entries of residues are residues
entry_below : (m p : ℕ) (v : List ℕ) → 0 < m → Below m v → get_or v p 0 < m
entry_below m p [] pos h = pos
entry_below m zero (x ∷ v) pos h = h.0
entry_below m (suc p) (x ∷ v) pos h = entry_below m p v pos h.1

entries_below : (m n p : ℕ) (ss : List (List ℕ)) → 0 < m → AllVectors m n ss → Below m (entries_at p ss)
entries_below m n p [] pos vs = tt
entries_below m n p (s ∷ ss) pos vs =
    (entry_below m p s pos (vector-below m n s vs.0), entries_below m n p ss pos vs.1)

-- a number that stands there already
over-kept : (xs old : List ℕ) (y : ℕ) → length xs < length old → get_or old (length xs) 0 ≡ y → over xs old ≡ over (xs ++ (y ∷ [])) old
over-kept xs old y room is =
    sym (set-get_or (over xs old) (length xs) 0)
    ∙ ap (λ (z : ℕ). set (over xs old) (length xs) z) (over_past xs old (length xs) 0 (omega arith) ∙ is)
    ∙ over-one xs old y room

-- how many numbers the lines have
pub lines-few : (n k : ℕ) → n ≤ 16 → k ≤ 16 → n * (k + 1) ≤ 272
lines-few n k n-few k-few = mul-le-mul {n₁ = n} {m₁ = k + 1} {n₂ = 16} {m₂ = 17} n-few (omega arith)

module _ (n k : ℕ) (steps : List ℕ) where
  abbrev ss : List (List ℕ)
  ss = vectors_of n steps

  pub related_none : (old : List ℕ) → Related n k steps old 0 old
  related_none old = record {
    numbers = [];
    size = omega arith;
    equations = equations-none k [] (omega arith);
    residues = λ m pos below. tt;
    written = refl;
  }

  module _ (count : length (vectors_of n steps) ≡ k) (old : List ℕ) (zeros : old ≡ replicate (n * (k + 1)) 0) (p : ℕ) (lines : List ℕ)
      (r : Related n k steps old p lines) where
    old_long : length old ≡ n * (k + 1)
    old_long = ap length zeros ∙ length-replicate (n * (k + 1)) 0

    -- a line more has room
    pub related_room : p < n → p * (k + 1) + (k + 1) ≤ length old
    related_room at = omega (arith, old_long, mul-le-mul {n₁ = p + 1} {m₁ = k + 1} {n₂ = n} {m₂ = k + 1} (omega arith) (omega arith))

    pub related_more : p < n → (e : ℕ) → e ≡ k + 1 → {part : List ℕ}
        → part ≡ over (entries_at p (vectors_of n steps)) (take e (drop (p * (k + 1)) lines))
        → Related n k steps old (p + 1) (take (p * (k + 1)) lines ++ (part ++ drop e (drop (p * (k + 1)) lines)))
    related_more at e e-is {part} is =
        record {
          numbers = r.numbers ++ line;
          size = omega (arith, length-append r.numbers line, r.size, line-long);
          equations =
              equations_snoc p k r.numbers line r.size line-long
              ∙ ap₂ {C = List Equation} (λ es e. es ++ (e ∷ [])) r.equations
              (line_is ∙ sym (across_at 0 p p ss (replicate n 0) none (omega (arith, places)) (omega arith)))
              ∙ sym (ap (λ (c : ℕ). take c (relations n ss)) (add-one p)
              ∙ take-suc (relations n ss) p none (omega (arith, length-across 0 ss (replicate n 0), places)));
          residues = λ m pos below.
              below-append m r.numbers line (r.residues m pos below)
              (below-append m entries (0 ∷ []) (entries_below m n p ss pos (vectors_listed m n steps below)) (pos, tt));
          written =
              over-within (p * (k + 1)) e r.numbers entries old r.size (omega (arith, long)) r.written is
              ∙ over-kept (r.numbers ++ entries) old 0 (omega (arith, related_room at, length-append r.numbers entries, r.size, long)) stands
              ∙ ap (λ (xs : List ℕ). over xs old) (append_assoc r.numbers entries (0 ∷ []));
        }
      where
        places : length (replicate {A = ℕ} n 0) ≡ n
        places = length-replicate n 0

        none : Equation
        none = record { coefficients = []; right = 0 }

        entries : List ℕ
        entries = entries_at p ss

        long : length (entries_at p ss) ≡ k
        long = length-map ss (λ (s : List ℕ). get_or s p 0) ∙ count

        line : List ℕ
        line = entries_at p ss ++ (0 ∷ [])

        line-long : length (entries_at p ss ++ (0 ∷ [])) ≡ k + 1
        line-long = omega (arith, length-append (entries_at p ss) (0 ∷ []), long)

        line_is : equation_at k (entries_at p ss ++ (0 ∷ [])) ≡ record { coefficients = entries_at p ss; right = get_or (replicate n 0) p 0 }
        line_is =
            ap₂ {C = Equation} (λ c x. record { coefficients = c; right = x }) (take_at (entries_at p ss) (0 ∷ []) k long)
            (get_or_at (entries_at p ss) 0 [] 0 k long ∙ sym (get_or-replicate n p 0 0 at))

        stands : get_or old (length (r.numbers ++ entries_at p ss)) 0 ≡ 0
        stands =
            ap (λ (xs : List ℕ). get_or xs (length (r.numbers ++ entries_at p ss)) 0) zeros
            ∙ get_or-replicate (n * (k + 1)) (length (r.numbers ++ entries_at p ss)) 0 0
            (omega (arith, related_room at, old_long, length-append r.numbers (entries_at p ss), r.size, long))

    pub related_all : n ≤ p → p ≤ n
        → (equations_of k lines ≡ relations n (vectors_of n steps)) × ((m : ℕ) → 0 < m → Below m steps → Below m lines)
    related_all ge le =
        let whole : p ≡ n = omega arith in
        let all : lines ≡ r.numbers =
        r.written ∙ over-whole r.numbers old (r.size ∙ ap (λ (c : ℕ). c * (k + 1)) whole ∙ sym old_long) in (
          ap (equations_of k) all ∙ r.equations
              ∙ ap (λ (c : ℕ). take c (relations n ss)) (whole ∙ sym (length-across 0 ss (replicate n 0) ∙ length-replicate {A = ℕ} n 0)) ∙ take-length (relations n ss),
          λ m pos below. rw all (r.residues m pos below),
        )

-- ---- the place

module _ (p : ℕ → Bool) (k j : ℕ) (lt : j < k) where
  place-cons : place_from p j (k - j) ≡ cond (p j) (suc j) (place_from p (suc j) (k - suc j))
  place-cons = let e : k - j ≡ suc (k - suc j) = omega arith in ap (place_from p j) e

  pub place_on : p j ≡ false → place_from p (j + 1) (k - (j + 1)) ≡ place_from p j (k - j)
  place_on h = sym (place-cons ∙ rw (h, add-one j))
