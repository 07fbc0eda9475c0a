-- Lines, and the lists of numbers that hold them.
--   below_lent, below-unit              residues
--   turned-append, turned-reverse       a vector turned round, in front of other numbers
--   load_length, load_is                the parts of a line put together: the unknowns T, the constant v, the carried columns U
--   loadable_some                       there is a residue
--   loaded_equation                     a line that is not plain
--   line-front                          a line is read off its own numbers alone
--   lines_none, lines_more              a list without a whole line, and with one
--   lines-equations                     lines that are not plain are those of the equations
use mathlib.Core.Path.{◌≡◌, refl, sym, ap, ap₂, ◌∙◌, subst}
use mathlib.Core.Bool.{Bool, true, false}
use mathlib.Core.List.{List, [], ◌∷◌, ◌++◌, append_assoc, reverse_aux}
use Prim.Native.Nat.{ℕ, zero, suc, ◌+◌, ◌/◌, ◌%◌, ◌<◌, ◌≤◌}
use native.Mathlib.Nat.{mod-lt, div-eq_of_lt}
use native.Mathlib.Numerals.{add-one}
use native.Mathlib.Omega.{arith}
use lib.ListN.{length, take, drop, get_or, set, length-append, length-drop, length-set}
use lib.Seq.{take_at, take-take, drop-cons, set_at, append_snoc}
use Rattle.slices.proofs.Parts.{lent, put_back, lent_is, lent_length, put_back_is, parts_suc}
use Rattle.residue.specs.Negative.{negative}
use Rattle.equations.specs.Equation.{Equation}
use Rattle.equations.specs.Vectors.{Below, unit}
use Rattle.elimination.specs.Tableau.{line, lines, turned}
use Rattle.elimination.proofs.Turned.{below-turned}
use Rattle.equations.specs.Lines.{equation_at, equations_within, equations_of}
use Rattle.equations.proofs.Vectors.{below_zeros, below-drop, below-take}
use Rattle.equations.proofs.Lines.{equation-front}
use Rattle.tableau.specs.Lines.{Loadable, line_at, lines_within, lines_of}

pub below_lent : (m i : ℕ) (v : List ℕ) → Below m v → Below m (lent i v)
below_lent m i v h = subst (Below m) (sym (lent_is i v)) (below-drop m i v h)

pub below-unit : (m k i : ℕ) → 1 < m → Below m (unit k i)
below-unit m zero i h = tt
below-unit m (suc k) zero h = (h, below_zeros m k (omega arith))
below-unit m (suc k) (suc i) h = (omega arith, below-unit m k i h)

pub turned-append : (n : ℕ) (x acc : List ℕ) → turned n x [] ++ acc ≡ turned n x acc
turned-append zero x acc = refl
turned-append (suc n) [] acc = refl
turned-append (suc n) (y ∷ x) acc =
    ap (λ (z : List ℕ). z ++ acc) (sym (turned-append n x (y ∷ []))) ∙ append_assoc (turned n x []) (y ∷ []) acc
    ∙ turned-append n x (y ∷ acc)

pub turned-reverse : (n : ℕ) (x acc : List ℕ) → turned n x acc ≡ reverse_aux (take n x) acc
turned-reverse zero x acc = refl
turned-reverse (suc n) [] acc = refl
turned-reverse (suc n) (y ∷ x) acc = turned-reverse n x (y ∷ acc)

-- ---- a line, part by part: d is what the lent list held

module _ (n k v : ℕ) (d T : List ℕ) (long : length d ≡ n + 1 + k) (front : length T ≡ n) where
  stored : set (T ++ drop n d) n v ≡ (T ++ (v ∷ [])) ++ drop (suc n) d
  stored =
      ap (λ (z : List ℕ). set (T ++ z) n v) (drop-cons d n 0 (omega arith))
      ∙ set_at T (get_or d n 0) (drop (suc n) d) v n front ∙ sym (append_snoc T v (drop (suc n) d))

  pub load_length : length (set (T ++ drop n d) n v) ≡ n + 1 + k
  load_length = length-set (T ++ drop n d) n v ∙ omega (arith, length-append T (drop n d), length-drop n d)

  carried : length (lent (n + 1) (set (T ++ drop n d) n v)) ≡ k
  carried = omega (arith, lent_length (n + 1) (set (T ++ drop n d) n v), load_length)

  pub load_is : (m i : ℕ) (e U : List ℕ) → T ≡ turned n e [] → v ≡ negative m (get_or e n 0) % m
      → U ≡ unit (length (lent (n + 1) (set (T ++ drop n d) n v))) i
      → put_back (n + 1) (set (T ++ drop n d) n v) U ≡ line m (equation_at n e) (unit k i)
  load_is m i e U T-is v-is U-is =
      put_back_is (n + 1) (set (T ++ drop n d) n v) U
      ∙ ap (λ (z : List ℕ). take (n + 1) z ++ U) stored
      ∙ ap (λ (z : List ℕ). z ++ U)
      (take_at (T ++ (v ∷ [])) (drop (suc n) d) (n + 1) (omega (arith, length-append T (v ∷ []))))
      ∙ append_snoc T v U ∙ ap (λ (z : List ℕ). z ++ (v ∷ U)) T-is
      ∙ turned-append n e (v ∷ U) ∙ turned-reverse n e (v ∷ U)
      ∙ ap₂ (λ (x : ℕ) (s : List ℕ). reverse_aux (take n e) (x ∷ s)) v-is (U-is ∙ ap (λ (j : ℕ). unit j i) carried)

load_below : (m n k i : ℕ) (e : List ℕ) → 1 < m → Below m e → Below m (line m (equation_at n e) (unit k i))
load_below m n k i e h b =
    subst (Below m) (turned-reverse n e _)
    (below-turned m n e (negative m (get_or e n 0) % m ∷ unit k i) (below-take m n e b)
    (mod-lt (negative m (get_or e n 0)) (omega arith), below-unit m k i h))

-- ---- a line of either kind: s are its numbers, x is what was loaded

pub loadable_some : (plain : Bool) (m k : ℕ) → Loadable plain m k → 0 < m
loadable_some true m k h = h.0
loadable_some false m k h = omega arith

module _ (plain : Bool) (m n k i : ℕ) (s x : List ℕ) (load : Loadable plain m k) (below : Below m s) where
  pub loaded_equation : plain ≡ false → x ≡ line m (equation_at n s) (unit k i) → (x ≡ line_at plain m n k i s) × Below m x
  loaded_equation kind e =
      let some = subst (λ (p : Bool). Loadable p m k) kind load in
      (rw kind e, subst (Below m) (sym e) (load_below m n k i s some below))

-- ---- lines one behind the other

pub line-front : (plain : Bool) (m n k i : ℕ) (s : List ℕ) → line_at plain m n k i (take (n + 1) s) ≡ line_at plain m n k i s
line-front true m n k i s = take-take (n + 1) (n + 1) s (omega arith)
line-front false m n k i s = ap (λ (e : Equation). line m e (unit k i)) (equation-front n s)

module _ (plain : Bool) (m n k i : ℕ) (s : List ℕ) where
  pub lines_none : length s ≤ n → lines_of plain m n k i s ≡ []
  unfolding lines_of
  lines_none h =
      let e : length s / suc n ≡ 0 = div-eq_of_lt (omega arith) in
      ap (λ (c : ℕ). lines_within c plain m n k i s) e

  pub lines_more : n < length s
      → lines_of plain m n k i s ≡ line_at plain m n k i s ∷ lines_of plain m n k (i + 1) (drop (n + 1) s)
  unfolding lines_of
  lines_more h =
      rw (add-one n, add-one i) (ap (λ (c : ℕ). lines_within c plain m n k i s) (parts_suc (suc n) s (omega arith) (omega arith)))

equations-within : (c m n k i : ℕ) (s : List ℕ) → lines_within c false m n k i s ≡ lines m k i (equations_within c n s)
equations-within zero m n k i s = refl
equations-within (suc c) m n k i s =
    ap (λ (ls : List (List ℕ)). line m (equation_at n s) (unit k i) ∷ ls) (equations-within c m n k (suc i) (drop (suc n) s))

pub lines-equations : (m n k : ℕ) (s : List ℕ) → lines_of false m n k 0 s ≡ lines m k 0 (equations_of n s)
unfolding lines_of equations_of
lines-equations m n k s = equations-within (length s / suc n) m n k 0 s
