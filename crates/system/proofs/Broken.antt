-- The first line that a vector does not solve, as a loop finds it that takes lines off the front: e are off, `rest` is left. Twice: with the
-- lines' right sides, and with 0 for each of them.
--   FirstBroken, FirstChanged                what is left finds the line that the whole finds
--   broken_on, broken_stop, broken_none      the first line left passes, it fails, there is none
--   changed_on, changed_stop, changed_none   the same of left sides that a step changes
use mathlib.Core.Path.{◌≡◌, sym, ap, ap₂, ◌∙◌}
use mathlib.Core.List.{List, ◌++◌}
use mathlib.Core.Bool.{Bool}
use Prim.Native.Nat.{ℕ, ◌+◌, ◌%◌, ◌<◌}
use native.Mathlib.Nat.{mod-eq_of_lt, zero-mod}
use native.Mathlib.Omega.{arith}
use lib.ListN.{length, take, get_or}
use lib.Dec.{eqb}
use borrow.Author.Tests.{eq-eqb, ne_eqb}
use Rattle.std.specs.Prelude.{Some, None}
use Rattle.equations.specs.Vectors.{Below}
use Rattle.equations.specs.Equation.{Equation, dot, solves_one, homogeneous}
use Rattle.equations.specs.Lines.{equation_at, equations_of}
use Rattle.equations.specs.Reasons.{broken_at}
use Rattle.equations.proofs.Vectors.{below_at}
use Rattle.equations.proofs.Solving.{zero_right}
use Rattle.equations.proofs.Lines.{equations-none}
use Rattle.system.specs.Places.{placed}
use Rattle.system.proofs.Chunks.{line_cut}
use Rattle.system.proofs.Seeking.{Seeking, sought_on, sought_stop, sought_none}

module _ (m n : ℕ) (lines v : List ℕ) where
  abbrev solved : Equation → Bool
  solved q = solves_one m q v

  abbrev homogeneous_of : List ℕ → List Equation
  homogeneous_of s = homogeneous (equations_of n s)

  abbrev pub FirstBroken : ℕ → List ℕ → Type 0
  FirstBroken e rest = Seeking (λ q. solves_one m q v) (equations_of n) lines e rest

  abbrev pub FirstChanged : ℕ → List ℕ → Type 0
  FirstChanged e rest = Seeking (λ q. solves_one m q v) (λ s. homogeneous (equations_of n s)) lines e rest

  module _ (e : ℕ) (rest : List ℕ) where
    pub broken_none : FirstBroken e rest → length rest < n + 1 → None ≡ placed (broken_at m (equations_of n lines) v)
    broken_none f none = sought_none solved (equations_of n) lines e rest f (equations-none n rest (omega (arith, none)))

    pub changed_none : FirstChanged e rest → length rest < n + 1 → None ≡ placed (broken_at m (homogeneous (equations_of n lines)) v)
    changed_none f none =
        sought_none solved homogeneous_of lines e rest f (ap homogeneous (equations-none n rest (omega (arith, none))))

    -- the first line is cut off; the code's sum for it
    module _ (line left : List ℕ) (cut : rest ≡ line ++ left) (long : length line ≡ n + 1) (sum : ℕ)
        (is : sum ≡ dot (take n line) v % m) where
      -- its right side is a residue
      module _ (below : Below m line) (f : FirstBroken e rest) where
        test : (b : Bool) → eqb sum (get_or line n 0) ≡ b → solved (equation_at n line) ≡ b
        test b t = ap₂ eqb (sym is) (mod-eq_of_lt (below_at m n line below (omega (arith, long)))) ∙ t

        pub broken_on : sum ≡ get_or line n 0 → FirstBroken (e + 1) left
        broken_on t =
            sought_on solved (equations_of n) lines e rest f (equation_at n line) left (line_cut n line left rest cut long)
            (test _ (eq-eqb sum (get_or line n 0) t))

        pub broken_stop : (sum ≡ get_or line n 0 → ⊥) → Some (e + 1) ≡ placed (broken_at m (equations_of n lines) v)
        broken_stop t =
            sought_stop solved (equations_of n) lines e rest f (equation_at n line) left (line_cut n line left rest cut long)
            (test _ (ne_eqb sum (get_or line n 0) t))

      module _ (f : FirstChanged e rest) where
        changed-test : (b : Bool) → eqb sum 0 ≡ b → solved (zero_right (equation_at n line)) ≡ b
        changed-test b t = ap₂ eqb (sym is) (zero-mod m) ∙ t

        pub changed_on : sum ≡ 0 → FirstChanged (e + 1) left
        changed_on t =
            sought_on solved homogeneous_of lines e rest f (zero_right (equation_at n line)) left
            (ap homogeneous (line_cut n line left rest cut long)) (changed-test _ (eq-eqb sum 0 t))

        pub changed_stop : (sum ≡ 0 → ⊥) → Some (e + 1) ≡ placed (broken_at m (homogeneous (equations_of n lines)) v)
        changed_stop t =
            sought_stop solved homogeneous_of lines e rest f (zero_right (equation_at n line)) left
            (ap homogeneous (line_cut n line left rest cut long)) (changed-test _ (ne_eqb sum 0 t))
