-- The lines of an answer's steps, as they are written one behind the other.
--   steps_on                  one step more
--   step_part                 the part of the numbers that is the next step
use mathlib.Core.Path.{◌≡◌, refl, sym, ap, ◌∙◌}
use mathlib.Core.List.{List, [], ◌∷◌, ◌++◌, append-nil, append_assoc}
use Prim.Native.Nat.{ℕ, zero, suc, ◌+◌, ◌-◌, ◌*◌}
use native.Mathlib.Numerals.{add-one}
use native.Mathlib.Omega.{arith}
use lib.ListN.{take, drop}
use lib.Seq.{drop-drop}
use Rattle.system.specs.Claims.{vectors_within}
use Rattle.tape.specs.Text.{line}
use Rattle.tape.specs.Output.{step_lines}

steps_append : (vs ws : List (List ℕ)) → step_lines (vs ++ ws) ≡ step_lines vs ++ step_lines ws
steps_append [] ws = refl
steps_append (v ∷ vs) ws =
    ap (λ (z : List ℕ). line "step" v ++ z) (steps_append vs ws)
    ∙ sym (append_assoc (line "step" v) (step_lines vs) (step_lines ws))

vectors_on : (i n : ℕ) (s : List ℕ)
    → vectors_within (suc i) n s ≡ vectors_within i n s ++ (take n (drop (i * n) s) ∷ [])
vectors_on zero n s = let none : 0 ≡ 0 * n = omega arith in ap (λ (k : ℕ). take n (drop k s) ∷ []) none
vectors_on (suc i) n s =
    let more : n + i * n ≡ suc i * n = omega arith in
    ap (λ (vs : List (List ℕ)). take n s ∷ vs) (vectors_on i n (drop n s))
    ∙ ap (λ (z : List ℕ). take n s ∷ (vectors_within i n (drop n s) ++ (take n z ∷ [])))
    (drop-drop (i * n) n s ∙ ap (λ (k : ℕ). drop k s) more)

pub steps_on : (i n : ℕ) (s : List ℕ)
    → step_lines (vectors_within (i + 1) n s) ≡ step_lines (vectors_within i n s) ++ line "step" (take n (drop (i * n) s))
steps_on i n s =
    ap (λ (k : ℕ). step_lines (vectors_within k n s)) (add-one i) ∙ ap step_lines (vectors_on i n s)
    ∙ steps_append (vectors_within i n s) (take n (drop (i * n) s) ∷ [])
    ∙ ap (λ (z : List ℕ). step_lines (vectors_within i n s) ++ z) (append-nil (line "step" (take n (drop (i * n) s))))

pub step_part : (a n : ℕ) (s : List ℕ) → take (a + n - a) (drop a s) ≡ take n (drop a s)
step_part a n s = let same : a + n - a ≡ n = omega arith in ap (λ (k : ℕ). take k (drop a s)) same
