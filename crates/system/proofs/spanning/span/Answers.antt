-- `spanning::span` meets its contract: the steps are plain lines.
use mathlib.Core.Path.{◌≡◌, ap, ◌∙◌}
use mathlib.Core.Bool.{true}
use mathlib.Core.List.{List}
use Prim.Native.Nat.{ℕ, ◌+◌, ◌-◌}
use native.Mathlib.Omega.{arith}
use Rattle.elimination.specs.Basis.{basis}
use Rattle.tableau.specs.Packed.{rows}
use Rattle.tableau.specs.Lines.{lines_of}
use Rattle.system.specs.Claims.{vectors_of}
use Rattle.system.proofs.Chunks.{vectors-plain}
use Rattle.system.proofs.Fronts.{rows_alone}
use Rattle.system.proofs.spanning.span.Goals as goal

-- j is what is handed over for n
spanned : (m n j : ℕ) (b s : List ℕ) → j + 1 ≡ n → rows (j + 1) (j + 1 + 0) b ≡ basis m (j + 1) 0 (lines_of true m j 0 0 s)
    → rows n n b ≡ basis m n 0 (vectors_of n s)
spanned m n j b s e same =
    rw (← e) (rows_alone (j + 1) (j + 1) b (basis m (j + 1) 0 (vectors_of (j + 1) s))
    (same ∙ ap (basis m (j + 1) 0) (vectors-plain m j 0 0 s)))

pub returns : goal.returns
returns c =
    let a = c.args in
    let f = c.fill in
    spanned a.m a.n (a.n - 1) f.new.basis a.steps.now (omega arith) f.ensures.basis_after
