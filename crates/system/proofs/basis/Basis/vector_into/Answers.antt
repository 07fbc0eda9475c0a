-- `Basis::vector_into` meets its contract: back substitution from e in column i, zeros behind it, and the vector turned round.
use mathlib.Core.Path.{◌≡◌, refl, sym, ap, ◌∙◌}
use mathlib.Core.List.{List, [], ◌++◌}
use Prim.Native.Nat.{ℕ, ◌+◌, ◌-◌, ◌≤◌}
use native.Mathlib.Omega.{arith}
use lib.ListN.{length, take, drop, length-append, length-drop}
use lib.Seq.{length-take-le}
use Rattle.elimination.specs.Tableau.{turned}
use Rattle.tableau.specs.Packed.{rows, triangle, Kept}
use Rattle.tableau.proofs.Packed.{triangle_mono}
use Rattle.system.specs.Model.Reading.{Readable}
use Rattle.system.proofs.Seed.{seed, length_seed, seed_front, seed_below, seed_vector, kept-front}
use Rattle.system.proofs.basis.Basis.vector_into.Goals as goal

-- the rows that back substitution looks at, for k words in front of the zeros, and their size
rows_lent : (m n i k : ℕ) (s : List ℕ) → Readable m n s → i ≤ n → k ≡ i + 1
    → (triangle i (k + (n - i)) ≤ length s) × Kept m (rows i (k + (n - i)) s) × (triangle i (n + 1) ≡ triangle i (k + (n - i)))
rows_lent m n i k s r h e =
    let f : k + (n - i) ≡ n + 1 = omega arith in
    rw f (
      omega (arith, triangle_mono i (n + 1) (n + 1) (n + 1) (omega arith) (omega arith), r.size),
      kept-front m i (n + 1) (n + 1) s (omega arith) r.kept,
      refl,
    )

-- what comes back is as long as what was lent, and so is the array
part : (i e : ℕ) (x : List ℕ) → i ≤ 16 → length x ≡ length (take (i + 1) (seed i e)) → length x ≡ i + 1
part i e x h f = f ∙ seed_front (i + 1) i e (omega arith)

whole : (i e : ℕ) (x : List ℕ) → i ≤ 16 → length x ≡ length (take (i + 1) (seed i e))
    → length (x ++ drop (i + 1) (seed i e)) ≡ 17
whole i e x h f =
    omega (
      arith,
      length-append x (drop (i + 1) (seed i e)),
      length-drop (i + 1) (seed i e),
      length_seed i e,
      part i e x h f,
    )

pub extend-requires : goal.extend-requires
extend-requires c =
    let a = c.args in
    let b = a.self.now in
    let x = take (a.i + 1) (seed a.i a.e) in
    let n = b.readable.unknowns in
    let e = seed_front (a.i + 1) a.i a.e (omega arith) in
    let r = rows_lent b.m b.n a.i (length x) b.numbers.now b.readable c.requires.1 e in record { j_in_bounds = (omega (arith, e), omega (arith, e), r.0, c.packed_size-size.ensures ∙ r.2); kept = (r.1, seed_below b.m a.i a.e (omega arith) c.requires.2) }

pub slice_bounds-x-end-2 : goal.slice_bounds-x-end-2
slice_bounds-x-end-2 c =
    let a = c.args in
    let b = a.self.now in
    let x = c.extend in
    omega (arith, b.readable.unknowns, whole a.i a.e x.new.x (omega (arith, b.readable.unknowns)) x.auto.x)

pub slice_bounds-turn-end : goal.slice_bounds-turn-end
slice_bounds-turn-end c =
    let a = c.args in
    let b = a.self.now in
    let x = c.extend in
    let e = whole a.i a.e x.new.x (omega (arith, b.readable.unknowns)) x.auto.x in
    sym (length-take-le (b.n + 1) (x.new.x ++ drop (a.i + 1) (seed a.i a.e)) (omega (arith, b.readable.unknowns, e)))

pub turn-requires : goal.turn-requires
turn-requires c =
    let a = c.args in
    let b = a.self.now in
    let x = c.extend in
    let e = whole a.i a.e x.new.x (omega (arith, b.readable.unknowns)) x.auto.x in
    omega (
      arith,
      c.requires.0,
      length-take-le (b.n + 1) (x.new.x ++ drop (a.i + 1) (seed a.i a.e)) (omega (arith, b.readable.unknowns, e)),
    )

pub returns : goal.returns
returns c =
    let a = c.args in
    let b = a.self.now in
    let x = c.extend in
    c.turn.ensures
    ∙ ap (λ (k : ℕ). turned k (take (b.n + 1) (x.new.x ++ drop (a.i + 1) (seed a.i a.e))) []) c.requires.0
    ∙ seed_vector b.m b.n a.i a.e b.numbers.now x.new.x c.requires.1 b.readable.unknowns
    (part a.i a.e x.new.x (omega (arith, b.readable.unknowns)) x.auto.x)
    x.ensures.x_after
