-- `insertion::insert_at` meets its contract: a row that holds nothing yet by the callee, and a law of proofs/Column.antt for each other way out.
use mathlib.Core.Path.{refl, sym, ap, ◌∙◌, subst}
use Prim.Native.Nat.{ℕ, ◌-◌, ◌%◌}
use native.Mathlib.Omega.{arith}
use lib.ListN.{get_or}
use Rattle.residue.specs.Negative.{negative}
use Rattle.equations.specs.Vectors.{combine, Below}
use Rattle.equations.proofs.Vectors.{below_at, below-drop}
use Rattle.slices.proofs.Parts.{lent, lent_is, lent_length}
use Rattle.tableau.proofs.Column.{row_rest, quotient_le, reduction}
use Rattle.tableau.proofs.Column.{column-divided, column-reduced, not_both}
use Rattle.tableau.proofs.insertion.insert_at.Goals as goal

pub combine_both-requires : goal.combine_both-requires
combine_both-requires c =
    let R = c.args.row.now in
    let W = c.args.line.now in
    let f = c.cofactors-c in (
      omega arith,
      omega arith,
      omega (
        arith,
        below_at c.args.modulus.m 0 W c.requires.3 (omega arith),
        quotient_le c.args.modulus.m (get_or R 0 0) (get_or W 0 0) f.result f.ensures.value,
      ),
      lent_length 1 R ∙ ap (λ (n : ℕ). n - 1) c.requires.1 ∙ sym (lent_length 1 W),
      subst (Below c.args.modulus.m) (sym (lent_is 1 R)) (row_rest c.args.modulus.m R c.requires.2),
      subst (Below c.args.modulus.m) (sym (lent_is 1 W)) (below-drop c.args.modulus.m 1 W c.requires.3),
    )

pub returns-then-rest-eq0 : goal.returns-then-rest-eq0
returns-then-rest-eq0 c =
    let q = c.divide_by_pivot-division in
    let a = c.args in
    let R = a.row.now in
    let W = a.line.now in
    let k = c.reduce in record {
      inserted = λ _. column-divided a.modulus.m R W k.new.line
          c.requires.0 c.requires.1 c.requires.2 c.requires.3 (omega arith)
          (sym q.ensures.1 ∙ c.if-rest-eq0.true)
          (k.ensures
          ∙ ap (λ (p : ℕ). combine a.modulus.m p (negative a.modulus.m 1 % a.modulus.m) (lent 1 R) (lent 1 W)) q.ensures.0);
      used_up = λ e. not_both e refl;
    }

pub returns-else-rest-eq0 : goal.returns-else-rest-eq0
returns-else-rest-eq0 c =
    let q = c.divide_by_pivot-division in
    let a = c.args in
    let f = c.cofactors-c in
    let k = c.combine_both in
    let n = negative a.modulus.m f.result.q % a.modulus.m in record {
      inserted = λ _. column-reduced a.modulus.m f.result.divisor f.result.s f.result.t f.result.p n
          a.row.now a.line.now k.new.row k.new.line
          c.requires.0 c.requires.1 c.requires.2 c.requires.3 (omega (arith, c.if-v-gt0.true))
          (λ e. c.if-rest-eq0.false (q.ensures.1 ∙ e))
          (reduction a.modulus.m (get_or a.row.now 0 0) (get_or a.line.now 0 0) f.result n f.ensures.value refl)
          k.ensures.row_after k.ensures.line_after;
      used_up = λ e. not_both e refl;
    }
