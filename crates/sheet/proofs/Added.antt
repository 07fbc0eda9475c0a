-- What is said of an equation in words, `right_adding`, where the ledger that a sheet reads as is opened.
use mathlib.Core.Path.{◌≡◌, refl, sym, ap, subst, ◌∙◌}
use mathlib.Core.Logic.{◌↔◌}
use mathlib.Core.List.{List}
use Prim.Native.Nat.{ℕ, suc, ◌<◌}
use native.Mathlib.Omega.{arith}
use borrow.Author.Tests.{lt-ltb}
use lib.Dec.{T, ltb→lt}
use lib.ListN.{length}
use Rattle.std.specs.Prelude.{Ok, Err}
use Rattle.questions.specs.Questions.{allowed_own}
use Rattle.questions.proofs.Questions.{own_least}
use Rattle.equations.specs.Equation.{solves_one}
use Rattle.equations.specs.Lines.{equation_at}
use Rattle.equations.specs.Whole.{HoldsWhole}
use Rattle.equations.specs.Line.{Line}
use Rattle.equations.proofs.Truth.{of_true, true_of}
use Rattle.equations.proofs.Promises.{residues_solve}
use Rattle.lines.proofs.Stored.{own_divides, own_of_divides}
use Rattle.words.specs.declared.unpacking.Word.{Word}
use Rattle.words.specs.Words.{words_in, tops_fit}
use Rattle.words.specs.Signs.{wholes_of}
use Rattle.words.proofs.Minus.{residues_of_lem}
use Rattle.ledger.specs.Ledger.{Ledger, opened, most_equations}
use Rattle.ledger.specs.Shapes.{is_equation, equation_from, own_modulus, equation_words, line_from}
use Rattle.ledger.specs.Calls.{adds, enters}
use Rattle.ledger.specs.Questions.{refusal_of}
use Rattle.ledger.proofs.Shapes.{adding_tops}
use Rattle.ledger.proofs.Questions.{accepted-yes}
use Rattle.sheet.specs.Record.{Sheet, ledger_of}
use Rattle.sheet.specs.Calls.{entered_of}
use Rattle.sheet.specs.Promises.{LineModulus, RightAdding}
use Rattle.sheet.proofs.Said.{refused_said, holds_said, gained_said, gained_reads}

modulus-asked : (m q : ℕ) → T (allowed_own m q) ↔ LineModulus m q
modulus-asked m q = ((λ t. (own_least m q t, own_divides m q t)), λ right. own_of_divides m q right.0 right.1)

module _ (m n : ℕ) (ls : List Line) (ws : List ℕ) where
  abbrev l : Ledger
  l = opened m n ls

  abbrev q : ℕ
  q = own_modulus m (words_in ws)

  abbrev words : List Word
  words = equation_words (words_in ws)

  seventeen_said : (entered_of (opened m n ls) (adds ws) ≡ Err 17) ↔ (T (tops_fit (words_in ws)) → ⊥)
  seventeen_said = let said = refused_said l (adds ws) 17 1 tt tt in ((λ refused. (said.0 refused).1), λ wrong. said.1 (tt, wrong))

  accepted_where : (refusal_of l (enters (adds ws)) ≡ 0) ↔ (T (is_equation n words) × LineModulus m q × (length ls < most_equations))
  unfolding refusal_of
  accepted_where = (
    (λ none.
        let asked = accepted-yes l (enters (adds ws)) none in
        (asked.1.1.0, (modulus-asked m q).0 asked.1.1.1.0, ltb→lt (length ls) most_equations asked.1.1.1.1.0)),
    λ (shape, modulus, room).
        rw (
          adding_tops n (words_in ws) (true_of (is_equation n words) shape),
          true_of (is_equation n words) shape,
          true_of (allowed_own m q) ((modulus-asked m q).1 modulus),
          lt-ltb (length ls) most_equations room,
        ),
  )

  pub added_said : (entered_of (opened m n ls) (adds ws) ≡ Ok (suc (length ls)))
      ↔ (T (is_equation n (equation_words (words_in ws))) × LineModulus m (own_modulus m (words_in ws)) × (length ls < most_equations))
  added_said = (
    (λ said. accepted_where.0 (holds_said l (adds ws) (suc (length ls)) said)),
    λ right. gained_said m n ls (adds ws) refl (accepted_where.1 right),
  )

  pub fifteen_said : (entered_of (opened m n ls) (adds ws) ≡ Err 15)
      ↔ (T (is_equation n (equation_words (words_in ws))) × (LineModulus m (own_modulus m (words_in ws)) → ⊥))
  fifteen_said =
      let said = refused_said l (adds ws) 15 3 tt tt in (
        (λ refused. let turns = said.0 refused in (turns.1.1.0, λ right. turns.1.1.1 ((modulus-asked m q).1 right))),
        λ (shape, wrong).
            said.1 (tt, (of_true (adding_tops n (words_in ws) (true_of (is_equation n words) shape)), (shape, λ own. wrong ((modulus-asked m q).0 own)))),
      )

-- the words, as whole numbers, hold mod q where their residues do
whole_solved : (q n : ℕ) (words : List Word) → 0 < q → (v : List ℕ)
    → HoldsWhole q n (wholes_of words) v ↔ T (solves_one q (equation_from q n words) v)
whole_solved q n words positive v =
    subst (λ (xs : List ℕ). HoldsWhole q n (wholes_of words) v ↔ T (solves_one q (equation_at n xs) v))
    (sym (residues_of_lem q words)) (residues_solve q n (wholes_of words) v positive)

pub right_adding : (s : Sheet) (m n : ℕ) (ls : List Line) (ws : List ℕ) → ledger_of s ≡ opened m n ls
    → RightAdding s m n ls ws (own_modulus m (words_in ws))
right_adding s m n ls ws reads =
    let q = own_modulus m (words_in ws) in
    let words = equation_words (words_in ws) in
    record {
      seventeen =
          subst (λ (l : Ledger). (entered_of l (adds ws) ≡ Err 17) ↔ (T (tops_fit (words_in ws)) → ⊥)) (sym reads)
          (seventeen_said m n ls ws);
      allowed =
          subst
          (λ (l : Ledger). (entered_of l (adds ws) ≡ Ok (suc (length ls)))
          ↔ (T (is_equation n words) × LineModulus m q × (length ls < most_equations))) (sym reads) (added_said m n ls ws);
      fifteen =
          subst (λ (l : Ledger). (entered_of l (adds ws) ≡ Err 15) ↔ (T (is_equation n words) × (LineModulus m q → ⊥))) (sym reads)
          (fifteen_said m n ls ws);
      accepted = λ k said.
          let none = holds_said (opened m n ls) (adds ws) k (ap (λ (l : Ledger). entered_of l (adds ws)) (sym reads) ∙ said) in
          let two = own_least m q (accepted-yes (opened m n ls) (enters (adds ws)) none).1.1.1.0 in (
            line_from m n (words_in ws),
            refl,
            gained_reads m n ls (adds ws) refl none s reads,
            whole_solved q n words (omega (arith, two)),
          );
    }
