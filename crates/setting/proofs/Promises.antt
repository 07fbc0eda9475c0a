-- The promises of specs/Promises.antt are kept.
--   made_as_wanted, made-fit, added_as_made
use mathlib.Core.Logic.Iff
use mathlib.Core.List.{[]}
use native.Mathlib.Omega.{arith}
use Rattle.equations.specs.Lines.{as_rows}
use Rattle.equations.specs.Line.{lines_mod}
use Rattle.equations.proofs.Vectors.{below_mono}
use Rattle.equations.proofs.Claim.{right-all}
use Rattle.words.specs.Words.{words_in}
use Rattle.words.specs.Promises.{numbers_of_a_word}
use Rattle.ledger.specs.Shapes.{claim_from}
use Rattle.setting.specs.Calls.{equations_for}
use Rattle.setting.specs.Promises.{MadeAsWanted, MadeFits, AddedAsMade}
use Rattle.setting.proofs.Written.{memory-fits}
use Rattle.setting.proofs.LetIn.{let_in_open, let_in_marked, let_in_wants}
use Rattle.setting.proofs.Added.{memory_parts, all_added, right-passes}

pub made_as_wanted : MadeAsWanted
made_as_wanted = let_in_wants

pub made-fit : MadeFits
made-fit m n ws let_in =
    let wants = let_in_wants m n ws let_in in memory-fits n (equations_for m n ws) wants.shaped wants.few

pub added_as_made : AddedAsMade
added_as_made m n ws let_in =
    let es = equations_for m n ws in
    let wants = let_in_wants m n ws let_in in
    let allowed = let_in_open m n ws let_in in
    let added =
    all_added m n allowed.0 allowed.1 es wants.shaped wants.residues [] (omega (arith, wants.few, allowed.3)) in (
      memory_parts n es wants.shaped (below_mono m numbers_of_a_word (as_rows es) (omega (arith, allowed.1)) wants.residues),
      added.0,
      added.1,
      let_in_marked m n ws let_in (lines_mod m es),
      right-passes m n (omega (arith, allowed.0)) es ws
          ((right-all m n es (claim_from n (words_in ws))).1 (λ v vec. Iff.symm (wants.exactly v vec))),
    )
