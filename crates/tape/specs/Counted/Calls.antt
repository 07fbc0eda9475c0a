-- Every call on a tape takes a word, `wanted_some`, so that fewer words remain behind it, `behind_fewer`.
use Rattle.std.specs.Prelude.{List, ◌∷◌, ℕ, zero, suc, ◌≤◌, ◌<◌, length}
use Rattle.std.proofs.Common.{arith, length-drop}
use Rattle.words.specs.declared.unpacking.Word.{Word}
use Rattle.words.specs.Fronts.{first_word, front_length, front_some}
use Rattle.ledger.specs.Ledger.{Ledger, unknowns_of}
use Rattle.ledger.specs.Classes.{length_some}
use Rattle.tape.specs.declared.picking.Pick.{Pick}
use Rattle.tape.specs.declared.picking.Pick.TheVariants.{Opening, Adding, OwnAdding, Marking, Striking, Answering, Misplaced, Nothing}
use Rattle.tape.specs.FirstCall.{pick_of, own_words, wanted_by, wanted, behind_first}

some_own : (n : ℕ) → 0 < own_words n
some_own zero = omega arith
some_own (suc n) = omega arith

some_words : (n : ℕ) (pick : Pick) (number : ℕ) → 0 < wanted_by n pick number
some_words n Opening number = omega arith
some_words n Adding number = omega arith
some_words n OwnAdding number = some_own n
some_words n Marking number = length_some n number
some_words n Striking number = omega arith
some_words n Answering number = omega arith
some_words n Misplaced number = omega arith
some_words n Nothing number = omega arith

pub wanted_some : (l : Ledger) (first : Word) → 0 < wanted l first
wanted_some l first = some_words (unknowns_of l) (pick_of first.kind) first.number

pub behind_fewer : (l : Ledger) (w : ℕ) (ws : List ℕ) → length (behind_first l (w ∷ ws)) ≤ length ws
unfolding behind_first
behind_fewer l w ws =
    let k = wanted l (first_word (w ∷ ws)) in
    omega (arith, length-drop (front_length k (w ∷ ws)) (w ∷ ws), front_some k w ws (wanted_some l (first_word (w ∷ ws))))
