-- `text::decimal_into` meets its contract. The measure is the number.
use Rattle.tape.proofs.text.+decimal_into.Given as goal

abbrev pub decreases-decimal_into : goal.decreases-decimal_into
decreases-decimal_into l = l.x
