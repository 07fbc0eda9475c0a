-- The refusals of the code by the numbers that documents 01 and 02 give to their questions. Definitions only.
use Rattle.std.specs.Prelude.{ℕ, Result, Ok, Err}
use Rattle.questions.specs.declared.Refusal.{Refusal}
use Rattle.questions.specs.declared.Refusal.TheVariants.{Shape, Modulus, Unknowns, Unopened, Full, Number, NothingToStrike, Buffer, LeftOver, Tape, Text, Beyond, NotLinear, Claims, OwnModulus, Place, Top}

abbrev pub number_of : Refusal → ℕ
number_of Shape = 1
number_of Modulus = 2
number_of Unknowns = 3
number_of Unopened = 4
number_of Full = 5
number_of Number = 6
number_of NothingToStrike = 7
number_of Buffer = 8
number_of LeftOver = 9
number_of Tape = 10
number_of Text = 11
number_of Beyond = 12
number_of NotLinear = 13
number_of Claims = 14
number_of OwnModulus = 15
number_of Place = 16
number_of Top = 17

-- the number of the question that turned a call away, or 0 where none did
abbrev pub refused_with : {A : Type 0} → Result A Refusal → ℕ
refused_with (Ok x) = 0
refused_with (Err refusal) = number_of refusal

-- what a call gives, with its refusal by the number
abbrev pub by_number : {A : Type 0} → Result A Refusal → Result A ℕ
by_number (Ok x) = Ok x
by_number (Err refusal) = Err (number_of refusal)
