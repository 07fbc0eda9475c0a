-- What a lent slice holds after something was written to its front. Definitions only.
use Rattle.std.specs.Prelude.{List, ◌++◌, length, drop}

-- xs at the front, and what the slice held past it: "Buffer words past the block keep their content"
abbrev pub over : {A : Type 0} → List A → List A → List A
over xs old = xs ++ drop (length xs) old
