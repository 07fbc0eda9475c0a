-- The bytes of a text: the codes of its characters. Definitions only.
use Rattle.std.specs.Prelude.{List, [] as none, ◌∷◌ as ◌then◌, ℕ}
use Prim.Native.String.{String, [], ◌∷◌}
use Prim.Native.Char.{code}

abbrev pub bytes_of : String → List ℕ
bytes_of [] = none
bytes_of (c ∷ text) = (code c) then (bytes_of text)
