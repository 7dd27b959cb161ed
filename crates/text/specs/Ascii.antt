-- Quoted text as bytes.
use Rattle.std.specs.Prelude.{ℕ, List, [], ◌∷◌}
use Prim.Native.Char.{code}
use Prim.Native.String.{String}
use Prim.Native.String.{[] as empty, ◌∷◌ as ◌then◌}

-- The bytes of a quoted text: the code of each character.
abbrev pub ascii : String → List ℕ
ascii empty = []
ascii (◌then◌ c s) = code c ∷ ascii s
