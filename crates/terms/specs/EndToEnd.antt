-- Lists end to end, and the parts of a list.
use Rattle.std.specs.Prelude.{List, [], ◌++◌, ℕ, zero, suc, take, drop}

-- What the numbers 0 to r - 1 give, one after another.
unfoldable pub end_to_end : {A : Type 0} → ℕ → (ℕ → List A) → List A
end_to_end zero each = []
end_to_end (suc r) each = end_to_end r each ++ each r

-- The c items of a list from place a on.
abbrev pub part : {A : Type 0} → ℕ → ℕ → List A → List A
part a c xs = take c (drop a xs)
