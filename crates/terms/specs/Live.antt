-- The live bytes, one for each number: which numbers are live and how many, and what taking and withdrawing leave of the bytes.
use Rattle.std.specs.Prelude.{Bool, ◌&&◌, not, List, ℕ, get_or, set, eqb, leb, ltb}
use Rattle.terms.specs.Tests.{count, lowest_to, rising}

-- A live byte is 0 or 1.
abbrev pub is_live_byte : ℕ → Bool
is_live_byte b = leb b 1

-- The byte is set: it is 1.
abbrev pub is_set : ℕ → Bool
is_set b = eqb b 1

-- Number p is one of n and its live byte is set.
abbrev pub is_live : ℕ → List ℕ → ℕ → Bool
is_live n live p = ltb p n && is_set (get_or live p 0)

-- How many of the n numbers are live: v.
abbrev pub live_count : ℕ → List ℕ → ℕ
live_count n live = count (is_live n live) (rising 0 n)

-- The lowest dead number; n where all n are live.
abbrev pub lowest_dead : ℕ → List ℕ → ℕ
lowest_dead n live = lowest_to n (λ p. not (is_live n live p))

-- The live bytes after a take: the lowest dead number's is set.
abbrev pub taken_live : ℕ → List ℕ → List ℕ
taken_live n live = set live (lowest_dead n live) 1

-- The live bytes after number p was withdrawn: its byte is cleared.
abbrev pub withdrawn_live : ℕ → List ℕ → List ℕ
withdrawn_live p live = set live p 0
