-- Takes and withdrawals, one after the other: what a sequence of the two calls does to the live bytes.
use Rattle.std.specs.Prelude.{Bool, true, false, ◌&&◌, List, [], ◌∷◌, ℕ, length, eqb, ltb}
use Rattle.terms.specs.Live.{is_live, lowest_dead, taken_live, withdrawn_live}

-- What one of the two calls came to: a number was taken, a number was withdrawn, or the call was refused.
pub data Change : Type 0 where
  taken : Change
  withdrawn : ℕ → Change
  refused : Change

-- A take is done only where a number is dead, a withdrawal only of a live number, and both only where there is a live byte for each of the n numbers.
abbrev pub may_change : ℕ → List ℕ → Change → Bool
may_change n live taken = eqb (length live) n && ltb (lowest_dead n live) n
may_change n live (withdrawn p) = eqb (length live) n && is_live n live p
may_change n live refused = true

-- The live bytes after it.
abbrev pub changed_live : ℕ → List ℕ → Change → List ℕ
changed_live n live taken = taken_live n live
changed_live n live (withdrawn p) = withdrawn_live p live
changed_live n live refused = live

-- Each of the calls may come to this where it begins with the live bytes that the one before left.
unfoldable pub may_change_all : ℕ → List ℕ → List Change → Bool
may_change_all n live [] = true
may_change_all n live (c ∷ cs) = may_change n live c && may_change_all n (changed_live n live c) cs

-- The live bytes after all of them.
unfoldable pub changed_all : ℕ → List ℕ → List Change → List ℕ
changed_all n live [] = live
changed_all n live (c ∷ cs) = changed_all n (changed_live n live c) cs

-- A take was done.
abbrev pub is_taken : Change → Bool
is_taken taken = true
is_taken (withdrawn p) = false
is_taken refused = false

-- A withdrawal was done.
abbrev pub is_withdrawn : Change → Bool
is_withdrawn taken = false
is_withdrawn (withdrawn p) = true
is_withdrawn refused = false
