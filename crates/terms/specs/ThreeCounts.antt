-- The three counts of a listing, as they stand in the counts buffer.
use Rattle.std.specs.Prelude.{List, [], ◌∷◌, ℕ}
use Rattle.terms.specs.declared.Listing.{Listing}

-- How many are inside, how many outside, and the visits.
abbrev pub counts_of : Listing → List ℕ
counts_of a = a.inside ∷ a.outside ∷ a.visits ∷ []
