-- The two laws of above on which everything else rests: it is closed upward, and a face asks the same of a sum of products in every region
-- that has it. Each is read off the definition; beside them only the table of examples, the laws of closed and of mirrored faces, and the code's own
-- proof look inside `above_at`.
use Rattle.std.specs.Prelude.{◌≡◌, refl, Bool, true, false, cond, ℕ, ℤ, ◌≤ℤ◌}
use Rattle.std.specs.Int.Signed.{le_z, lt_z}
use Rattle.whole.proofs.Parts.{flags}
use Rattle.terms.specs.Region.{Region, alone, above_at}

-- "A point x is above face (normal, m) when the sum of products is at least m", and "for an open face 'above' means a sum strictly greater than m":
-- what is above a face stays above it when the sum grows.
pub above_up : (g : Region) (i : ℕ) {v w : ℤ} → v ≤ℤ w → above_at g i v ≡ true → above_at g i w ≡ true
unfolding above_at
above_up g i {v} {w} h e = go (g.marked_open i) e
  where
    go : (marked : Bool) → cond marked (lt_z (g.offset i) v) (le_z (g.offset i) v) ≡ true
        → cond marked (lt_z (g.offset i) w) (le_z (g.offset i) w) ≡ true
    go true a = omega flags
    go false a = omega flags

-- A face asks what a face with the same offset and the same mark asks, whatever the regions.
pub above_same_face : (g f : Region) (i j : ℕ) → g.offset i ≡ f.offset j → g.marked_open i ≡ f.marked_open j
    → (v : ℤ) → above_at g i v ≡ above_at f j v
unfolding above_at
above_same_face g f i j e m v = rw (e, m)

-- A face taken as a region alone asks what it asks in its region.
pub above_alone : (g : Region) (i z : ℕ) (v : ℤ) → above_at (alone g i) z v ≡ above_at g i v
above_alone g i z v = above_same_face (alone g i) g z i refl refl v
