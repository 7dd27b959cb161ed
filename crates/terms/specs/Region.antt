-- The region: faces, above and below, a box's two corners, settled and open.
use Rattle.std.specs.Prelude.{Bool, ◌||◌, cond, not, ℕ, ◌+◌, ◌*◌, get_or, eqb, leb, ℤ, pos, negsuc, ◌*ℤ◌}
use Rattle.std.specs.Int.Signed.{le_z, lt_z, non_neg}
use Rattle.whole.specs.IndexedSum.{sum_to}
use Rattle.terms.specs.Tests.{all_to, any_to}
use Rattle.terms.specs.Lent.{Faces}
use Rattle.terms.specs.Points.{within}
use Rattle.terms.specs.Box.{Box}

-- k dimensions and h faces: component d of face i's normal, its offset, and whether it is marked open.
pub record Region : Type 0 where
  pub k : ℕ
  pub h : ℕ
  pub component : ℕ → ℕ → ℤ
  pub offset : ℕ → ℤ
  pub marked_open : ℕ → Bool

-- The region of the lent faces, k components to a face.
abbrev pub region : ℕ → Faces → Region
region k f = record {
  k = k;
  h = f.h;
  component = λ i d. get_or f.normals (i * k + d) (pos 0);
  offset = λ i. get_or f.offsets i (pos 0);
  marked_open = λ i. eqb (get_or f.marks i 0) 1;
}

-- Face i taken as a region alone.
abbrev pub alone : Region → ℕ → Region
alone g i = record {
  k = g.k;
  h = 1;
  component = λ z. g.component i;
  offset = λ z. g.offset i;
  marked_open = λ z. g.marked_open i;
}

-- A component is -32,767 to 32,767.
abbrev pub is_component : ℤ → Bool
is_component z = within (negsuc 32766) (pos 32767) z

-- An offset is -8,589,934,592 to 8,589,934,592.
abbrev pub is_offset : ℤ → Bool
is_offset z = within (negsuc 8589934591) (pos 8589934592) z

-- The sum of products of face i's normal and a point.
abbrev pub reach : Region → ℕ → (ℕ → ℤ) → ℤ
reach g i x = sum_to g.k (λ d. g.component i d *ℤ x d)

-- A mark is 0 or 1.
abbrev pub is_mark : ℕ → Bool
is_mark m = leb m 1

-- A sum of products v is above face i: at least its offset, and strictly greater where the face is marked open.
unfoldable pub above_at : Region → ℕ → ℤ → Bool
above_at g i v = cond (g.marked_open i) (lt_z (g.offset i) v) (le_z (g.offset i) v)

-- The point is above face i.
abbrev pub above : Region → ℕ → (ℕ → ℤ) → Bool
above g i x = above_at g i (reach g i x)

-- The point is below face i.
abbrev pub is_below : Region → (ℕ → ℤ) → ℕ → Bool
is_below g x i = not (above g i x)

-- The point is inside: above every face.
unfoldable pub inside : Region → (ℕ → ℤ) → Bool
inside g x = all_to g.h (λ i. above g i x)

-- The first coordinate where the component is 0 or more, else the second.
abbrev pub by_sign : ℤ → ℤ → ℤ → ℤ
by_sign c a b = cond (non_neg c) a b

-- The corner of a box furthest against face i's normal.
abbrev pub against : Region → ℕ → Box → ℕ → ℤ
against g i b d = by_sign (g.component i d) (b.low d) (b.high d)

-- The opposite corner, furthest along the normal.
abbrev pub along : Region → ℕ → Box → ℕ → ℤ
along g i b d = by_sign (g.component i d) (b.high d) (b.low d)

-- The box is wholly above face i.
abbrev pub wholly_above : Region → Box → ℕ → Bool
wholly_above g b i = above g i (against g i b)

-- The box is wholly below face i.
abbrev pub wholly_below : Region → Box → ℕ → Bool
wholly_below g b i = not (above g i (along g i b))

-- A branch with this box is settled: wholly below at least one face, or wholly above all of them.
unfoldable pub is_settled : Region → Box → Bool
is_settled g b = any_to g.h (wholly_below g b) || all_to g.h (wholly_above g b)

-- Otherwise it is open.
unfoldable pub is_open : Region → Box → Bool
is_open g b = not (is_settled g b)
