-- The refusals: a small group for each number, with its tests. A call's refusals are groups put together in the order of testing, and the first test that
-- holds gives the answer.
use Rattle.std.specs.Prelude.{Bool, ◌&&◌, cond, not, List, [], ◌∷◌, ◌++◌, ℕ, zero, suc, ◌*◌, length, ℤ, leb, ltb, eqb}
use Rattle.terms.specs.declared.Reading.{Reading}
use Rattle.terms.specs.Tests.{every}
use Rattle.terms.specs.Lent.{Stock, Order, Faces}
use Rattle.terms.specs.Live.{is_live_byte, is_live}
use Rattle.terms.specs.Points.{point_of, is_coordinate, belongs_to}
use Rattle.terms.specs.Region.{is_component, is_offset, is_mark}
use Rattle.terms.specs.Tree.{is_shelf}
use Rattle.terms.specs.LivePoints.{members_in_range}
use Rattle.terms.specs.Reading.{all_in_range}

-- A number with the test for which it is given.
pub record Refusal : Type 0 where
  pub number : ℕ
  pub holds : Bool

-- The number of the first test that holds; 0, done, where none does.
unfoldable pub first_of : List Refusal → ℕ
first_of [] = 0
first_of (r ∷ rs) = cond r.holds r.number (first_of rs)

-- A list has another length than it must.
abbrev pub not_long : {A : Type 0} → ℕ → List A → Bool
not_long size xs = not (eqb (length xs) size)

-- 1: k is not 1 to 4.
abbrev pub dimension_refusals : ℕ → List Refusal
dimension_refusals k = record { number = 1; holds = not (leb 1 k && leb k 4) } ∷ []

-- 2: n is over 65,535.
abbrev pub size_refusals : ℕ → List Refusal
size_refusals n = record { number = 2; holds = ltb 65535 n } ∷ []

-- 3: the lent coordinates are not as many as they must be.
abbrev pub length_refusals : ℕ → List ℤ → List Refusal
length_refusals size points = record { number = 3; holds = not_long size points } ∷ []

-- 4: a lent order or buffer has fewer places than it must.
abbrev pub room_refusals : ℕ → ℕ → List Refusal
room_refusals places room = record { number = 4; holds = ltb room places } ∷ []

-- 5: a coordinate of a point that is lent alone is out of range.
abbrev pub coordinate_refusals : List ℤ → List Refusal
coordinate_refusals point = record { number = 5; holds = not (every is_coordinate point) } ∷ []

-- 5: a coordinate of a number that belongs is out of range. Dead ones are passed over.
abbrev pub live_coordinate_refusals : Stock → List Refusal
live_coordinate_refusals s = record { number = 5; holds = not (members_in_range s.k (point_of s) (belongs_to s) s.n) } ∷ []

-- A region has at most 32 faces.
abbrev pub is_face_count : ℕ → Bool
is_face_count h = leb h 32

-- 6: h is over 32.
abbrev pub face_count_refusals : ℕ → List Refusal
face_count_refusals h = record { number = 6; holds = ltb 32 h } ∷ []

-- 6: some region has over 32 faces.
abbrev pub face_counts_refusals : List ℕ → List Refusal
face_counts_refusals face_counts = record { number = 6; holds = not (every is_face_count face_counts) } ∷ []

-- 7: the normals are not k times h, or the offsets not h.
abbrev pub face_length_refusals : ℕ → ℕ → List ℤ → List ℤ → List Refusal
face_length_refusals k h normals offsets =
    record { number = 7; holds = not_long (k * h) normals } ∷ record { number = 7; holds = not_long h offsets } ∷ []

-- 8: a component or an offset is out of range.
abbrev pub face_range_refusals : List ℤ → List ℤ → List Refusal
face_range_refusals normals offsets =
    record { number = 8; holds = not (every is_component normals) } ∷ record { number = 8; holds = not (every is_offset offsets) } ∷ []

-- 11: the marks are not h, or one is neither 0 nor 1.
abbrev pub mark_refusals : ℕ → List ℕ → List Refusal
mark_refusals h marks = record { number = 11; holds = not_long h marks } ∷ record { number = 11; holds = not (every is_mark marks) } ∷ []

-- 9: the first v slots are not the tree of the live points.
abbrev pub tree_refusals : Stock → Order → List Refusal
tree_refusals s o = record { number = 9; holds = not (is_shelf s o) } ∷ []

-- 12: a value of the reading is not finite, or out of range.
abbrev pub value_refusals : Reading → List Refusal
value_refusals r = record { number = 12; holds = not (all_in_range r) } ∷ []

-- 14: the region count is not 1 to 64, or the face counts are not as many.
abbrev pub region_count_refusals : ℕ → List ℕ → List Refusal
region_count_refusals regions face_counts =
    record { number = 14; holds = not (leb 1 regions && leb regions 64) } ∷ record { number = 14; holds = not_long regions face_counts } ∷ []

-- 15: the live bytes are not n, or one is neither 0 nor 1.
abbrev pub live_refusals : ℕ → List ℕ → List Refusal
live_refusals n live = record { number = 15; holds = not_long n live } ∷ record { number = 15; holds = not (every is_live_byte live) } ∷ []

-- 16: none is dead: v, the number of live ones, is n.
abbrev pub full_refusals : ℕ → ℕ → List Refusal
full_refusals n v = record { number = 16; holds = eqb v n } ∷ []

-- 17: number p is dead, or not below n.
abbrev pub dead_refusals : ℕ → ℕ → List ℕ → List Refusal
dead_refusals n p live = record { number = 17; holds = not (is_live n live p) } ∷ []

-- The points' shape: 1, 2 and 3.
abbrev pub shape_refusals : ℕ → ℕ → List ℤ → List Refusal
shape_refusals k n points = dimension_refusals k ++ size_refusals n ++ length_refusals (k * n) points

-- The stock's: 1, 2, 3 and 15.
abbrev pub stock_refusals : Stock → List Refusal
stock_refusals s = shape_refusals s.k s.n s.points ++ live_refusals s.n s.live

-- The lent slices of the faces: 7, 8 and 11.
abbrev pub face_slice_refusals : ℕ → Faces → List Refusal
face_slice_refusals k f =
    face_length_refusals k f.h f.normals f.offsets
    ++ face_range_refusals f.normals f.offsets
    ++ mark_refusals f.h f.marks

-- The faces: 6, 7, 8 and 11.
abbrev pub face_refusals : ℕ → Faces → List Refusal
face_refusals k f = face_count_refusals f.h ++ face_slice_refusals k f

-- The first value where the number is 0, done; the second where it is a refusal.
abbrev pub if_done : {A : Type 0} → ℕ → A → A → A
if_done zero done refused = done
if_done (suc c) done refused = refused
