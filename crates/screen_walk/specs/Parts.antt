-- What the node part and the branch part ask of a branch and what they find in it, and that it goes on to the branches of an open branch in turn.
use Rattle.std.specs.Prelude.{◌≡◌, refl, Bool, true, false, List, [], ℕ, ◌+◌, ◌-◌, ◌/◌, ◌≤◌, ◌<◌, length, get_or, is_some, unwrap_or, ℤ}
use Rattle.std.proofs.Common.{sym, ◌∙◌}
use native.Mathlib.Omega.{arith}
use Rattle.terms.specs.Tests.{count, keep}
use Rattle.terms.specs.Lent.{Faces}
use Rattle.terms.specs.Points.{coord}
use Rattle.terms.specs.Run.{axis}
use Rattle.terms.specs.Box.{Box, box_of, left_box, right_box, boxes}
use Rattle.terms.specs.Region.{Region, inside, wholly_above, wholly_below, is_open}
use Rattle.terms.specs.Lists.{insides}
use Rattle.theory.specs.Counting.{count_not}
use Rattle.theory.specs.AllAndAny.{OneBelow}
use Rattle.theory.specs.Boxes.{In}
use Rattle.theory.specs.Nesting.{above_all_settled, below_one_settled}
use Rattle.theory.specs.Containment.{above_all_insides, below_one_insides}
use Rattle.region.specs.Table.{tabled}
use Rattle.region.specs.Live.{Lives}
use Rattle.region.specs.Told.{faces_at}
use Rattle.region.specs.declared.table.Table.{Table}
use Rattle.descent.specs.declared.runs.Run.{Run}
use Rattle.descent.specs.declared.shelf.Shelf.{Shelf}
use Rattle.descent.specs.Slots.{run_of, own_of, run_length, run_starts, run_whole}
use Rattle.descent.specs.Standing.{Standing, standing_left, standing_right}
use Rattle.descent.specs.Boxed.{Boxed, boxed_own, boxed_left, boxed_right}
use Rattle.descent.specs.Faced.{Faced, faced_left, faced_right}
use Rattle.descent.specs.Runs.{Child}
use Rattle.descent.specs.SlotBoxes.{slot_boxes, slot_boxes_length, slot_boxes_whole}
use Rattle.descent.specs.SettledSlots.{settled_slots}
use Rattle.screen_walk.specs.declared.Seen.{Seen}
use Rattle.screen_walk.specs.Screened.{Screened, screened_all, screened_out, screened_in, screened_left, screened_own, screened_right}

-- A branch that can be screened: where it stands, its box, its faces, and room for the visits of its slots.
pub record Screenable (k : ℕ) (points : List ℤ) (order : List ℕ) (f : Faces) (a c s : ℕ) (b : Box) (live : List ℕ) (count u : ℕ) : Type 0 where
  pub standing : Standing k points order a c s
  pub boxed : Boxed k (coord k points) order a c b
  pub faced : Faced k f b live count
  pub seen : u + c ≤ length order

-- The screen of the c slots from slot a on, a branch in box b whose node splits on dimension s.
abbrev pub BranchScreened : ℕ → List ℤ → List ℕ → Faces → ℕ → ℕ → ℕ → Box → ℕ → Bool → ℕ → ℕ → Type 0
BranchScreened k points order f a c s b u found number v =
    Screened (tabled k f) (coord k points) (run_of order a c) (slot_boxes k (coord k points) order a c s b) u found number v

-- An empty branch has none.
pub screened_empty : (k : ℕ) (points : List ℤ) (order : List ℕ) (f : Faces) (a c s : ℕ) (b : Box) (u number : ℕ) → c ≡ 0
    → BranchScreened k points order f a c s b u false number u
unfolding boxes count keep
screened_empty k points order f a c s b u number e = rw e (screened_out _ _ _ _ _ refl number refl)

module _ {k : ℕ} {points : List ℤ} {order : List ℕ} {f : Faces} {a c s : ℕ} {b : Box} {live : List ℕ} {n u : ℕ}
    (w : Screenable k points order f a c s b live n u) where
  -- Other faces that are live for its box serve as well.
  pub screenable_faced : {next : List ℕ} {left : ℕ} → Lives (tabled k f) b next left → Screenable k points order f a c s b next left u
  screenable_faced lives = record { standing = w.standing; boxed = w.boxed; faced = record { faces = w.faced.faces; lives = lives }; seen = w.seen }

  -- A branch wholly above all faces has its first slot's number, with no point looked at.
  pub screened_above : 0 < c → ((i : ℕ) → i < f.h → wholly_above (tabled k f) b i ≡ true) → BranchScreened k points order f a c s b u true (get_or order a 0) u
  screened_above some above =
      let g : Region = tabled k f in
      let (rest, e) = run_starts order a c w.standing.fits some in
      screened_in _ _ _ _ _ (settled_slots (tabled k f) w.standing w.boxed (above_all_settled g b above)) (get_or order a 0) rest (above_all_insides g w.boxed.held above ∙ e)

  -- One wholly below a face has none.
  pub screened_below : (number : ℕ) → OneBelow f.h (wholly_below (tabled k f) b) true → BranchScreened k points order f a c s b u false number u
  screened_below number below =
      let g : Region = tabled k f in
      screened_out _ _ _ _ _ (settled_slots (tabled k f) w.standing w.boxed (below_one_settled g b below)) number (below_one_insides g w.boxed.held below)

-- The left branch of a branch, which has none inside: after u visits, v with those of all its open slots.
pub record LeftNone (k : ℕ) (points : List ℤ) (order : List ℕ) (f : Faces) (a c s : ℕ) (b : Box) (u v : ℕ) : Type 0 where
  pub none : insides (tabled k f) (coord k points) (run_of order a (c / 2)) ≡ []
  pub visits : v ≡ u + count (is_open (tabled k f)) (slot_boxes k (coord k points) order a (c / 2) (axis k (s + 1)) (left_box b s (coord k points (own_of order a c) s)))

module _ {k : ℕ} {points : List ℤ} {order : List ℕ} {f : Faces} {a c s : ℕ} {b : Box} {live : List ℕ} {n u : ℕ}
    (w : Screenable k points order f a c s b live n u) (some : 0 < c) where
  -- The node's point lies in the branch's box.
  pub own_held : In k b (coord k points (own_of order a c))
  own_held = boxed_own w.standing w.boxed some

  half : c / 2 ≡ length (run_of order a (c / 2))
  half = sym (run_length order a (c / 2) (omega (arith, w.standing.fits)))

  lefts_length : (t : ℕ) (x : Box) → length (slot_boxes k (coord k points) order a (c / 2) t x) ≡ c / 2
  lefts_length t x = slot_boxes_length k (coord k points) order a (c / 2) (omega (arith, w.standing.fits)) t x

  left_screenable : Screenable k points order f a (c / 2) (axis k (s + 1)) (left_box b s (coord k points (own_of order a c) s)) live n u
  left_screenable = record {
    standing = standing_left w.standing some;
    boxed = boxed_left w.standing w.boxed some;
    faced = faced_left w.faced own_held s;
    seen = omega (arith, w.seen);
  }

  right_screenable : {v : ℕ} → v ≤ u + c / 2 → Screenable k points order f (a + c / 2 + 1) (c - c / 2 - 1) (axis k (s + 1)) (right_box b s (coord k points (own_of order a c) s)) live n (v + 1)
  right_screenable l = record {
    standing = standing_right w.standing some;
    boxed = boxed_right w.standing w.boxed some;
    faced = faced_right w.faced own_held s;
    seen = omega (arith, w.seen);
  }

  -- A node alone in its branch has no left branch.
  pub left_of_alone : c ≡ 1 → LeftNone k points order f a c s b u u
  unfolding boxes count keep
  left_of_alone one =
      let none : c / 2 ≡ 0 = omega arith in
      record { none = rw none refl; visits = rw none (omega arith) }

  -- Said of the value that the left branch is handed on as, where x is the coordinate of the node on the dimension of the split and its branches split on the next.
  module _ {x : ℤ} {next : ℕ} (x_is : x ≡ coord k points (own_of order a c) s) (next_is : next ≡ axis k (s + 1))
      {start size split : ℕ} {box : Box} (left : Child a (c / 2) next (left_box b s x) start size split box) where
    l : Child a (c / 2) (axis k (s + 1)) (left_box b s (coord k points (own_of order a c) s)) start size split box
    l = rw (x_is, next_is) at left

    pub screenable_left : Screenable k points order f start size split box live n u
    screenable_left = rw (l.starts, l.slots, l.splits, l.in_box) left_screenable

    -- The left branch has one: it is the branch's, and nothing further is counted.
    pub screened_by_left : {number v : ℕ} → BranchScreened k points order f start size split box u true number v → BranchScreened k points order f a c s b u true number v
    screened_by_left z =
        let fits = w.standing.fits in
        let v = rw (l.starts, l.slots, l.splits, l.in_box) at z in
        rw
        (slot_boxes_whole k (coord k points) order a c fits some s w.standing.splits b, run_whole order a c fits some)
        (screened_left _ _ _ _ _ _ _ _ (lefts_length _ _ ∙ half) v)

    -- It has none.
    pub left_none : {number v : ℕ} → BranchScreened k points order f start size split box u false number v → LeftNone k points order f a c s b u v
    left_none z =
        let v = rw (l.starts, l.slots, l.splits, l.in_box) at z in
        record { none = v.none refl; visits = screened_all (lefts_length _ _ ∙ half) v }

  module _ {v : ℕ} (l : LeftNone k points order f a c s b u v) where
    pub seen_most : v ≤ u + c / 2
    seen_most = omega (arith, l.visits, count_not (is_open (tabled k f)) (slot_boxes k (coord k points) order a (c / 2) (axis k (s + 1)) (left_box b s (coord k points (own_of order a c) s))), lefts_length (axis k (s + 1)) (left_box b s (coord k points (own_of order a c) s)))

    -- The node's own number is inside.
    pub screened_by_node : is_open (tabled k f) b ≡ true → inside (tabled k f) (coord k points (own_of order a c)) ≡ true
        → BranchScreened k points order f a c s b u true (own_of order a c) (v + 1)
    screened_by_node e i =
        let fits = w.standing.fits in
        rw
        (slot_boxes_whole k (coord k points) order a c fits some s w.standing.splits b, run_whole order a c fits some)
        (screened_own _ _ _ _ _ _ _ _ (lefts_length _ _ ∙ half) e l.none l.visits i)

    -- The right branch alike.
    module _ {x : ℤ} {next : ℕ} (x_is : x ≡ coord k points (own_of order a c) s) (next_is : next ≡ axis k (s + 1))
        {start size split : ℕ} {box : Box} (right : Child (a + c / 2 + 1) (c - c / 2 - 1) next (right_box b s x) start size split box) where
      r : Child (a + c / 2 + 1) (c - c / 2 - 1) (axis k (s + 1)) (right_box b s (coord k points (own_of order a c) s)) start size split box
      r = rw (x_is, next_is) at right

      pub screenable_right : Screenable k points order f start size split box live n (v + 1)
      screenable_right = rw (r.starts, r.slots, r.splits, r.in_box) (right_screenable seen_most)

      -- The node's own number is outside: the right branch has the answer.
      pub screened_by_right : {found : Bool} {number last : ℕ} → is_open (tabled k f) b ≡ true → inside (tabled k f) (coord k points (own_of order a c)) ≡ false
          → BranchScreened k points order f start size split box (v + 1) found number last → BranchScreened k points order f a c s b u found number last
      screened_by_right e i z =
          let fits = w.standing.fits in
          let x = rw (r.starts, r.slots, r.splits, r.in_box) at z in
          rw
          (slot_boxes_whole k (coord k points) order a c fits some s w.standing.splits b, run_whole order a c fits some)
          (screened_right _ _ _ _ _ _ _ _ (lefts_length _ _ ∙ half) e l.none l.visits i x)

-- What both parts ask of the branch, read off the values that they take: the shelf and the table of the faces have the same dimensions, and it can be screened.
pub record BranchAsks (s : Shelf) (t : Table) (run : Run) (live : List ℕ) (visits : ℕ) : Type 0 where
  pub same_k : t.k ≡ s.k
  pub screenable : Screenable s.k s.points.now s.order.now (faces_at t) run.start run.length run.axis (box_of run.rows) live (length live) visits

-- What they find, read off the values that they take and give.
abbrev pub BranchDoes : Shelf → Table → Run → ℕ → Seen → Type 0
BranchDoes s t run visits seen =
    BranchScreened s.k s.points.now s.order.now (faces_at t) run.start run.length run.axis (box_of run.rows) visits
    (is_some seen.number) (unwrap_or seen.number 0) seen.visits
