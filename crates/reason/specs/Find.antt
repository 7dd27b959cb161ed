-- What the way down to a number asks at each branch, and that what it finds there is the computed reason.
use Rattle.std.specs.Prelude.{◌≡◌, refl, Bool, true, false, ◌≢◌, List, ℕ, zero, suc, ◌+◌, ◌-◌, ◌/◌, ◌^◌, ◌≤◌, ◌<◌, length, take, ℤ}
use Rattle.std.proofs.Common.{sym, ◌∙◌, mod-eq_of_lt, arith, eq-eqb, ne_eqb}
use Rattle.terms.specs.declared.Reason.{Reason}
use Rattle.terms.specs.declared.Reason.TheVariants.{InsideWithBranch, OutsideWithBranch}
use Rattle.terms.specs.Tests.{lowest_to}
use Rattle.terms.specs.Lent.{Faces}
use Rattle.terms.specs.Points.{lone, coord}
use Rattle.terms.specs.Before.{before}
use Rattle.terms.specs.Run.{axis, node}
use Rattle.terms.specs.Box.{Box, box_of, left_box, right_box}
use Rattle.terms.specs.Region.{Region, wholly_below, is_open}
use Rattle.terms.specs.Margin.{margin}
use Rattle.terms.specs.Reason.{InRun}
use Rattle.terms.specs.Explain.{own_reason, branch_reason, reason_in}
use Rattle.theory.specs.Boxes.{In}
use Rattle.theory.specs.TreeDepth.{next_depth}
use Rattle.theory.specs.Margins.{margin_same_point}
use Rattle.theory.specs.LowestThatPasses.{lowest_is, none_lowest}
use Rattle.theory.specs.ReasonOnTheWay.{branch_below, branch_above, branch_open}
use Rattle.theory.specs.ReasonSteps.{open_reason, reason_step, reason_depth, own_same_point, stands_left, stands_right}
use Rattle.region.specs.Table.{tabled}
use Rattle.region.specs.Told.{faces_at}
use Rattle.region.specs.Live.{lives_front}
use Rattle.region.specs.declared.table.Table.{Table}
use Rattle.region.specs.Judged.{LowestBelow, AboveAll, StillOpen, judged_open, above_not_below}
use Rattle.descent.specs.declared.runs.Run.{Run}
use Rattle.descent.specs.declared.shelf.Shelf.{Shelf}
use Rattle.descent.specs.Points.{HasPoint, PointAt}
use Rattle.descent.specs.Slots.{run_of, own_of, run_length, run_node, run_lefts, run_rights}
use Rattle.descent.specs.Standing.{Standing, own_point, standing_left, standing_right}
use Rattle.descent.specs.Boxed.{Boxed, boxed_own, boxed_left, boxed_right}
use Rattle.descent.specs.Faced.{Faced, faced_left, faced_right}
use Rattle.descent.specs.Runs.{Child}

-- Number p is sought in the c slots from slot a on, a branch in box b whose node splits on dimension s: where the branch stands, its box, its faces; the number
-- stands in it, and its point is x.
pub record Sought (k : ℕ) (points : List ℤ) (order : List ℕ) (f : Faces) (p : ℕ) (x : List ℤ) (a c s : ℕ) (b : Box) (live : List ℕ) (count : ℕ) : Type 0 where
  pub standing : Standing k points order a c s
  pub boxed : Boxed k (coord k points) order a c b
  pub faced : Faced k f b live count
  pub stands : InRun (run_of order a c) p
  pub known : HasPoint k points p
  pub point : PointAt k points p x

-- What is found there.
pub record Found (k : ℕ) (points : List ℤ) (order : List ℕ) (f : Faces) (p a c s : ℕ) (b : Box) (r : Reason) : Type 0 where
  pub told : (e : ℕ) → c ≤ e → r ≡ reason_in e (tabled k f) (coord k points) p a s (run_of order a c) b

-- The branch on the side of number p of c slots from slot a on, a branch in box b whose node q splits on dimension s.
pub record SideOf (k : ℕ) (points : List ℤ) (p a c s : ℕ) (b : Box) (q : ℕ) (r : Run) : Type 0 where
  pub left : before (coord k points) s p q ≡ true
      → Child a (c / 2) (axis k (s + 1)) (left_box b s (coord k points q s)) r.start r.length r.axis (box_of r.rows)
  pub right : before (coord k points) s p q ≡ false
      → Child (a + c / 2 + 1) (c - c / 2 - 1) (axis k (s + 1)) (right_box b s (coord k points q s)) r.start r.length r.axis (box_of r.rows)

module _ {k : ℕ} {points : List ℤ} {order : List ℕ} {f : Faces} {p : ℕ} {x : List ℤ} {a c s : ℕ} {b : Box} {live : List ℕ} {count : ℕ}
    (w : Sought k points order f p x a c s b live count) where
  abbrev at : ℕ → ℕ → ℤ
  at = coord k points

  abbrev g : Region
  g = tabled k f

  abbrev q : ℕ
  q = own_of order a c

  -- No number stands in an empty run.
  pub some : 0 < c
  some = let st = w.stands.1 in omega (arith, st.known, run_length order a c w.standing.fits)

  pub node_known : HasPoint k points q
  node_known = own_point w.standing some

  own_in : In k b (at q)
  own_in = boxed_own w.standing w.boxed some

  same_axis : axis k s ≡ s
  same_axis = mod-eq_of_lt w.standing.splits

  deeper : axis k (axis k (s + 1)) ≡ axis k (suc s)
  deeper = next_depth k s (axis k (s + 1)) refl

  -- What follows where the branch is open.
  abbrev rest : ℕ → Reason
  rest e = open_reason e g at p (a + c / 2) s a (run_of order a (c / 2)) (a + c / 2 + 1) (run_of order (a + c / 2 + 1) (c - c / 2 - 1)) q b

  step : (e : ℕ) → reason_in (suc e) g at p a s (run_of order a c) b ≡ branch_reason g (at p) b (a + c / 2) (rest e)
  step e =
      let fits = w.standing.fits in
      let start : a + (c / 2 + 1) ≡ a + c / 2 + 1 = omega arith in
      let l = run_length order a c fits in
      rw (run_lefts order a c fits, run_rights order a c fits some, run_node order a c fits some, l, start) at
      (reason_step e g at p a s (run_of order a c) b (rw l some))

  -- What is found by one step of the computation.
  by_step : {r : Reason} → ((e : ℕ) → c ≤ suc e → r ≡ branch_reason g (at p) b (a + c / 2) (rest e)) → Found k points order f p a c s b r
  by_step {r} z = record { told = go }
    where
      go : (e : ℕ) → c ≤ e → r ≡ reason_in e g at p a s (run_of order a c) b
      go zero l = absurd (omega (arith, some))
      go (suc e) l = z e l ∙ sym (step e)

  -- The branch is wholly below a face: the lowest of those that are live is the lowest of all.
  pub found_below : {i : ℕ} {m : ℤ} → LowestBelow g b live count i → m ≡ margin g i (lone x) → Found k points order f p a c s b (OutsideWithBranch (a + c / 2) i m)
  found_below {i} {m} j e =
      let low = lowest_is f.h (wholly_below g b) (record { known = j.known; passes = j.below; none_lower = j.lowest (at q) own_in }) in
      let l : lowest_to f.h (wholly_below g b) < f.h = omega (arith, j.known) in
      rw (e, margin_same_point g w.point.same i, low) (by_step (λ d z. sym (branch_below g (at p) b (a + c / 2) (rest d) l)))

  pub found_above : AboveAll g b → Found k points order f p a c s b (InsideWithBranch (a + c / 2))
  found_above j = by_step (λ e l. sym (branch_above g (at p) b (a + c / 2) (rest e) (none_lowest f.h (wholly_below g b) (λ i m. above_not_below g own_in i (j.all i m))) j.all))

  module _ {next : List ℕ} {left : ℕ} (j : StillOpen g b live count next left) where
    opened : is_open g b ≡ true
    opened = judged_open j own_in

    -- The node's own number is sought: its own test.
    pub found_own : {r : Reason} → p ≡ q → r ≡ own_reason g (lone x) (a + c / 2) → Found k points order f p a c s b r
    found_own e z =
        by_step (λ d l. z ∙ own_same_point g w.point.same (a + c / 2) ∙ sym (branch_open g (at p) b (a + c / 2) (rest d) opened ∙ rw (eq-eqb p q e)))

    module _ (n : p ≢ q) where
      other : p ≢ node (run_of order a c)
      other z = n (z ∙ run_node order a c w.standing.fits some)

      -- It comes before the node: it stands in the left branch, and what is found there is the reason. The value that the branch is handed on as has these numbers.
      module _ (e : before at s p q ≡ true) {start size split : ℕ} {box : Box}
          (v : Child a (c / 2) (axis k (s + 1)) (left_box b s (at q s)) start size split box) where
        sought_left : Sought k points order f p x start size split box next left
        sought_left =
            let fits = w.standing.fits in
            let compared : before at (axis k s) p (node (run_of order a c)) ≡ true = rw (run_node order a c fits some, same_axis) e in
            rw (v.starts, v.slots, v.splits, v.in_box)
            (record {
              standing = standing_left w.standing some;
              boxed = boxed_left w.standing w.boxed some;
              faced = faced_left (record { faces = w.faced.faces; lives = j.lives }) own_in s;
              stands = rw (run_lefts order a c fits) at (stands_left k at s p w.standing.fuel (run_of order a c) w.standing.tree w.stands other compared);
              known = w.known;
              point = w.point;
            })

        found_left : {r : Reason} → Found k points order f p start size split box r → Found k points order f p a c s b r
        found_left z =
            let y = rw (v.starts, v.slots, v.splits, v.in_box) at z in
            by_step
            (λ d l.
            y.told d (omega arith)
            ∙ reason_depth d g at p a (axis k (s + 1)) (suc s) (run_of order a (c / 2)) (left_box b s (at q s)) deeper
            ∙ sym (branch_open g (at p) b (a + c / 2) (rest d) opened ∙ rw (ne_eqb p q n, same_axis, e)))

      -- It does not: it stands in the right branch.
      module _ (e : before at s p q ≡ false) {start size split : ℕ} {box : Box}
          (v : Child (a + c / 2 + 1) (c - c / 2 - 1) (axis k (s + 1)) (right_box b s (at q s)) start size split box) where
        sought_right : Sought k points order f p x start size split box next left
        sought_right =
            let fits = w.standing.fits in
            let compared : before at (axis k s) p (node (run_of order a c)) ≡ false = rw (run_node order a c fits some, same_axis) e in
            rw (v.starts, v.slots, v.splits, v.in_box)
            (record {
              standing = standing_right w.standing some;
              boxed = boxed_right w.standing w.boxed some;
              faced = faced_right (record { faces = w.faced.faces; lives = j.lives }) own_in s;
              stands = rw (run_rights order a c fits some) at (stands_right k at s p w.standing.fuel (run_of order a c) w.standing.tree w.stands other compared);
              known = w.known;
              point = w.point;
            })

        found_right : {r : Reason} → Found k points order f p start size split box r → Found k points order f p a c s b r
        found_right z =
            let y = rw (v.starts, v.slots, v.splits, v.in_box) at z in
            by_step
            (λ d l.
            y.told d (omega arith)
            ∙ reason_depth d g at p (a + c / 2 + 1) (axis k (s + 1)) (suc s) (run_of order (a + c / 2 + 1) (c - c / 2 - 1)) (right_box b s (at q s)) deeper
            ∙ sym (branch_open g (at p) b (a + c / 2) (rest d) opened ∙ rw (ne_eqb p q n, same_axis, e)))

      -- So the branch on its side is next, and it has fewer slots.
      module _ {r : Run} (v : SideOf k points p a c s b q r) where
        pub side_shorter : r.length < c
        side_shorter = go (before at s p q) refl
          where
            go : (t : Bool) → before at s p q ≡ t → r.length < c
            go true e = omega (arith, (v.left e).slots, some)
            go false e = omega (arith, (v.right e).slots, some)

        pub sought_side : Sought k points order f p x r.start r.length r.axis (box_of r.rows) next left
        sought_side = go (before at s p q) refl
          where
            go : (t : Bool) → before at s p q ≡ t → Sought k points order f p x r.start r.length r.axis (box_of r.rows) next left
            go true e = sought_left e (v.left e)
            go false e = sought_right e (v.right e)

        pub found_side : {why : Reason} → Found k points order f p r.start r.length r.axis (box_of r.rows) why → Found k points order f p a c s b why
        found_side {why} z = go (before at s p q) refl
          where
            go : (t : Bool) → before at s p q ≡ t → Found k points order f p a c s b why
            go true e = found_left e (v.left e) z
            go false e = found_right e (v.right e) z

-- The live faces may be lent alone.
pub sought_front : {k : ℕ} {points : List ℤ} {order : List ℕ} {f : Faces} {p : ℕ} {x : List ℤ} {a c s : ℕ} {b : Box} {live : List ℕ} {count : ℕ}
    → Sought k points order f p x a c s b live count → Sought k points order f p x a c s b (take count live) (length (take count live))
sought_front w = record {
  standing = w.standing;
  boxed = w.boxed;
  faced = record { faces = w.faced.faces; lives = lives_front w.faced.lives };
  stands = w.stands;
  known = w.known;
  point = w.point;
}

-- What is asked for the branch on the side of number p of a run whose node is q.
pub record SideAsks (k : ℕ) (points : List ℤ) (p : ℕ) (run : Run) (q : ℕ) : Type 0 where
  pub sought : HasPoint k points p
  pub node : HasPoint k points q
  pub splits : run.axis < k
  pub some : 0 < run.length
  pub fits : run.start + run.length < 2 ^ 64

-- What the way down asks of a branch, read off the values that it takes: the shelf and the table of the faces have the same dimensions, and the number can be sought.
pub record Asks (s : Shelf) (t : Table) (p : ℕ) (x : List ℤ) (run : Run) (live : List ℕ) : Type 0 where
  pub same_k : t.k ≡ s.k
  pub sought : Sought s.k s.points.now s.order.now (faces_at t) p x run.start run.length run.axis (box_of run.rows) live (length live)

-- What it finds, read off the same.
abbrev pub Finds : Shelf → Table → ℕ → Run → Reason → Type 0
Finds s t p run r = Found s.k s.points.now s.order.now (faces_at t) p run.start run.length run.axis (box_of run.rows) r
