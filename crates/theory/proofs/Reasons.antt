-- The reason of every number of a tree: there is one, it is the computed one, and there is no other. It says inside exactly where the point is inside, and "by its
-- own test" exactly where the number's own slot is open. What the relation says of the branches that hold the slot, and what is read off the way, are the same.
use Rattle.std.specs.Prelude.{◌≡◌, refl, Bool, true, false, ℕ, zero, suc, ◌+◌, ◌-◌, ◌≤◌, ◌<◌, length, ℤ, eqb}
use Rattle.std.proofs.Math.Path.{sym, ap}
use Rattle.std.proofs.Common.{subst, ◌∙◌, not-suc-le-zero, le_of_suc-le-suc, zero-add, arith, eqb-true, eq-eqb, ne_eqb}
use mathlib.Core.List.{List, [], ◌∷◌, map}
use Rattle.std.proofs.Math.ListN.{get_or}
use Rattle.terms.specs.declared.Reason.{Reason}
use Rattle.terms.specs.declared.Reason.TheVariants.{InsideWithBranch, InsideByItself, OutsideWithBranch, OutsideByItself}
use Rattle.terms.specs.Tests.{bit, count}
use Rattle.terms.specs.Before.{before}
use Rattle.terms.specs.Run.{middle, axis, node, lefts, rights}
use Rattle.terms.specs.Tree.{tree_run, each_once, is_tree}
use Rattle.terms.specs.Box.{Box, root_box}
use Rattle.terms.specs.Region.{Region, above, inside, is_open}
use Rattle.terms.specs.Visits.{open_slots}
use Rattle.terms.specs.Branches.{Branch, node_slot, Holds, shelf_branches, branch_at}
use Rattle.terms.specs.Reason.{NearestRoot, NoneSettled, Because, StandsIn, InRun, ReasonFor}
use Rattle.terms.specs.Explain.{reason_in, reason_of}
use Rattle.theory.specs.Flags.{clash, and_true, not_true, true_not}
use Rattle.theory.specs.AllAndAny.{each_all, one_all_false}
use Rattle.theory.specs.RunParts.{Parts, parts, left_length, right_length}
use Rattle.theory.specs.RunSides.{Side, side, at_node, on_left, on_right}
use Rattle.theory.specs.BeforeIsAnOrder.{before_asym, before_self}
use Rattle.theory.specs.EachNumberOnce.{each_once_lem}
use Rattle.theory.specs.Boxes.{In}
use Rattle.theory.specs.BoxLaws.{held_root}
use Rattle.theory.specs.Nesting.{settled_nested, below_one_settled, above_all_settled}
use Rattle.theory.specs.Containment.{wholly_below_point, above_all_inside, below_one_outside}
use Rattle.theory.specs.LowestThatPasses.{lowest_one}
use Rattle.theory.specs.BranchesOfARun.{left_of, right_of, branches_length, branch_placed, shelf_branches_boxes}
use Rattle.theory.specs.Way.{way, WayTold}
use Rattle.theory.proofs.Way.{way_node, way_left, way_right, way_told}
use Rattle.theory.specs.ReasonOnTheWay.{AboveEvery, BelowFirst, OpenBefore, NearestOn, BecauseOn, reason_on, EachHolds}
use Rattle.theory.proofs.ReasonOnTheWay.{on_way_true, on_way_only}
use Rattle.theory.specs.Reasons.{says_inside, says_itself, Named, SaidOf}

-- ---- the relation and the way

-- What holds of a branch holds of an equal one.
holds_same : {b c : Branch} {i : ℕ} → b ≡ c → Holds c i → Holds b i
holds_same e h = rw e h

open_same : (g : Region) {b c : Branch} → b ≡ c → is_open g c.box ≡ true → is_open g b.box ≡ true
open_same g e o = rw e o

module _ (g : Region) (bs : List Branch) {x : ℕ → ℤ} {own : Box} {i : ℕ} {w : List Branch}
    (slots : (s : ℕ) → s < length bs → node_slot (branch_at bs s) ≡ s) (t : WayTold g.k x own bs 0 i 0 w) where
  -- The depth of a branch on the way is its place there.
  depth_at : (u : ℕ) → u < length w → (branch_at w u).depth ≡ u
  depth_at u l = omega (arith, (t.each u l).deep)

  -- The settled branch nearest the root is the first on the way.
  nearest_on : (s : ℕ) → NearestRoot g bs i s → (P : Box → Type 0) → P (branch_at bs s).box → NearestOn g w s P
  nearest_on s n P z = go (t.all s n.known n.holds)
    where
      go : (u : ℕ) × (u < length w) × (branch_at w u ≡ branch_at bs s) → NearestOn g w s P
      go (u, l, q) = record {
        place = u;
        known = l;
        named = sym (slots s n.known) ∙ ap node_slot (sym q);
        nearest = λ v m.
            let o = t.each v (omega arith) in
            open_same g (sym o.listed)
            (n.nearer_open o.place o.known (holds_same o.listed o.holds)
            (omega (arith, ap (λ (b : Branch). b.depth) o.listed, depth_at v (omega arith), ap (λ (b : Branch). b.depth) q, depth_at u l)));
        says = subst (λ (b : Branch). P b.box) (sym q) z;
      }

  on_nearest : (s : ℕ) (P : Box → Type 0) → NearestOn g w s P → NearestRoot g bs i s × P (branch_at bs s).box
  on_nearest s P n =
      let o = t.each n.place n.known in
      let e : s ≡ o.place = omega (arith, n.named, o.node_in) in
      let listed : branch_at bs s ≡ branch_at w n.place = ap (branch_at bs) e ∙ o.listed in (
        record {
          known = omega (arith, o.known);
          holds = holds_same listed o.holds;
          nearer_open = λ v m h d. go listed v d (t.all v m h);
        },
        subst (λ (b : Branch). P b.box) (sym listed) n.says,
      )
    where
      go : branch_at bs s ≡ branch_at w n.place → (v : ℕ) → (branch_at bs v).depth < (branch_at bs s).depth
          → (u : ℕ) × (u < length w) × (branch_at w u ≡ branch_at bs v) → is_open g (branch_at bs v).box ≡ true
      go listed v d (u, l, q) =
          open_same g (sym q)
          (n.nearest u
          (omega (arith, ap (λ (b : Branch). b.depth) q, depth_at u l, ap (λ (b : Branch). b.depth) listed, depth_at n.place n.known)))

  -- No branch that holds the slot is settled where none on the way is.
  none_on : NoneSettled g bs i → OpenBefore g w (length w)
  none_on n u l = let o = t.each u l in open_same g (sym o.listed) (n.every_open o.place o.known (holds_same o.listed o.holds))

  on_none : OpenBefore g w (length w) → NoneSettled g bs i
  on_none all = record { every_open = λ s l h. let z = t.all s l h in open_same g (sym z.2) (all z.0 z.1) }

  because_on : (r : Reason) → Because g bs x i r → BecauseOn g w x i r
  because_on (InsideWithBranch s) z = nearest_on s z.nearest (AboveEvery g) z.above_all
  because_on (InsideByItself s) z = (record { own_slot = z.own_slot; every_open = none_on z.none_settled }, z.above_all)
  because_on (OutsideWithBranch s f m) z = nearest_on s z.nearest (BelowFirst g x f m) (record { face = z.face; by = z.by })
  because_on (OutsideByItself s f m) z =
      (record { own_slot = z.own_slot; every_open = none_on z.none_settled }, record { face = z.face; by = z.by })

  on_because : (r : Reason) → BecauseOn g w x i r → Because g bs x i r
  on_because (InsideWithBranch s) z = let q = on_nearest s (AboveEvery g) z in record { nearest = q.0; above_all = q.1 }
  on_because (InsideByItself s) z = record { own_slot = z.0.own_slot; none_settled = on_none z.0.every_open; above_all = z.1 }
  on_because (OutsideWithBranch s f m) z = let q = on_nearest s (BelowFirst g x f m) z in record { nearest = q.0; face = q.1.face; by = q.1.by }
  on_because (OutsideByItself s f m) z =
      record { own_slot = z.0.own_slot; none_settled = on_none z.0.every_open; face = z.1.face; by = z.1.by }

-- ---- what is found by comparing is what is read off the way

-- A number comes before no number and after no number that it equals.
differs_before : (at : ℕ → ℕ → ℤ) (s p q : ℕ) → before at s p q ≡ true → eqb p q ≡ false
differs_before at s p q e = ne_eqb p q (λ z. clash (rw z at e) (before_self at s q))

differs_after : (at : ℕ → ℕ → ℤ) (s p q : ℕ) → before at s q p ≡ true → eqb p q ≡ false
differs_after at s p q e = ne_eqb p q (λ z. clash (rw z at e) (before_self at s q))

pub reason_way : (e f : ℕ) (g : Region) (at : ℕ → ℕ → ℤ) (p a j : ℕ) (run : List ℕ) (b : Box) (i : ℕ) → tree_run e g.k at j run ≡ true
    → i < length run → get_or run i 0 ≡ p → length run ≤ f → reason_in f g at p a j run b ≡ reason_on g (at p) (a + i) (way f g.k at a j run b i)
unfolding reason_in reason_on tree_run
reason_way zero f g at p a j [] b i t l n few = absurd (not-suc-le-zero l)
reason_way zero f g at p a j (x ∷ xs) b i t l n few = clash t refl
reason_way (suc e) zero g at p a j run b i t l n few = absurd (omega arith)
reason_way (suc e) (suc f) g at p a j [] b i t l n few = absurd (not-suc-le-zero l)
reason_way (suc e) (suc f) g at p a j (x ∷ xs) b i t l n few =
    let w : Parts e g.k at j (x ∷ xs) = parts x xs t in
    go w
    (λ u z. reason_way e f g at p a (suc j) (lefts (x ∷ xs)) (left_of g.k at j (x ∷ xs) b) i w.left u z (omega (arith, left_length (x ∷ xs))))
    (λ u z.
    reason_way e f g at p (a + (middle (length (x ∷ xs)) + 1)) (suc j) (rights (x ∷ xs)) (right_of g.k at j (x ∷ xs) b) (i - (middle (length (x ∷ xs)) + 1))
    w.right u z (omega (arith, right_length (x ∷ xs))))
    (side (x ∷ xs) i p l n)
  where
    k : ℕ
    k = g.k

    s : ℕ
    s = axis g.k j

    run : List ℕ
    run = x ∷ xs

    m : ℕ
    m = middle (length (x ∷ xs))

    go : Parts e g.k at j run
        → (i < length (lefts run) → get_or (lefts run) i 0 ≡ p
        → reason_in f g at p a (suc j) (lefts run) (left_of k at j run b) ≡ reason_on g (at p) (a + i) (way f k at a (suc j) (lefts run) (left_of k at j run b) i))
        → (i - (m + 1) < length (rights run) → get_or (rights run) (i - (m + 1)) 0 ≡ p
        → reason_in f g at p (a + (m + 1)) (suc j) (rights run) (right_of k at j run b)
        ≡ reason_on g (at p) (a + (m + 1) + (i - (m + 1))) (way f k at (a + (m + 1)) (suc j) (rights run) (right_of k at j run b) (i - (m + 1))))
        → Side (x ∷ xs) i p → reason_in (suc f) g at p a j (x ∷ xs) b ≡ reason_on g (at p) (a + i) (way (suc f) g.k at a j (x ∷ xs) b i)
    go w left right (at_node q z) = rw (way_node f k at a j run b i q, eq-eqb p (node run) z, q)
    go w left right (on_left q u z) =
        let y : before at s p (node run) ≡ true = rw z at (w.before_node i u) in
        rw (way_left f k at a j run b i q, differs_before at s p (node run) y, y, left u z)
    go w left right (on_right q u z) =
        let y : before at s (node run) p ≡ true = rw z at (w.after_node (i - (m + 1)) u) in
        let c : a + (m + 1) + (i - (m + 1)) ≡ a + i = omega arith in
        rw (way_right f k at a j run b i q, differs_after at s p (node run) y, before_asym at s (node run) p y, right u z, c)

-- ---- the reason of a number of a shelf

pub named_more : {n m h e : ℕ} → n ≤ m → h ≤ e → (r : Reason) → Named n h r → Named m e r
named_more l k (InsideWithBranch s) z = omega arith
named_more l k (InsideByItself s) z = omega arith
named_more l k (OutsideWithBranch s f m) z = (omega (arith, z.0), omega (arith, z.1))
named_more l k (OutsideByItself s f m) z = (omega (arith, z.0), omega (arith, z.1))

-- Inside is said exactly where the point is inside.
inside_said : (g : Region) (x : ℕ → ℤ) (i : ℕ) (w : List Branch) → EachHolds g.k x w → (r : Reason) → BecauseOn g w x i r → says_inside r ≡ inside g x
unfolding inside
inside_said g x i w h (InsideWithBranch s) z = sym (above_all_inside g (h z.place z.known) z.says)
inside_said g x i w h (InsideByItself s) z = sym (each_all g.h (λ e. above g e x) z.1)
inside_said g x i w h (OutsideWithBranch s f m) z = sym (below_one_outside g (h z.place z.known) (lowest_one z.says.face))
inside_said g x i w h (OutsideByItself s f m) z =
    let face = z.1.face in
    sym (one_all_false g.h (λ e. above g e x) (f, face.known, not_true (above g f x) face.passes))

-- A test of a branch's box, by slots.
box_test : (test : Box → Bool) (bs : List Branch) (s : ℕ) → s < length bs → get_or (map test (map (λ (b : Branch). b.box) bs)) s false ≡ test (branch_at bs s).box
box_test test [] s l = absurd (not-suc-le-zero l)
box_test test (b ∷ bs) zero l = refl
box_test test (b ∷ bs) (suc s) l = box_test test bs s (le_of_suc-le-suc l)

module _ (g : Region) (at : ℕ → ℕ → ℤ) (run : List ℕ) (tree : tree_run (length run) g.k at 0 run ≡ true) where
  abbrev bs : List Branch
  bs = shelf_branches g.k at run

  many : length bs ≡ length run
  many = branches_length (length run) g.k at 0 0 run (root_box at run) (omega arith)

  -- The branch of each slot has its node there.
  pub shelf_branch_slot : (s : ℕ) → s < length bs → node_slot (branch_at bs s) ≡ s
  shelf_branch_slot s l = omega (arith, (branch_placed (length run) g.k at 0 0 run (root_box at run) s (omega (arith, many)) (omega arith)).node_in)

  module _ {p i : ℕ} (st : StandsIn run p i) where
    abbrev w : List Branch
    w = way (length run) g.k at 0 0 run (root_box at run) i

    abbrev own : Box
    own = (branch_at bs i).box

    -- "The branches from the root to the picture's slot" are all those that hold the slot.
    pub shelf_way : WayTold g.k (at p) own bs 0 i 0 w
    shelf_way =
        rw (zero-add i) at
        (way_told (length run) (length run) g.k at p 0 0 run (root_box at run) i tree (held_root g.k at run) st.known st.number (omega arith)).told

    each_holds : EachHolds g.k (at p) w
    each_holds u l = (shelf_way.each u l).point_in

    computed : reason_of g at run p ≡ reason_on g (at p) i w
    unfolding reason_of
    computed =
        rw (zero-add i) at
        (reason_way (length run) (length run) g at p 0 0 run (root_box at run) i tree st.known st.number (omega arith))

    -- "Prove that the reason given is the true one."
    pub reason_because : Because g bs (at p) i (reason_of g at run p)
    reason_because = rw computed (on_because g bs shelf_branch_slot shelf_way (reason_on g (at p) i w) (on_way_true g (at p) i w))

    pub reason_true : ReasonFor g at run p (reason_of g at run p)
    reason_true = record { slot = i; stands = st; because = reason_because }

    module _ (r : Reason) (z : Because g bs (at p) i r) where
      on : BecauseOn g w (at p) i r
      on = because_on g bs shelf_branch_slot shelf_way r z

      -- "And is the only one these rules allow."
      pub because_only : r ≡ reason_of g at run p
      because_only = on_way_only g (at p) i w each_holds r on ∙ sym computed

      -- It names a slot of the shelf, and a face of the region.
      pub because_named : Named (length run) g.h r
      because_named = go r z
        where
          own : {s : ℕ} → s ≡ i → s < length run
          own e = omega (arith, st.known)

          go : (r : Reason) → Because g bs (at p) i r → Named (length run) g.h r
          go (InsideWithBranch s) z = omega (arith, z.nearest.known, many)
          go (InsideByItself s) z = own z.own_slot
          go (OutsideWithBranch s f m) z = (omega (arith, z.nearest.known, many), z.face.known)
          go (OutsideByItself s f m) z = (own z.own_slot, z.face.known)

      -- The point lies in the box of the settled branch, so that it is below the face that the box is wholly below.
      pub because_below : SaidOf g (at p) r
      because_below = go r z
        where
          go : (r : Reason) → Because g bs (at p) i r → SaidOf g (at p) r
          go (InsideWithBranch s) z = tt
          go (InsideByItself s) z = tt
          go (OutsideWithBranch s f m) z =
              let q = shelf_way.all s z.nearest.known z.nearest.holds in
              let here = subst (λ (b : Branch). In g.k b.box (at p)) q.2 (each_holds q.0 q.1) in
              (true_not (wholly_below_point g here f z.face.passes), z.by)
          go (OutsideByItself s f m) z = (z.face.passes, z.by)

      pub because_inside : says_inside r ≡ inside g (at p)
      because_inside = inside_said g (at p) i w each_holds r on

      -- By its own test exactly where its own branch is open: where all on the way are open so is it, and where one is settled so is every box within it.
      pub because_itself : says_itself r ≡ is_open g own
      because_itself = go r z
        where
          itself : Holds (branch_at bs i) i
          itself = let q = branch_placed (length run) g.k at 0 0 run (root_box at run) i st.known (omega arith) in
              record { from = omega (arith, q.node_in); to = omega (arith, q.node_in, q.some) }

          shut : {s : ℕ} → NearestRoot g bs i s → is_open g (branch_at bs s).box ≡ false → false ≡ is_open g own
          shut {s} n e =
              let q = shelf_way.all s n.known n.holds in
              let v = (shelf_way.each q.0 q.1).own_within in
              sym (settled_nested g v (ap (λ (b : Branch). is_open g b.box) q.2 ∙ e))

          go : (r : Reason) → Because g bs (at p) i r → says_itself r ≡ is_open g own
          go (InsideWithBranch s) z = shut z.nearest (above_all_settled g (branch_at bs s).box z.above_all)
          go (InsideByItself s) z = sym (z.none_settled.every_open i (omega (arith, many, st.known)) itself)
          go (OutsideWithBranch s f m) z = shut z.nearest (below_one_settled g (branch_at bs s).box (lowest_one z.face))
          go (OutsideByItself s f m) z = sym (z.none_settled.every_open i (omega (arith, many, st.known)) itself)

      -- The own branch is open exactly where the slot is one of the visits.
      pub because_visited : says_itself r ≡ get_or (open_slots g at run) i false
      unfolding open_slots
      because_visited =
          because_itself
          ∙ sym (box_test (is_open g) bs i (omega (arith, many, st.known)))
          ∙ ap (λ (boxes : List Box). get_or (map (is_open g) boxes) i false) (shelf_branches_boxes g.k at run)

-- A number that is counted in a run stands in a slot of it.
count_stands : (p : ℕ) (run : List ℕ) → 1 ≤ count (eqb p) run → InRun run p
unfolding count
count_stands p [] l = absurd (not-suc-le-zero l)
count_stands p (x ∷ xs) l = go (eqb p x) refl l (count_stands p xs)
  where
    go : (t : Bool) → eqb p x ≡ t → 1 ≤ bit t + count (eqb p) xs → (1 ≤ count (eqb p) xs → InRun xs p) → InRun (x ∷ xs) p
    go true e l ih = (0, record { known = omega arith; number = sym (eqb-true p x e) })
    go false e l ih = let w = ih (omega arith) in (suc w.0, record { known = omega (arith, w.1.known); number = w.1.number })

-- Said of a tree of the numbers that belong.
module _ (g : Region) (at : ℕ → ℕ → ℤ) (belongs : ℕ → Bool) (m : ℕ) (run : List ℕ) (shelf : is_tree g.k at belongs m run ≡ true) where
  pub tree_run_lem : tree_run (length run) g.k at 0 run ≡ true
  unfolding is_tree
  tree_run_lem = (and_true (each_once belongs m run) shelf).1

  pub number_stands : (p : ℕ) → p < m → belongs p ≡ true → InRun run p
  unfolding is_tree
  number_stands p l e = count_stands p run (omega (arith, (each_once_lem belongs m (and_true (each_once belongs m run) shelf).0).once p l e))
