-- The way to a slot: the branches from the run's own down to the one whose node stands in the slot. They are all the branches that hold the slot, by depth; each
-- holds the point of the slot's number, and the slot's own box lies within each.
use Rattle.std.specs.Prelude.{◌≡◌, refl, true, List, [], ◌∷◌, ℕ, zero, suc, ◌+◌, ◌-◌, ◌≤◌, ◌<◌, length, get_or, ℤ}
use Rattle.std.proofs.Common.{sym, ap, ◌∙◌, not-suc-le-zero, le_of_suc-le-suc, arith}
use Rattle.std.proofs.Math.Decide.{dec_lt}
use borrow.Author.Tests.{eq-eqb, ne_eqb, lt-ltb, le-ltb}
use Rattle.terms.specs.Run.{middle, axis, node, lefts, rights}
use Rattle.terms.specs.Tree.{tree_run}
use Rattle.terms.specs.Box.{Box}
use Rattle.terms.specs.Branches.{Branch, Holds, branches, branch_at}
use Rattle.theory.specs.Flags.{clash}
use Rattle.theory.specs.RunParts.{Parts, parts, left_length, right_length}
use Rattle.theory.specs.RunSides.{Side, side, at_node, on_left, on_right}
use Rattle.theory.specs.Boxes.{In, Nested, Held, nested_self, nested_trans}
use Rattle.theory.specs.BoxLaws.{left_nested, right_nested, held_node}
use Rattle.theory.proofs.BoxLaws.{held_left, held_right}
use Rattle.theory.specs.BranchesOfARun.{
  left_of,
  right_of,
  left_branches,
  right_branches,
  own_branch,
  branches_length,
  branch_node,
  branch_left,
  branch_right,
  Placed,
  branch_placed,
}
use Rattle.theory.specs.Way.{way, OnWay, WayTold, WayIn}

-- The way by side.
module _ (f k : ℕ) (at : ℕ → ℕ → ℤ) (a j : ℕ) (run : List ℕ) (b : Box) (i : ℕ) where
  pub way_node : i ≡ middle (length run) → way (suc f) k at a j run b i ≡ own_branch a j run b ∷ []
  unfolding way
  way_node e = rw (eq-eqb i (middle (length run)) e)

  pub way_left : i < middle (length run)
      → way (suc f) k at a j run b i ≡ own_branch a j run b ∷ way f k at a (suc j) (lefts run) (left_of k at j run b) i
  unfolding way
  way_left l = rw (ne_eqb i (middle (length run)) (λ e. absurd (omega arith)), lt-ltb i (middle (length run)) l)

  pub way_right : middle (length run) < i
      → way (suc f) k at a j run b i
      ≡ own_branch a j run b ∷ way f k at (a + (middle (length run) + 1)) (suc j) (rights run) (right_of k at j run b) (i - (middle (length run) + 1))
  unfolding way
  way_right l = rw (ne_eqb i (middle (length run)) (λ e. absurd (omega arith)), le-ltb i (middle (length run)) (omega arith))

-- A branch's box lies where that of an equal one does.
box_within : {k : ℕ} {b c : Branch} {top : Box} → b ≡ c → Nested k c.box top → Nested k b.box top
box_within e n = rw e n

-- The way to place i of a run that is a tree in box b, one step after the other.
module _ (f k : ℕ) (at : ℕ → ℕ → ℤ) (p a j : ℕ) (run : List ℕ) (b : Box) (i : ℕ) (l : i < length run) (few : length run ≤ suc f)
    (here : In k b (at p)) where
  abbrev bs : List Branch
  bs = branches (suc f) k at a j run b

  abbrev m : ℕ
  m = middle (length run)

  abbrev own : Box
  own = (branch_at bs i).box

  some : 0 < length run
  some = omega arith

  many : length bs ≡ length run
  many = branches_length (suc f) k at a j run b few

  placed : (s : ℕ) → s < length bs → Placed a (length run) s (branch_at bs s)
  placed s n = branch_placed (suc f) k at a j run b s (omega (arith, many)) few

  -- The first branch of the way is the run's own.
  first : Nested k own b → OnWay k (at p) own bs a (a + i) j 0 (own_branch a j run b)
  first w = record {
    place = m;
    known = omega (arith, many);
    listed = branch_node f k at a j run b some few m refl;
    node_in = refl;
    deep = omega arith;
    holds = record { from = omega arith; to = omega arith };
    point_in = here;
    own_within = w;
  }

  -- The branches of the left branch end before the node's slot, those of the right one start after it.
  left_ends : (s : ℕ) → s < m → (branch_at bs s).start + (branch_at bs s).size ≤ a + m
  left_ends s n =
      let u : s < length (lefts run) = omega (arith, left_length run) in
      rw (branch_left f k at a j run b some few s n)
      (omega (arith, (branch_placed f k at a (suc j) (lefts run) (left_of k at j run b) s u (omega (arith, left_length run))).to, left_length run))

  right_starts : (s : ℕ) → s < length bs → m < s → a + (m + 1) ≤ (branch_at bs s).start
  right_starts s u n =
      let v : s - (m + 1) < length (rights run) = omega (arith, right_length run, many) in
      rw (branch_right f k at a j run b some few s n)
      (branch_placed f k at (a + (m + 1)) (suc j) (rights run) (right_of k at j run b) (s - (m + 1)) v (omega (arith, right_length run))).from

  -- The way that starts with the run's own branch and goes on with these.
  module _ (rest : List Branch) where
    abbrev Found : ℕ → Type 0
    Found s = (t : ℕ) × (t < length (own_branch a j run b ∷ rest)) × (branch_at (own_branch a j run b ∷ rest) t ≡ branch_at bs s)

    -- Every branch that holds the slot is found where those before and after the node's slot are.
    found : ((s : ℕ) → s < m → Holds (branch_at bs s) (a + i) → Found s) → ((s : ℕ) → s < length bs → m < s → Holds (branch_at bs s) (a + i) → Found s)
        → (s : ℕ) → s < length bs → Holds (branch_at bs s) (a + i) → Found s
    found left right s n h = go (dec_lt s m) (dec_lt m s)
      where
        go : Dec (s < m) → Dec (m < s) → Found s
        go (yes u) d = left s u h
        go (no u) (yes v) = right s n v h
        go (no u) (no v) = (0, omega arith, sym (branch_node f k at a j run b some few s (omega arith)))

    told : Nested k own b → ((t : ℕ) → t < length rest → OnWay k (at p) own bs a (a + i) j (suc t) (branch_at rest t))
        → ((s : ℕ) → s < m → Holds (branch_at bs s) (a + i) → Found s) → ((s : ℕ) → s < length bs → m < s → Holds (branch_at bs s) (a + i) → Found s)
        → WayTold k (at p) own bs a (a + i) j (own_branch a j run b ∷ rest)
    told w each left right = record { each = step; all = found left right }
      where
        step : (t : ℕ) → t < length (own_branch a j run b ∷ rest) → OnWay k (at p) own bs a (a + i) j t (branch_at (own_branch a j run b ∷ rest) t)
        step zero n = first w
        step (suc t) n = each t (le_of_suc-le-suc n)

    -- The first is found one place later in the longer way.
    later : (s : ℕ) {c : Branch} → branch_at bs s ≡ c → (t : ℕ) × (t < length rest) × (branch_at rest t ≡ c) → Found s
    later s e (t, n, q) = (suc t, omega arith, q ∙ sym e)

  told_node : i ≡ m → WayTold k (at p) own bs a (a + i) j (own_branch a j run b ∷ [])
  told_node e = told []
      (box_within (branch_node f k at a j run b some few i e) (nested_self k b))
      (λ t n. absurd (not-suc-le-zero n))
      (λ s n h. absurd (omega (arith, left_ends s n, h.to)))
      (λ s u n h. absurd (omega (arith, right_starts s u n, h.from)))

  told_left : (n : i < m) (rest : List Branch) → Nested k (branch_at (left_branches f k at a j run b) i).box b
      → WayTold k (at p) (branch_at (left_branches f k at a j run b) i).box (left_branches f k at a j run b) a (a + i) (suc j) rest
      → WayTold k (at p) own bs a (a + i) j (own_branch a j run b ∷ rest)
  told_left n rest w ih = told rest (box_within (at_left i n) w) each (λ s u h. later rest s (at_left s u) (ih.all s (omega (arith, size)) (rw (at_left s u) at h)))
      (λ s u v h. absurd (omega (arith, right_starts s u v, h.from)))
    where
      at_left : (s : ℕ) → s < m → branch_at bs s ≡ branch_at (left_branches f k at a j run b) s
      at_left = branch_left f k at a j run b some few

      size : length (left_branches f k at a j run b) ≡ m
      size = branches_length f k at a (suc j) (lefts run) (left_of k at j run b) (omega (arith, left_length run)) ∙ left_length run

      each : (t : ℕ) → t < length rest → OnWay k (at p) own bs a (a + i) j (suc t) (branch_at rest t)
      each t u =
          let o = ih.each t u in
          record {
            place = o.place;
            known = omega (arith, o.known, size, many);
            listed = at_left o.place (omega (arith, o.known, size)) ∙ o.listed;
            node_in = o.node_in;
            deep = omega (arith, o.deep);
            holds = o.holds;
            point_in = o.point_in;
            own_within = box_within (at_left i n) o.own_within;
          }

  told_right : (n : m < i) (rest : List Branch) → Nested k (branch_at (right_branches f k at a j run b) (i - (m + 1))).box b
      → WayTold k (at p) (branch_at (right_branches f k at a j run b) (i - (m + 1))).box (right_branches f k at a j run b) (a + (m + 1)) (a + i) (suc j) rest
      → WayTold k (at p) own bs a (a + i) j (own_branch a j run b ∷ rest)
  told_right n rest w ih = told rest (box_within (at_right i n) w) each (λ s u h. absurd (omega (arith, left_ends s u, h.to)))
      (λ s u v h. later rest s (at_right s v) (ih.all (s - (m + 1)) (omega (arith, size, many)) (rw (at_right s v) at h)))
    where
      at_right : (s : ℕ) → m < s → branch_at bs s ≡ branch_at (right_branches f k at a j run b) (s - (m + 1))
      at_right = branch_right f k at a j run b some few

      size : length (right_branches f k at a j run b) ≡ length run - (m + 1)
      size = branches_length f k at (a + (m + 1)) (suc j) (rights run) (right_of k at j run b) (omega (arith, right_length run)) ∙ right_length run

      each : (t : ℕ) → t < length rest → OnWay k (at p) own bs a (a + i) j (suc t) (branch_at rest t)
      each t u =
          let o = ih.each t u in
          let e : m + 1 + o.place - (m + 1) ≡ o.place = omega arith in
          record {
            place = m + 1 + o.place;
            known = omega (arith, o.known, size, many);
            listed = at_right (m + 1 + o.place) (omega arith) ∙ ap (branch_at (right_branches f k at a j run b)) e ∙ o.listed;
            node_in = omega (arith, o.node_in);
            deep = omega (arith, o.deep);
            holds = o.holds;
            point_in = o.point_in;
            own_within = box_within (at_right i n) o.own_within;
          }

pub way_told : (e f k : ℕ) (at : ℕ → ℕ → ℤ) (p a j : ℕ) (run : List ℕ) (b : Box) (i : ℕ) → tree_run e k at j run ≡ true → Held k at b run
    → i < length run → get_or run i 0 ≡ p → length run ≤ f
    → WayIn k (at p) (branch_at (branches f k at a j run b) i).box b (branches f k at a j run b) a (a + i) j (way f k at a j run b i)
unfolding tree_run
way_told zero f k at p a j [] b i t v l n few = absurd (not-suc-le-zero l)
way_told zero f k at p a j (x ∷ xs) b i t v l n few = clash t refl
way_told (suc e) zero k at p a j run b i t v l n few = absurd (omega arith)
way_told (suc e) (suc f) k at p a j [] b i t v l n few = absurd (not-suc-le-zero l)
way_told (suc e) (suc f) k at p a j (x ∷ xs) b i t v l n few =
    let w : Parts e k at j (x ∷ xs) = parts x xs t in
    go
    (λ u z. way_told e f k at p a (suc j) (lefts (x ∷ xs)) (left_of k at j (x ∷ xs) b) i w.left (held_left w v) u z (omega (arith, left_length (x ∷ xs))))
    (λ u z.
    way_told e f k at p (a + (middle (length (x ∷ xs)) + 1)) (suc j) (rights (x ∷ xs)) (right_of k at j (x ∷ xs) b) (i - (middle (length (x ∷ xs)) + 1)) w.right
    (held_right w v) u z (omega (arith, right_length (x ∷ xs))))
    (side (x ∷ xs) i p l n)
  where
    run : List ℕ
    run = x ∷ xs

    mid : ℕ
    mid = middle (length (x ∷ xs))

    here : In k b (at p)
    here = rw n at (v.each i l)

    node_here : In k b (at (node (x ∷ xs)))
    node_here = held_node v (omega arith)

    Goal : Type 0
    Goal = WayIn k (at p) (branch_at (branches (suc f) k at a j (x ∷ xs) b) i).box b (branches (suc f) k at a j (x ∷ xs) b) a (a + i) j (way (suc f) k at a j (x ∷ xs) b i)

    go : (i < length (lefts run) → get_or (lefts run) i 0 ≡ p
        → WayIn k (at p) (branch_at (left_branches f k at a j run b) i).box (left_of k at j run b) (left_branches f k at a j run b) a (a + i) (suc j)
        (way f k at a (suc j) (lefts run) (left_of k at j run b) i))
        → (i - (mid + 1) < length (rights run) → get_or (rights run) (i - (mid + 1)) 0 ≡ p
        → WayIn k (at p) (branch_at (right_branches f k at a j run b) (i - (mid + 1))).box (right_of k at j run b) (right_branches f k at a j run b) (a + (mid + 1))
        (a + (mid + 1) + (i - (mid + 1))) (suc j) (way f k at (a + (mid + 1)) (suc j) (rights run) (right_of k at j run b) (i - (mid + 1))))
        → Side (x ∷ xs) i p → Goal
    go left right (at_node q z) =
        rw (way_node f k at a j run b i q)
        (record {
          told = told_node f k at p a j run b i l few here q;
          within = box_within (branch_node f k at a j run b (omega arith) few i q) (nested_self k b);
        })
    go left right (on_left q u z) =
        let ih = left u z in
        let inner = nested_trans ih.within (left_nested node_here (axis k j)) in
        rw (way_left f k at a j run b i q)
        (record {
          told = told_left f k at p a j run b i l few here q _ inner ih.told;
          within = box_within (branch_left f k at a j run b (omega arith) few i q) inner;
        })
    go left right (on_right q u z) =
        let ih = right u z in
        let c : a + (mid + 1) + (i - (mid + 1)) ≡ a + i = omega arith in
        let inner = nested_trans ih.within (right_nested node_here (axis k j)) in
        rw (way_right f k at a j run b i q)
        (record {
          told = told_right f k at p a j run b i l few here q _ inner (rw c at ih.told);
          within = box_within (branch_right f k at a j run b (omega arith) few i q) inner;
        })
