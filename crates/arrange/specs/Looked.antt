-- A branch that the checker looks at within bounds: what its functions answer, read off the values that they have of both.
use Rattle.std.specs.Prelude.{◌≡◌, refl, Bool, true, ◌&&◌, ℕ, ◌+◌, ◌<◌, take, drop, length, get_or, set}
use Rattle.std.proofs.Common.{arith}
use Rattle.terms.specs.Points.{below}
use Rattle.terms.specs.Run.{middle, axis, node, rights}
use Rattle.theory.specs.TreeDepth.{next_depth}
use Rattle.arrange.specs.declared.check.Bounds.{Bounds}
use Rattle.arrange.specs.declared.check.Branch.{Branch}
use Rattle.arrange.specs.Key.{key_of}
use Rattle.arrange.specs.Allowed.{each_of_three, allowed}
use Rattle.arrange.specs.Checked.{number_allowed, three_allowed, branch_allowed, RunKnown, Descends, stock_known, on_branches}

-- The number in slot i is allowed.
abbrev pub slot_allowed : Branch → Bounds → ℕ → Bool
slot_allowed b w i = number_allowed b.stock.now.k b.stock.now.n b.stock.now.points.now w.least w.end (get_or b.order.now i 0)

-- The same of three slots.
abbrev pub slots_allowed : Branch → Bounds → ℕ → ℕ → ℕ → Bool
slots_allowed b w i j h =
    three_allowed
    b.stock.now.k b.stock.now.n b.stock.now.points.now w.least w.end (get_or b.order.now i 0) (get_or b.order.now j 0) (get_or b.order.now h 0)

-- Every number of the run is allowed, and the run is a branch whose node splits on its dimension.
abbrev pub is_answer : Branch → Bounds → Bool
is_answer b w = branch_allowed b.stock.now.k b.stock.now.n b.stock.now.points.now w.least w.end b.s b.order.now

-- r is the left branch of b's node in slot h.
pub record LeftOf (b : Branch) (h : ℕ) (r : Branch) : Type 0 where
  pub stock : r.stock.now ≡ b.stock.now
  pub run : r.order.now ≡ take h b.order.now
  pub next : r.s ≡ axis b.stock.now.k (b.s + 1)

-- r is its right branch.
pub record RightOf (b : Branch) (h : ℕ) (r : Branch) : Type 0 where
  pub stock : r.stock.now ≡ b.stock.now
  pub run : r.order.now ≡ drop (h + 1) b.order.now
  pub next : r.s ≡ axis b.stock.now.k (b.s + 1)

-- The numbers of its run are known, and the descent may go through it.
abbrev pub looked_known : (b : Branch) → RunKnown b.stock.now.k b.stock.now.n b.stock.now.points.now b.order.now
looked_known b = stock_known b.tested b.order.now b.none_dead

module _ (b : Branch) (w : Bounds) where
  pub looked_descends : length w.least ≡ 4 → length w.end ≡ 4
      → Descends b.stock.now.k b.stock.now.n b.stock.now.points.now b.s w.least w.end b.order.now
  looked_descends l e =
      let few = b.tested.few in
      record { known = looked_known b; dimension = b.dimension; least_size = omega arith; end_size = omega arith }

  -- A slot that is allowed holds a number below n.
  pub slot_below : (i : ℕ) → slot_allowed b w i ≡ true → below b.stock.now.n (get_or b.order.now i 0) ≡ true
  slot_below i e = (allowed b.stock.now.k (below b.stock.now.n) (key_of b.stock.now.k b.stock.now.points.now) w.least w.end (get_or b.order.now i 0) e).belonging

  -- Three slots that are allowed hold three numbers below n.
  pub slots_below : (i j h : ℕ) → slots_allowed b w i j h ≡ true
      → (below b.stock.now.n (get_or b.order.now i 0) ≡ true)
      × (below b.stock.now.n (get_or b.order.now j 0) ≡ true)
      × (below b.stock.now.n (get_or b.order.now h 0) ≡ true)
  slots_below i j h e =
      let each = each_of_three (number_allowed b.stock.now.k b.stock.now.n b.stock.now.points.now w.least w.end) _ _ _ e in
      (slot_below i each.first, slot_below j each.second, slot_below h each.third)

  -- What is asked of the right branch of its node, whose key is x.
  abbrev pub right_answer : ℕ → Bool
  right_answer x =
      branch_allowed
      b.stock.now.k b.stock.now.n b.stock.now.points.now (set w.least b.s (x + 1)) w.end (axis b.stock.now.k (b.s + 1)) (rights b.order.now)

  -- The answer by the two branches of a node that is allowed, with key x: the left one's bounds end at it, and the right one's start right after.
  pub answer_by_left : (l : Branch) (before : Bounds) (x : ℕ) → length w.least ≡ 4 → length w.end ≡ 4
      → 0 < length b.order.now → slot_allowed b w (middle (length b.order.now)) ≡ true
      → x ≡ key_of b.stock.now.k b.stock.now.points.now b.s (node b.order.now)
      → before.least ≡ w.least → before.end ≡ set w.end b.s x → LeftOf b (middle (length b.order.now)) l
      → is_answer b w ≡ is_answer l before && right_answer x
  answer_by_left l before x m n some allowed key least end of =
      let next : ℕ = axis b.stock.now.k (b.s + 1) in
      rw (of.stock, of.run, of.next, least, end, key) (on_branches (looked_descends m n) next some (next_depth b.stock.now.k b.s next refl) allowed)

  pub answer_of_right : (r : Branch) (after : Bounds) (x : ℕ)
      → after.least ≡ set w.least b.s (x + 1) → after.end ≡ w.end → RightOf b (middle (length b.order.now)) r
      → is_answer r after ≡ right_answer x
  answer_of_right r after x least end of = rw (of.stock, of.run, of.next, least, end)
