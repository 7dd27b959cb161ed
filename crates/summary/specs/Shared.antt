-- The shares as a value: what its slots and its places say, and that the summary of a share is that of the branch.
use Rattle.std.specs.Prelude.{◌≡◌, Bool, List, ℕ, ℤ}
use Rattle.terms.specs.Points.{coord}
use Rattle.terms.specs.Run.{lefts, rights}
use Rattle.terms.specs.Summary.{summary, is_summary}
use Rattle.descent.specs.declared.slots.Slots.{Slots}
use Rattle.summary.specs.declared.shares.Shares.{Shares}
use Rattle.summary.specs.Shares.{own_from, own_to}

-- Slots with these numbers, over the same points.
pub record PartOf (n : Slots) (order : List ℕ) (part : Slots) : Type 0 where
  pub same_k : part.k ≡ n.k
  pub same_points : part.points.now ≡ n.points.now
  pub order_is : part.order.now ≡ order

-- Both branches' slots, and the places of the node's own numbers.
pub record SharedOut (n : Slots) (s : Shares) : Type 0 where
  pub left : PartOf n (lefts n.order.now) s.lefts
  pub right : PartOf n (rights n.order.now) s.rights
  pub from_is : s.from ≡ own_from n.k n.order.now
  pub to_is : s.to ≡ own_to n.k n.order.now

module _ {n : Slots} {order : List ℕ} {part : Slots} (p : PartOf n order part) where
  -- A list that is the summary of the part,
  pub part_filled : {S : List ℤ} → S ≡ summary part.k (coord part.k part.points.now) part.order.now → S ≡ summary n.k (coord n.k n.points.now) order
  part_filled e = rw (p.same_k, p.same_points, p.order_is) at e

  -- and the answer whether one is.
  pub part_told : {answer : Bool} (S : List ℤ) → answer ≡ is_summary part.k (coord part.k part.points.now) part.order.now S
      → answer ≡ is_summary n.k (coord n.k n.points.now) order S
  part_told S e = rw (p.same_k, p.same_points, p.order_is) at e
