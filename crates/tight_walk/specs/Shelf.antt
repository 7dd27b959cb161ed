-- The walk of a whole shelf by its summary: what its root's walk does is what the words say of the shelf, and how that stands to the walk by branch boxes.
use Rattle.std.specs.Prelude.{◌≡◌, refl, Bool, true, List, ℕ, ◌-◌, ◌≤◌, length, ℤ}
use Rattle.std.proofs.Common.{sym, ap, subst, ◌∙◌, arith}
use Rattle.std.proofs.Math.Seq.{take-length}
use Rattle.std.proofs.Math.Decide.{dec_lt}
use Rattle.terms.specs.Tests.{count}
use Rattle.terms.specs.Lent.{faces_of}
use Rattle.terms.specs.Points.{coord}
use Rattle.terms.specs.Tree.{tree_run}
use Rattle.terms.specs.Box.{Box, box_of}
use Rattle.terms.specs.TightBox.{tight_boxes, shelf_tight_boxes}
use Rattle.terms.specs.Summary.{summary}
use Rattle.terms.specs.Region.{Region, region, inside}
use Rattle.terms.specs.Visits.{tight_visits}
use Rattle.theory.specs.Boxes.{Held}
use Rattle.theory.specs.TightVisits.{tight_visits_count, tight_visits_le_slots}
use Rattle.theory.proofs.TightVisits.{tight_visits_le}
use Rattle.theory.specs.InsideAndOutside.{lists_length}
use Rattle.region.specs.Table.{Tabled, tabled, inside_tabled, open_tabled}
use Rattle.list_buffer.specs.Listed.{AllListed, listed_all}
use Rattle.descent.specs.declared.runs.Run.{Run}
use Rattle.descent.specs.Slots.{run_of, run_length}
use Rattle.walk.specs.declared.Tally.{Tally}
use Rattle.descent.specs.declared.slots.Slots.{Slots}
use Rattle.walk.specs.Down.{WalkedDown}
use Rattle.walk.specs.Shelf.{ShelfWalked, AtMost}
use Rattle.summary.specs.Stored.{stored_all}
use Rattle.tight_walk.specs.TightBoxes.{tights, Summarised, BoxRead, read_held}
use Rattle.tight_walk.specs.Laws.{GoesByTightBox}

-- All slots are summarised.
pub all_summarised : (n : Slots) {S : List ℤ} → length n.order.now ≤ 65535 → S ≡ summary n.k (coord n.k n.points.now) n.order.now
    → Summarised n.k n.points.now n.order.now S 0 (length n.order.now)
all_summarised n {S} many same = record {
  many = many;
  fits = omega arith;
  known = n.known;
  stored = rw (take-length n.order.now) (stored_all n.k S (tight_boxes (length n.order.now) (coord n.k n.points.now) n.order.now) same);
}

-- The root is a branch in the box that was read for it; where there is no slot, any box holds it.
pub root_goes : (n : Slots) {S : List ℤ} {r : Run} {around : Box} → length n.order.now ≤ 65535 → S ≡ summary n.k (coord n.k n.points.now) n.order.now
    → r.start ≡ 0 → r.length ≡ length n.order.now → BoxRead n.k S 0 (length n.order.now) around (box_of r.rows) → GoesByTightBox S n r
root_goes n {S} {r} many same starts slots read = record {
  summarised = rw (starts, slots) (all_summarised n many same);
  around = box_of r.rows;
  held = rw (starts, slots) held;
  read = rw (starts, slots) (record { read = read.read; none = λ e. refl });
}
  where
    held : Held n.k (coord n.k n.points.now) (box_of r.rows) (run_of n.order.now 0 (length n.order.now))
    held = elim (dec_lt 0 (length n.order.now)) [
      | yes some ↦ read_held (all_summarised n many same) some (read.read some)
      | no m ↦ record { each = λ i l. absurd (omega (arith, run_length n.order.now 0 (length n.order.now) (omega arith))) }
    ]

-- What the walk of a shelf by its summary leaves in the list and answers.
pub record TightlyWalked (g : Region) (at : ℕ → ℕ → ℤ) (order after : List ℕ) (i u : ℕ) : Type 0 where
  pub listed : AllListed (λ p. inside g (at p)) order after i
  pub visited : u ≡ tight_visits g at order

-- The root's walk is the walk of the shelf.
pub shelf_walked : {g : Region} (n : Slots) {list after : List ℕ} {tally : Tally} → length list ≡ length n.order.now
    → WalkedDown g n (tights (coord n.k n.points.now) n.order.now 0 (length n.order.now)) list after tally
    → TightlyWalked g (coord n.k n.points.now) n.order.now after tally.inside tally.visits
shelf_walked {g} n size w =
    let v = rw (take-length n.order.now) at w.visits in
    record { listed = listed_all size w.listed; visited = omega (arith, v, tight_visits_count g (coord n.k n.points.now) n.order.now) }

-- What it does by the table of the faces is what it does by the faces.
pub walked_by_faces : {k : ℕ} {normals table : List ℤ} (offsets : List ℤ) (marks : List ℕ) {at : ℕ → ℕ → ℤ} {order after : List ℕ} {i u : ℕ}
    → Tabled k normals (length offsets) table → TightlyWalked (tabled k (faces_of table offsets marks)) at order after i u
    → TightlyWalked (region k (faces_of normals offsets marks)) at order after i u
walked_by_faces offsets marks {at} {order} {after} {i} t w = record {
  listed = subst (λ (test : (ℕ → ℤ) → Bool). AllListed (λ p. test (at p)) order after i) (inside_tabled offsets marks t) w.listed;
  visited =
      w.visited
      ∙ tight_visits_count _ at order
      ∙ ap (λ (test : Box → Bool). count test (shelf_tight_boxes at order)) (open_tabled offsets marks t)
      ∙ sym (tight_visits_count _ at order);
}

module _ {g : Region} {at : ℕ → ℕ → ℤ} {order after : List ℕ} {i u : ℕ} (w : TightlyWalked g at order after i u) where
  -- No count of the walk is over the number of slots.
  pub counts_at_most : AtMost (length order) i (length order - i) u
  counts_at_most =
      let both = lists_length g at order in
      record {
        inside = omega (arith, w.listed.inside);
        outside = omega arith;
        visited = omega (arith, w.visited, tight_visits_le_slots g at order);
      }

  -- "Its lists equal the first's; its visits .. are proved never to be more than the first's."
  module _ {first : List ℕ} {j v : ℕ} (s : ShelfWalked g at order first j v) where
    pub same_list : after ≡ first
    same_list = w.listed.list ∙ sym s.listed.list

    pub same_inside : i ≡ j
    same_inside = w.listed.inside ∙ sym s.listed.inside

    pub no_more_visits : tree_run (length order) g.k at 0 order ≡ true → u ≤ v
    no_more_visits tree = omega (arith, w.visited, s.visited, tight_visits_le g at order tree)
