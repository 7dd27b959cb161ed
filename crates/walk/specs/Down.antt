-- A walk from a root, by branches of any kind: what it leaves is said of the faces that were lent, and not of the table that was made of them.
use Rattle.std.specs.Prelude.{◌≡◌, Bool, List, ℕ, ◌+◌, length, ℤ}
use Rattle.std.proofs.Common.{ap, subst, ◌∙◌}
use Rattle.std.proofs.Math.Seq.{take-length}
use Rattle.terms.specs.Tests.{count}
use Rattle.terms.specs.Points.{coord}
use Rattle.terms.specs.Box.{Box}
use Rattle.terms.specs.Region.{Region}
use Rattle.region.specs.declared.tested.TestedFaces.{TestedFaces}
use Rattle.region.specs.declared.table.Table.{Table}
use Rattle.region.specs.Table.{inside_tabled, open_tabled}
use Rattle.region.specs.Told.{region_of, told, TableOf, told_is}
use Rattle.list_buffer.specs.Listed.{Listed}
use Rattle.descent.specs.Slots.{run_of}
use Rattle.walk.specs.declared.Tally.{Tally}
use Rattle.descent.specs.declared.slots.Slots.{Slots}
use Rattle.walk.specs.Walked.{Walked}

-- The walk of all slots, which have these boxes.
abbrev pub WalkedDown : Region → Slots → List Box → List ℕ → List ℕ → Tally → Type 0
WalkedDown g n slot_boxes list after tally = Walked g (coord n.k n.points.now) n.order.now slot_boxes list after 0 0 0 tally.inside tally.visits

-- What is walked by the table of the faces is walked by the faces.
pub walked_by_faces : {f : TestedFaces} {t : Table} → TableOf f t → {at : ℕ → ℕ → ℤ} {run : List ℕ} {slot_boxes : List Box} {list after : List ℕ} {d i u j v : ℕ}
    → Walked (told t) at run slot_boxes list after d i u j v → Walked (region_of f) at run slot_boxes list after d i u j v
walked_by_faces {f} made {at} {run} {slot_boxes} {list} {after} {d} {i} {u} {j} w =
    let v = rw (told_is made) at w in
    record {
      listed = subst (λ (test : (ℕ → ℤ) → Bool). Listed (λ p. test (at p)) run list after d i j) (inside_tabled f.offsets.now f.marks.now made.rows) v.listed;
      visits = v.visits ∙ ap (λ (test : Box → Bool). u + count test slot_boxes) (open_tabled f.offsets.now f.marks.now made.rows);
    }

-- The slots from 0 on, as many as there are, are all slots.
pub walked_all : {g : Region} {at : ℕ → ℕ → ℤ} {order : List ℕ} {a c : ℕ} {slot_boxes : List Box} {list after : List ℕ} {i u j v : ℕ} → a ≡ 0 → c ≡ length order
    → Walked g at (run_of order a c) slot_boxes list after a i u j v → Walked g at order slot_boxes list after 0 i u j v
walked_all {order = order} starts slots w = rw (starts, slots, take-length order) at w
