-- No slot of a settled branch is open: the boxes of its slots lie within its own.
use Rattle.std.specs.Prelude.{◌≡◌, false, List, ℕ, ℤ}
use Rattle.terms.specs.Tests.{count}
use Rattle.terms.specs.Points.{coord}
use Rattle.terms.specs.Box.{Box}
use Rattle.terms.specs.Region.{Region, is_open}
use Rattle.theory.proofs.Nesting.{settled_none_open}
use Rattle.descent.specs.Slots.{run_of}
use Rattle.descent.specs.Standing.{Standing}
use Rattle.descent.specs.Boxed.{Boxed}
use Rattle.descent.specs.SlotBoxes.{slot_boxes}

pub settled_slots : (g : Region) {points : List ℤ} {order : List ℕ} {a c s : ℕ} {b : Box} → Standing g.k points order a c s
    → Boxed g.k (coord g.k points) order a c b → is_open g b ≡ false
    → count (is_open g) (slot_boxes g.k (coord g.k points) order a c s b) ≡ 0
settled_slots g {points} {order} {a} {c} {s} {b} w v shut =
    settled_none_open w.fuel c g (coord g.k points) s (run_of order a c) b w.tree v.held shut
