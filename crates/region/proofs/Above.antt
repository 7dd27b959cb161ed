-- What the test of a point's margin to a face of the table tells.
use Rattle.std.specs.Prelude.{◌≡◌, refl, Bool, ℕ, ◌<◌, eqb, get_or, ℤ}
use lib.Signed.{mag}
use mir.Syntax.{w64}
use mir.Val.{to_z, of_z}
use mathlib.Core.Path.{◌∙◌}
use Rattle.terms.specs.Region.{Region, reach, above}
use Rattle.terms.specs.Margin.{margin}
use Rattle.theory.specs.Margins.{above_by}
use Rattle.region.specs.Above.{margin_above}
use Rattle.region.specs.Told.{told}
use Rattle.region.specs.declared.table.Table.{Table}
use Rattle.region.proofs.Signed.{back64}

-- The answer of `above` to a margin that `face_margin` gave is whether the point is above the face.
pub above_told : (t : Table) (i : ℕ) (x : ℕ → ℤ) {m : ℤ} {answer : Bool} → mag m < 9223372036854775808 → m ≡ margin (told t) i x
    → ((g : Region) → g.marked_open i ≡ eqb (get_or t.marks.now i 0) 1 → answer ≡ above_by g i (to_z w64 (of_z w64 m))) → answer ≡ above (told t) i x
above_told t i x fits e says = margin_above (told t) i (reach (told t) i x) (says (told t) refl) (back64 fits ∙ e)
