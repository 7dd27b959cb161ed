-- The two comparisons are those of the value's fraction with -128 and 128; of what is not finite one of them says no.
use mathlib.Core.Path.{◌≡◌, refl}
use mathlib.Core.Bool.{Bool, true, false, not, ◌&&◌}
use lib.Ieee.{of_bits, neg}
use Rattle.reading.specs.InRange.{tested, lt_of_none, none_of_le, infinite_of_le, lt_of_infinite, compared}
use Rattle.reading.proofs.value.in_range.Goals as goal

pub returns : goal.returns
unfolding of_bits neg
returns c =
    let v = c.args.value in
    tested
    v
    _
    (λ e. rw (e, lt_of_none, none_of_le) refl)
    (λ s e. rw (e, infinite_of_le, lt_of_infinite) (elim s as (λ (t : Bool). not t && t ≡ false) [ true ↦ refl | false ↦ refl ]))
    (compared v)
