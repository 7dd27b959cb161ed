-- The two rows' first k coordinates, one row after the other.
use Rattle.std.proofs.Common.{◌≡◌, List, ◌++◌, [], ◌-◌, ap, ◌∙◌, ℤ, length, drop, arith, append-nil, take_at, drop_of_length-le, length-drop, length-take-le}
use Rattle.summary.specs.Written.{rows_written}
use Rattle.summary.proofs.boxes.write_box.Goals as goal

pub returns : goal.returns
returns c =
    let a = c.args in
    let low = c.copy_from_slice.new.self in
    let long : length low ≡ a.k = ap length c.copy_from_slice.ensures.after ∙ length-take-le a.k a.rows.low (omega arith) in
    let past : List ℤ = drop a.k a.places.now in
    let none : drop (length (low ++ past) - a.k) (drop a.k (low ++ past)) ≡ [] =
    drop_of_length-le (drop a.k (low ++ past)) (omega (arith, length-drop a.k (low ++ past))) in
    rw (take_at low past a.k long, none, append-nil c.copy_from_slice-2.new.self, c.copy_from_slice.ensures.after, c.copy_from_slice-2.ensures.after)
    (rows_written a.k a.rows.low a.rows.high (omega arith) (omega arith))
