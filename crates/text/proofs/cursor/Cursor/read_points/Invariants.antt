-- The invariant: i lines stand in the text, and in the first places.
use Rattle.std.proofs.Common.{◌≡◌, ◌*◌}
use Rattle.text.specs.BlockReading.{PointsSoFar}
use Rattle.text.proofs.cursor.Cursor.read_points.Given as goal

abbrev pub invariant-loop-i : goal.invariant-loop-i
invariant-loop-i l = record {
  same_text : l.self.text.now ≡ l.fn.self.text.now;
  lines : PointsSoFar l.fn.self.text.now l.fn.self.at l.k l.fn.points l.points l.i (l.k * l.i) l.self.at;
}
