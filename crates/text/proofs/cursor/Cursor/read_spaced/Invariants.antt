-- The invariant: the numbers read so far stand in the text, and in the first places.
use Rattle.std.proofs.Common.{◌≡◌}
use Rattle.text.specs.RowReading.{Filling}
use Rattle.text.proofs.cursor.Cursor.read_spaced.Given as goal

abbrev pub invariant-loop-place : goal.invariant-loop-place
invariant-loop-place l = record {
  same_text : l.self.text.now ≡ l.fn.self.text.now;
  filling : Filling l.fn.self.text.now l.fn.self.at 0 l.fn.into l.place-items l.place-index l.self.at;
}
