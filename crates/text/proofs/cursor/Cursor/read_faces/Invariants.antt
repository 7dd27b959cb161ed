-- The invariant: i lines stand in the text, and in the first places.
use Rattle.std.proofs.Common.{◌≡◌, ◌*◌}
use Rattle.text.specs.BlockReading.{FacesSoFar}
use Rattle.text.proofs.cursor.Cursor.read_faces.Given as goal

abbrev pub invariant-loop-i : goal.invariant-loop-i
invariant-loop-i l = record {
  same_text : l.self.text.now ≡ l.fn.self.text.now;
  lines : FacesSoFar l.fn.self.text.now l.fn.self.at l.k l.fn.normals l.fn.offsets l.normals l.offsets l.i (l.k * l.i) l.self.at;
}
