use Rattle.std.proofs.Common.{◌≡◌, ◌+◌, ◌*◌, ◌≤◌, ◌<◌, length, refl, ◌∙◌, arith}
use Rattle.std.proofs.lemmas.List.{set-get_or}
use mir.Syntax.{w64}
use mir.Facts.{to_z-of_z}
use Rattle.text.specs.Ranges.{range_fits}
use Rattle.text.specs.Parts.{part_size, put_size}
use Rattle.text.specs.LineReading.{line_part}
use Rattle.text.specs.BlockReading.{faces_none, faces_next, faces_miss, faces_done, places_fit}
use Rattle.text.proofs.cursor.Cursor.read_faces.Goals as goal

pub loop-i-init : goal.loop-i-init
loop-i-init c =
    let start : c.args.k * 0 ≡ 0 = omega arith in
    record { same_text = refl; lines = rw start (faces_none c.args.k c.args.normals.now c.args.offsets.now (omega arith)) }

pub returns-in_err-offset-clause-found : goal.returns-in_err-offset-clause-found
returns-in_err-offset-clause-found c =
    let k = c.args.k in
    let place = k * c.loop-i.i in
    let room : place + k ≤ length c.loop-i.normals = omega (arith, places_fit k c.loop-i-test.true) in
    let read = rw c.loop-i.invariant.same_text at c.in_err-offset.ensures.found in
    let face =
    line_part k place c.loop-i.normals _ (omega arith) (part_size place k c.loop-i.normals room) c.read_line.auto.into read in
    rw (c.from_residual.ensures, set-get_or) (faces_miss c.loop-i.invariant.lines face refl c.loop-i-test.true)

pub loop-i-preserved : goal.loop-i-preserved
loop-i-preserved c =
    let k = c.args.k in
    let place = k * c.loop-i.i in
    let room : place + k ≤ length c.loop-i.normals = omega (arith, places_fit k c.loop-i-test.true) in
    let read = rw c.loop-i.invariant.same_text at c.in_ok-offset.ensures.found in
    let face =
    line_part k place c.loop-i.normals _ (omega arith) (part_size place k c.loop-i.normals room) c.read_line.auto.into read in
    let next : place + k ≡ k * (c.loop-i.i + 1) = omega arith in
    let slot : c.loop-i.i < length c.loop-i.offsets = omega arith in
    let offset = range_fits {w = w64} c.in_ok-offset.field-0 (face.reads.allowed refl).range (omega arith) (omega arith) in
    let after = put_size place _ c.loop-i.normals _ (omega arith) c.read_line.auto.into in
    record {
      same_text = c.in_ok-offset.ensures.text_unchanged ∙ c.loop-i.invariant.same_text;
      lines = rw (to_z-of_z offset) (rw (← next) (faces_next c.loop-i.invariant.lines face refl after slot));
    }

pub returns-clause-found : goal.returns-clause-found
returns-clause-found c =
    let all : c.loop-i.i ≡ length c.args.offsets.now = omega arith in
    faces_done (rw all at c.loop-i.invariant.lines)
