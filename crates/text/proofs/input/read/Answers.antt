-- Line 1, the points, the faces, the end: the first part that is missed decides.
use Rattle.std.proofs.Common.{refl, ◌∙◌, arith}
use Rattle.text.specs.BlockReading.{faces_front}
use Rattle.text.specs.TextReading.{head_missed, points_missed, faces_missed, bytes_left, text_said}
use Rattle.text.proofs.input.read.Goals as goal

pub returns-in_err-sizes : goal.returns-in_err-sizes
returns-in_err-sizes c = rw c.from_residual.ensures (head_missed c.in_err-sizes.ensures.found refl)

pub returns-in_err-read_points : goal.returns-in_err-read_points
returns-in_err-read_points c =
    let front = rw c.in_ok-sizes.ensures.text_unchanged at c.in_err-read_points.ensures.found in
    rw c.from_residual-in_err-read_points.ensures
    (points_missed c.in_ok-sizes.ensures.found refl c.read_points.new.points front refl)

pub returns-in_err-read_faces : goal.returns-in_err-read_faces
returns-in_err-read_faces c =
    let head = c.in_ok-sizes.ensures.found in
    let front = rw c.in_ok-sizes.ensures.text_unchanged at c.in_ok-read_points.ensures.found in
    let same_text = c.in_ok-read_points.ensures.text_unchanged ∙ c.in_ok-sizes.ensures.text_unchanged in
    let back =
    faces_front c.in_ok-sizes.sizes.h c.read_faces.new.normals c.args.offsets.now c.read_faces.new.offsets
    (omega (arith, (head.allowed refl).faces_few)) c.read_faces.auto.offsets (rw same_text at c.in_err-read_faces.ensures.found) in
    rw c.from_residual-in_err-read_faces.ensures
    (faces_missed head refl c.read_points.new.points front refl c.read_faces.new.normals _ back refl)

pub returns-then-rest-text : goal.returns-then-rest-text
returns-then-rest-text c =
    let head = c.in_ok-sizes.ensures.found in
    let front = rw c.in_ok-sizes.ensures.text_unchanged at c.in_ok-read_points.ensures.found in
    let same_text = c.in_ok-read_points.ensures.text_unchanged ∙ c.in_ok-sizes.ensures.text_unchanged in
    let back =
    faces_front c.in_ok-sizes.sizes.h c.read_faces.new.normals c.args.offsets.now c.read_faces.new.offsets
    (omega (arith, (head.allowed refl).faces_few)) c.read_faces.auto.offsets (rw same_text at c.in_ok-read_faces.ensures.found) in
    bytes_left head refl c.read_points.new.points front refl c.read_faces.new.normals _ back refl (omega arith)

pub returns : goal.returns
returns c =
    let head = c.in_ok-sizes.ensures.found in
    let front = rw c.in_ok-sizes.ensures.text_unchanged at c.in_ok-read_points.ensures.found in
    let same_text = c.in_ok-read_points.ensures.text_unchanged ∙ c.in_ok-sizes.ensures.text_unchanged in
    let back =
    faces_front c.in_ok-sizes.sizes.h c.read_faces.new.normals c.args.offsets.now c.read_faces.new.offsets
    (omega (arith, (head.allowed refl).faces_few)) c.read_faces.auto.offsets (rw same_text at c.in_ok-read_faces.ensures.found) in
    text_said head refl c.read_points.new.points front refl c.read_faces.new.normals _ back refl (omega arith) c.if-text-gt32768.false
