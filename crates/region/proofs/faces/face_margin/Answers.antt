-- What was tested of the faces gives face i its row and its offset.
use Rattle.region.specs.Ranges.{has_margin}
use Rattle.region.proofs.faces.face_margin.Goals as goal

pub point_margin-requires : goal.point_margin-requires
point_margin-requires c =
    record { coordinates = c.requires.coordinates; has_margin = has_margin (record { all = c.args.table.now.known; known = c.requires.known }) }
