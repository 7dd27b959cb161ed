-- After r turns the total is that of the first r regions; with at most 32 faces in each of at most 64 it fits.
use Rattle.std.proofs.Common.{◌≡◌}
use Rattle.terms.specs.RegionFaces.{faces_before}
use Rattle.hornherder.proofs.list_regions.face_total.Given as goal

abbrev pub invariant-loop-count : goal.invariant-loop-count
invariant-loop-count l = l.total ≡ faces_before l.face_counts l.count-index
