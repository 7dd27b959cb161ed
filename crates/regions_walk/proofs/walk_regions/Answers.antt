use mathlib.Core.Path.{refl}
use Prim.Native.Nat.{◌+◌, ◌-◌, ◌*◌}
use native.Mathlib.Omega.{arith}
use lib.ListN.{length}
use Rattle.terms.specs.RegionFaces.{faces_in}
use Rattle.regions_walk.specs.Joined.{regions_in}
use Rattle.regions_walk.specs.RegionsListed.{reached_first, reached_next, lent_faces}
use Rattle.regions_walk.proofs.walk_regions.Goals as goal

pub loop-r-init : goal.loop-r-init
loop-r-init c = (refl, reached_first _ _ _ _ _ _)

pub loop-r-preserved : goal.loop-r-preserved
loop-r-preserved c =
    let l = c.loop-r in
    let j = c.args.regions.now in
    let g = regions_in j in
    let h = faces_in g.face_counts l.r in
    let n = length c.args.shelf.now.order.now in
    -- Its parts of the slices are its faces.
    let own = lent_faces j.k g (j.k * l.face + j.k * h - j.k * l.face) (l.face + h - l.face) (j.tested.parts l.r c.loop-r-test.true) l.invariant.1.faces (omega arith) (omega arith) in (
      refl,
      reached_next l.invariant.1 c.requires.room_for_regions (omega arith) (l.r * n) (l.r * n + n - l.r * n) (l.r * 3) (l.r * 3 + 3 - l.r * 3)
          refl (omega arith) refl (omega arith) refl own c.list_region.ensures,
    )
