-- `judge` meets its contract. After t turns the first t live faces are judged; the next face ends the loop, is dropped, or is left.
use lib.ListN.{length}
use Rattle.terms.specs.Box.{box_of}
use Rattle.region.specs.Told.{told}
use Rattle.region.specs.Judged.{Judging}
use Rattle.region.proofs.judge.judge.Given as goal

abbrev pub invariant-loop-f : goal.invariant-loop-f
invariant-loop-f l = Judging (told l.table) (box_of l.rows) l.live (length l.live) l.next l.left l.f-index
