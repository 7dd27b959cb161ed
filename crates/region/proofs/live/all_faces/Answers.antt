-- `all_faces` meets its contract: entry t is t.
use Rattle.std.proofs.Common.{arith, rules}
use Rattle.region.specs.Live.{all_live}
use Rattle.region.proofs.live.all_faces.Goals as goal

pub returns : goal.returns
returns c h few =
    let all = c.from_fn.ensures.items in
    all_live h c.from_fn.result all.long few (λ t l. let entry = all.at t 0 (omega arith) in search rules)
