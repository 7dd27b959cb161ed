-- What the natural number at the place was found to be decides.
use Rattle.std.proofs.Common.{refl, arith}
use Rattle.text.specs.Found.{stop_low}
use Rattle.text.specs.NumberReading.{size_other}
use Rattle.text.proofs.cursor.Cursor.read_size.Goals as goal

pub returns-then-n-least-clause-found : goal.returns-then-n-least-clause-found
returns-then-n-least-clause-found c =
    size_other c.in_ok-n.ensures.found (stop_low c.args.stop) c.requires.greatest_bound refl (λ l g. omega arith)

pub returns-then-n-greatest-clause-found : goal.returns-then-n-greatest-clause-found
returns-then-n-greatest-clause-found c =
    size_other c.in_ok-n.ensures.found (stop_low c.args.stop) c.requires.greatest_bound refl (λ l g. omega arith)
