-- Each kind of reading is handed on; nothing measured gives no point.
use mathlib.Core.Path.{refl}
use Rattle.terms.specs.Tests.{every}
use Rattle.terms.specs.Reading.{gives}
use Rattle.reading.proofs.convert.Goals as goal

pub returns-in-Nothing : goal.returns-in-Nothing
unfolding gives every
returns-in-Nothing c = rw c.in-Nothing.is refl
