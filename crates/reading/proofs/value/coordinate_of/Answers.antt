-- What is floored is 256 times the value, which is exact.
use mathlib.Core.Path.{◌∙◌}
use mir.Syntax.{w32}
use mir.Facts.{to_z-of_z}
use borrow.Author.Rules.{rules, sfits_of}
use Rattle.reading.specs.Scaled.{scaled_is_floored}
use Rattle.reading.proofs.value.coordinate_of.Goals as goal

pub float_to_bits-scaled : goal.float_to_bits-scaled
float_to_bits-scaled c = (scaled_is_floored c.args.value (search rules) c.requires).number

pub floor_of_bits-requires : goal.floor_of_bits-requires
floor_of_bits-requires c = (scaled_is_floored c.args.value (search rules) c.requires).small

pub returns : goal.returns
returns c =
    to_z-of_z (sfits_of {w = w32} c.floor_of_bits.type_inv)
    ∙ c.floor_of_bits.ensures
    ∙ (scaled_is_floored c.args.value (search rules) c.requires).floor
