-- A signed number that fits is read back as it was stored.
use Rattle.std.specs.Prelude.{◌≡◌, ◌<◌, ℤ}
use borrow.Author.Rules.{sfits_of}
use lib.Signed.{mag}
use mir.Syntax.{w32, w64}
use mir.Val.{to_z, of_z}
use mir.Facts.{to_z-of_z}

pub back32 : {z : ℤ} → mag z < 2147483648 → to_z w32 (of_z w32 z) ≡ z
back32 l = to_z-of_z {w = w32} (sfits_of {w = w32} l)

pub back64 : {z : ℤ} → mag z < 9223372036854775808 → to_z w64 (of_z w64 z) ≡ z
back64 l = to_z-of_z {w = w64} (sfits_of {w = w64} l)
