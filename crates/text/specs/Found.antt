-- What the reading functions promise of an Option: the words of the other files, at what was found.
use Rattle.std.specs.Prelude.{◌<◌, Bool, true, false, Option, Some, None, List, ℕ, length, ℤ, pos}
use Rattle.std.proofs.Common.{lit<}
use Rattle.text.specs.Input.{newline, space}
use Rattle.text.specs.Reading.{ReadsNatural, ReadsSize, ReadsNumber}
use Rattle.text.specs.RowReading.{ReadsInto}
use Rattle.text.specs.LineReading.{ReadsLine}
use Rattle.text.specs.BlockReading.{ReadsPoints, ReadsFaces}
use Rattle.text.specs.HeadReading.{ReadsHead}
use Rattle.text.specs.TextReading.{ReadsText}
use Rattle.text.specs.declared.input.Sizes.{Sizes}
use Rattle.text.specs.declared.number.Stop.{Stop}
use Rattle.text.specs.declared.number.Stop.TheVariants.{Newline, Space}

-- The byte that a stop is.
abbrev pub byte_of : Stop → ℕ
byte_of Newline = newline
byte_of Space = space

-- No stop is a digit.
pub stop_low : (stop : Stop) → byte_of stop < 48
stop_low Newline = lit< tt
stop_low Space = lit< tt

-- A promise over a flag, a value and the place behind it, at an Option: where nothing was found, the flag is false, and the others are `nothing` and 0.
abbrev pub Finds : {A : Type 0} → A → (Bool → A → ℕ → Type 0) → Option A → ℕ → Type 0
Finds nothing promise (Some a) next = promise true a next
Finds nothing promise None next = promise false nothing 0

-- Finding a natural number of at most ten digits.
abbrev pub FindsNatural : List ℕ → ℕ → ℕ → Option ℕ → ℕ → Type 0
FindsNatural text at stop = Finds 0 (ReadsNatural text at stop)

-- Finding a natural number from least to greatest.
abbrev pub FindsSize : List ℕ → ℕ → ℕ → ℕ → ℕ → Option ℕ → ℕ → Type 0
FindsSize text at stop least greatest = Finds 0 (ReadsSize text at stop least greatest)

-- Finding a number from -deepest to greatest.
abbrev pub FindsNumber : List ℕ → ℕ → ℕ → ℕ → ℕ → Option ℤ → ℕ → Type 0
FindsNumber text at stop deepest greatest = Finds (pos 0) (ReadsNumber text at stop deepest greatest)

-- Finding a row of numbers for all places.
abbrev pub FindsInto : (List ℤ → List ℕ) → List ℕ → ℕ → List ℤ → List ℤ → Option (Unit {0}) → ℕ → Type 0
FindsInto writing text at before after = Finds tt (λ ok value. ReadsInto writing text at (length before) 0 before after ok)

-- Finding a line: a number for each place, and a last one from -deepest to greatest.
abbrev pub FindsLine : List ℕ → ℕ → ℕ → ℕ → List ℤ → List ℤ → Option ℤ → ℕ → Type 0
FindsLine text at deepest greatest before after = Finds (pos 0) (ReadsLine text at (length before) deepest greatest 0 before after)

-- Finding the lines of n points.
abbrev pub FindsPoints : List ℕ → ℕ → ℕ → ℕ → List ℤ → Option (Unit {0}) → ℕ → Type 0
FindsPoints text at k n after = Finds tt (λ ok value. ReadsPoints text at k n after ok)

-- Finding the lines of h faces.
abbrev pub FindsFaces : List ℕ → ℕ → ℕ → ℕ → List ℤ → List ℤ → Option (Unit {0}) → ℕ → Type 0
FindsFaces text at k h normals offsets = Finds tt (λ ok value. ReadsFaces text at k h normals offsets ok)

-- No sizes, as they are named where nothing was found.
abbrev no_sizes : Sizes
no_sizes = record { k = 0; n = 0; h = 0 }

-- Finding line 1.
abbrev pub FindsHead : List ℕ → Option Sizes → ℕ → Type 0
FindsHead text = Finds no_sizes (λ ok sizes. ReadsHead text ok sizes.k sizes.n sizes.h)

-- Finding all that a text says.
abbrev pub FindsText : List ℕ → List ℤ → List ℤ → List ℤ → Option Sizes → Type 0
FindsText text points normals offsets found = Finds no_sizes (λ ok sizes next. ReadsText text points normals offsets ok sizes.k sizes.n sizes.h) found 0
