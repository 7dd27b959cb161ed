-- The fixed number of each refusal, and the number that a call answers with: 0 where it was done.
use Rattle.std.specs.Prelude.{◌≡◌, refl, ◌≢◌, ℕ, Result, Ok, Err}
use Rattle.std.specs.Result.{IsErr, IsErrAnd}
use Rattle.std.proofs.Common.{arith}
use Rattle.std.proofs.lemmas.Result.{err_from_is_err_and}
use Rattle.terms.specs.declared.refusal.Refusal.{Refusal}
use Rattle.terms.specs.declared.refusal.Refusal.TheVariants.{
  Dimension,
  TooManyPoints,
  PointsLength,
  ShortBuffer,
  CoordinateRange,
  TooManyFaces,
  FacesLength,
  FaceRange,
  NotTheTree,
  Text,
  Marks,
  ValueRange,
  RegionCount,
  LiveBytes,
  NoneDead,
  NotLive,
}

-- The number of a refusal. 13 was given by earlier versions and is not given out again.
abbrev pub number_of : Refusal → ℕ
number_of Dimension = 1
number_of TooManyPoints = 2
number_of PointsLength = 3
number_of ShortBuffer = 4
number_of CoordinateRange = 5
number_of TooManyFaces = 6
number_of FacesLength = 7
number_of FaceRange = 8
number_of NotTheTree = 9
number_of Text = 10
number_of Marks = 11
number_of ValueRange = 12
number_of RegionCount = 14
number_of LiveBytes = 15
number_of NoneDead = 16
number_of NotLive = 17

-- What a call that gives this is answered by: 0 where it was done, else the refusal's number.
abbrev pub code_of : {A : Type 0} → Result A Refusal → ℕ
code_of (Ok x) = 0
code_of (Err refusal) = number_of refusal

-- No number of a refusal is 0.
pub number_is : (refusal : Refusal) → number_of refusal ≢ 0
number_is Dimension = λ z. omega arith
number_is TooManyPoints = λ z. omega arith
number_is PointsLength = λ z. omega arith
number_is ShortBuffer = λ z. omega arith
number_is CoordinateRange = λ z. omega arith
number_is TooManyFaces = λ z. omega arith
number_is FacesLength = λ z. omega arith
number_is FaceRange = λ z. omega arith
number_is NotTheTree = λ z. omega arith
number_is Text = λ z. omega arith
number_is Marks = λ z. omega arith
number_is ValueRange = λ z. omega arith
number_is RegionCount = λ z. omega arith
number_is LiveBytes = λ z. omega arith
number_is NoneDead = λ z. omega arith
number_is NotLive = λ z. omega arith

-- What `?` hands on is the refusal that it was given.
pub handed_on : {A : Type 0} (r : Result A Refusal) {refusal : Refusal} → IsErr r × IsErrAnd r (λ given. given ≡ refusal) → r ≡ Err refusal
handed_on r w = let (given, is, same) = err_from_is_err_and r w.1 in rw (is, same) refl
