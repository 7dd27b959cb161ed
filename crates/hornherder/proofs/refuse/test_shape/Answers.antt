-- Each group gives its refusal where it refuses; where it was passed the next one does.
use Rattle.std.proofs.Common.{refl, arith, mul-le-mul}
use Rattle.terms.specs.RefusalNumbers.{number_is, handed_on}
use Rattle.theory.specs.FirstRefusal.{no_zero}
use Rattle.theory.specs.RefusalsPassed.{dimension_passed, size_passed}
use Rattle.hornherder.specs.First.{first_stops, first_passed, first_after}
use Rattle.hornherder.proofs.refuse.test_shape.Goals as goal

pub returns-in_err-test_dimension : goal.returns-in_err-test_dimension
unfolding no_zero
returns-in_err-test_dimension c = rw (handed_on _ c.from_residual.ensures) (first_stops _ c.in_err-test_dimension.ensures (number_is _))

pub returns-in_err-test_size : goal.returns-in_err-test_size
unfolding no_zero
returns-in_err-test_size c = rw (handed_on _ c.from_residual-in_err-test_size.ensures) (first_after refl c.in_ok-test_dimension.ensures (first_stops _ c.in_err-test_size.ensures (number_is _)))

pub returns : goal.returns
unfolding no_zero
returns c = first_after refl c.in_ok-test_dimension.ensures (first_after refl c.in_ok-test_size.ensures c.test_length.ensures)

pub overflow_mul-k : goal.overflow_mul-k
unfolding no_zero
overflow_mul-k c =
    let a = c.args in
    let few = (dimension_passed a.k (first_passed refl c.in_ok-test_dimension.ensures refl)).1 in
    let many = size_passed a.n (first_passed refl c.in_ok-test_size.ensures refl) in
    omega (arith, mul-le-mul few many)
