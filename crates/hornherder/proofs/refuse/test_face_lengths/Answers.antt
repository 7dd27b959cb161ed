-- The two comparisons are the two tests of the group. A product that does not fit is no slice's length.
use Rattle.std.specs.Prelude.{◌≡◌, not, Option, Some, None, ℕ, ◌*◌, ◌<◌, length, eqb}
use Rattle.std.specs.Option.{SomeIff, option_eq}
use Rattle.std.proofs.Common.{sym, ap, ◌∙◌, arith, rules, eq-eqb, ne_eqb}
use Rattle.std.proofs.lemmas.Bool.Decides.{nat_tests}
use Rattle.hornherder.specs.First.{first_none, first_holds, first_passes}
use Rattle.hornherder.proofs.refuse.test_face_lengths.Goals as goal

-- The product where it fits is asked against the length; where it does not fit it is another.
as_long : (size long : ℕ) (o : Option ℕ) → long < 18446744073709551616 → SomeIff o (size < 18446744073709551616) size → option_eq eqb o (Some long) ≡ eqb long size
as_long size long (Some m) l w = rw w.1 (grind (arith, nat_tests))
as_long size long None l w = sym (ne_eqb long size (λ e. w (omega arith)))

pub returns-then-ne : goal.returns-then-ne
returns-then-ne c =
    let a = c.args in
    let fits : length a.normals.now < 18446744073709551616 = search rules in
    let same = as_long (a.k * a.h) (length a.normals.now) c.checked_mul.result fits c.checked_mul.ensures in
    first_holds (rw same at (sym c.ne.ensures ∙ c.if-ne.true))

pub returns-then-offsets-h : goal.returns-then-offsets-h
returns-then-offsets-h c =
    let a = c.args in
    let fits : length a.normals.now < 18446744073709551616 = search rules in
    let same = as_long (a.k * a.h) (length a.normals.now) c.checked_mul.result fits c.checked_mul.ensures in
    first_passes (rw same at (sym c.ne.ensures ∙ c.if-ne.false)) (first_holds (ap not (ne_eqb _ _ c.if-offsets-h.true)))

pub returns : goal.returns
returns c =
    let a = c.args in
    let fits : length a.normals.now < 18446744073709551616 = search rules in
    let same = as_long (a.k * a.h) (length a.normals.now) c.checked_mul.result fits c.checked_mul.ensures in
    first_passes (rw same at (sym c.ne.ensures ∙ c.if-ne.false)) (first_passes (ap not (eq-eqb _ _ c.if-offsets-h.false)) first_none)
