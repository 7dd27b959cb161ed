-- Each group gives its refusal where it refuses; where it was passed the next one does, and the last one looks for a dead number.
use Rattle.std.proofs.Common.{refl, sym, ◌∙◌, ap, eq-eqb, ne_eqb, ltb-true, ltb-false, arith}
use Rattle.terms.specs.RefusalNumbers.{number_is, handed_on}
use Rattle.theory.specs.FirstRefusal.{no_zero}
use Rattle.std.specs.Prelude.{◌≡◌, Bool, true, false, not, cond, Option, Some, None, Result, ok_or, position, ◌==◌, List, ℕ, length, ltb, IfOk}
use Rattle.std.specs.List.{position_or_len}
use Rattle.std.proofs.lemmas.List.Sums.{position_or_len_is}
use Rattle.terms.specs.declared.refusal.Refusal.{Refusal}
use Rattle.terms.specs.declared.refusal.Refusal.TheVariants.{NoneDead}
use Rattle.terms.specs.RefusalNumbers.{code_of}
use Rattle.terms.specs.Live.{is_live, live_count, lowest_dead}
use Rattle.terms.specs.Refusals.{full_refusals}
use Rattle.theory.specs.LiveNumbers.{live_byte, none_dead, full_none_dead}
use Rattle.theory.specs.LowestThatPasses.{lowest_stops}
use Rattle.theory.specs.RefusalsPassed.{shape_passed, live_passed}
use Rattle.hornherder.specs.First.{first_stops, first_passed, First, first_none, first_holds, first_passes, first_after}
use Rattle.hornherder.proofs.take.test_take.Goals as goal

-- The first byte that is not 1 is the lowest dead number's.
first_unset : (n : ℕ) (live : List ℕ) → length live ≡ n → position_or_len (λ b. not (b == 1)) live ≡ lowest_dead n live
first_unset n live size =
    let w = lowest_stops n (λ p. not (is_live n live p)) in
    position_or_len_is (λ b. not (b == 1)) live (lowest_dead n live) 0 (omega (arith, w.most, size))
    (λ q l. sym (ap not (live_byte n live q (omega (arith, w.most, l)))) ∙ w.none_lower q l)
    (λ l. sym (ap not (live_byte n live (lowest_dead n live) (omega (arith, l, size)))) ∙ w.passes (omega (arith, l, size)))

-- Where there is none, all numbers are live.
found : (n : ℕ) (live : List ℕ) → length live ≡ n → (o : Option ℕ) → o ≡ position (λ b. not (b == 1)) live → {r : Result ℕ Refusal} → r ≡ ok_or o NoneDead
    → First (full_refusals n (live_count n live)) (code_of r) × IfOk r (λ p. p ≡ lowest_dead n live)
found n live size o e {r} f = go (ltb (lowest_dead n live) n) refl (rw (first_unset n live size, size) at e)
  where
    go : (t : Bool) → ltb (lowest_dead n live) n ≡ t → o ≡ cond t (Some (lowest_dead n live)) None
        → First (full_refusals n (live_count n live)) (code_of r) × IfOk r (λ p. p ≡ lowest_dead n live)
    go true l q =
        let here = ltb-true (lowest_dead n live) n l in
        rw (f, q) (first_passes (ne_eqb _ _ (λ full. omega (arith, here, full_none_dead n live full))) first_none, refl)
    go false l q =
        let none : lowest_dead n live ≡ n = omega (arith, ltb-false (lowest_dead n live) n l, (lowest_stops n (λ p. not (is_live n live p))).most) in
        rw (f, q) (first_holds (eq-eqb _ _ (none_dead n live none)), tt)

pub returns-in_err-test_shape-clause-first : goal.returns-in_err-test_shape-clause-first
unfolding no_zero
returns-in_err-test_shape-clause-first c = rw (handed_on _ c.from_residual.ensures) (first_stops _ c.in_err-test_shape.ensures (number_is _))

pub returns-in_err-test_length-clause-first : goal.returns-in_err-test_length-clause-first
unfolding no_zero
returns-in_err-test_length-clause-first c = rw (handed_on _ c.from_residual-in_err-test_length.ensures) (first_after refl c.in_ok-test_shape.ensures (first_stops _ c.in_err-test_length.ensures (number_is _)))

pub returns-in_err-slots-clause-first : goal.returns-in_err-slots-clause-first
unfolding no_zero
returns-in_err-slots-clause-first c = rw (handed_on _ c.from_residual-in_err-slots.ensures) (first_after refl c.in_ok-test_shape.ensures (first_after refl c.in_ok-test_length.ensures (first_stops _ c.in_err-slots.ensures.first (number_is _))))

pub returns-in_err-test_live_coordinates-clause-first : goal.returns-in_err-test_live_coordinates-clause-first
unfolding no_zero
returns-in_err-test_live_coordinates-clause-first c = rw (handed_on _ c.from_residual-in_err-test_live_coordinates.ensures) (first_after refl c.in_ok-test_shape.ensures (first_after refl c.in_ok-test_length.ensures (first_after refl c.in_ok-slots.ensures.first (first_stops _ c.in_err-test_live_coordinates.ensures (number_is _)))))

pub returns-in_err-test_coordinates-clause-first : goal.returns-in_err-test_coordinates-clause-first
unfolding no_zero
returns-in_err-test_coordinates-clause-first c = rw (handed_on _ c.from_residual-in_err-test_coordinates.ensures) (first_after refl c.in_ok-test_shape.ensures (first_after refl c.in_ok-test_length.ensures (first_after refl c.in_ok-slots.ensures.first (first_after refl c.in_ok-test_live_coordinates.ensures (first_stops _ c.in_err-test_coordinates.ensures (number_is _))))))

pub returns-clause-first : goal.returns-clause-first
unfolding no_zero
returns-clause-first c = first_after refl c.in_ok-test_shape.ensures (first_after refl c.in_ok-test_length.ensures (first_after refl c.in_ok-slots.ensures.first (first_after refl c.in_ok-test_live_coordinates.ensures (first_after refl c.in_ok-test_coordinates.ensures (found c.args.n c.args.live.now (live_passed c.args.n c.args.live.now (first_passed refl c.in_ok-slots.ensures.first refl)).bytes _ c.lowest_dead.ensures c.ok_or.ensures.value).0))))

pub test_live_bytes-requires : goal.test_live_bytes-requires
unfolding no_zero
test_live_bytes-requires c = let a = c.args in (shape_passed a.k a.n a.points.now (first_passed refl c.in_ok-test_shape.ensures refl)).many

pub invariant_of-test_live_coordinates : goal.invariant_of-test_live_coordinates
unfolding no_zero
invariant_of-test_live_coordinates c =
    let a = c.args in
    let s = shape_passed a.k a.n a.points.now (first_passed refl c.in_ok-test_shape.ensures refl) in
    let t = live_passed a.n a.live.now (first_passed refl c.in_ok-slots.ensures.first refl) in record {
      lent = record { few = s.dimension.1; many = s.many; size = s.size; bytes = t.bytes };
      counted = c.in_ok-slots.ensures.many;
    }

pub returns-clause-lowest : goal.returns-clause-lowest
unfolding no_zero
returns-clause-lowest c = (found c.args.n c.args.live.now (live_passed c.args.n c.args.live.now (first_passed refl c.in_ok-slots.ensures.first refl)).bytes _ c.lowest_dead.ensures c.ok_or.ensures.value).1
