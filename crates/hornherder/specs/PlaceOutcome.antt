-- What the test of one point gives, put together: where its first refusal is not 0, the refusal; where it is 0, what was measured of the point.
use Rattle.std.specs.Prelude.{◌≡◌, ◌≢◌, Bool, Option, Some, None, List, ℕ, ◌<◌, ltb, ℤ, pos}
use Rattle.std.proofs.Math.Path.{refl, ap}
use Rattle.std.proofs.Common.{sym, ◌∙◌, arith, lt-ltb}
use Rattle.terms.specs.declared.answers.LeastMargin.{LeastMargin}
use Rattle.terms.specs.declared.answers.Placed.{Placed}
use Rattle.terms.specs.Tests.{bit}
use Rattle.terms.specs.Lent.{Faces, faces_of}
use Rattle.terms.specs.Points.{lone}
use Rattle.terms.specs.Region.{Region, region, inside}
use Rattle.terms.specs.Margin.{least_face, least_margin}
use Rattle.terms.specs.AnswersForC.{measured_of}
use Rattle.terms.specs.PlaceCall.{place_refusals, place_code, place_answer}
use Rattle.theory.specs.FirstRefusal.{if_refused}
use Rattle.theory.specs.PlaceCall.{PlacePassed, place_passed}
use Rattle.theory.specs.PointsAlike.{inside_same_point}
use Rattle.theory.specs.Margins.{least_margin_same_point, least_face_same_point}
use Rattle.region.specs.Measured.{MeasuredAs, PointMeasured, LeastSo, face_or_zero, margin_or_zero}
use Rattle.descent.specs.Points.{PointAt, lone_coord}
use Rattle.hornherder.specs.First.{First}

module _ (k : ℕ) (point : List ℤ) (f : Faces) {c : ℕ} (first : First (place_refusals k point f) c) where
  place_coded : c ≡ place_code k point f
  unfolding place_code
  place_coded = first.is

  -- What 1, 3, 5 to 8 and 11 have tested.
  pub place_tested : c ≡ 0 → PlacePassed k point f
  place_tested z = place_passed k point f (sym place_coded ∙ z)

  pub place_refused : c ≢ 0 → record { code = c; inside = 0; measured = 0; face = 0; margin = pos 0 } ≡ place_answer k point f
  unfolding place_answer
  place_refused m = rw (← place_coded) (sym (if_refused c _ _ m))

  pub place_done : c ≡ 0 → {x : List ℤ} → PointAt k point 0 x → {within : Bool} {face : ℕ} {least : ℤ}
      → MeasuredAs (region k (faces_of f.normals f.offsets f.marks)) (lone x) within face least
      → (t m : ℕ) → t ≡ bit within → m ≡ bit (ltb 0 f.h)
      → record { code = 0; inside = t; measured = m; face = face; margin = least } ≡ place_answer k point f
  unfolding place_answer
  place_done z w s t m e n =
      let g = region k f in
      let p = (place_tested z).faced.offsets_size in
      let within_is = (rw p at s.within_is) ∙ inside_same_point g w.same ∙ ap (inside g) (lone_coord k point) in
      let face_is = (rw p at s.face_is) ∙ least_face_same_point g w.same ∙ ap (least_face g) (lone_coord k point) in
      let least_is = (rw p at s.least_is) ∙ least_margin_same_point g w.same ∙ ap (least_margin g) (lone_coord k point) in
      rw (← place_coded, z, e, n, within_is, face_is, least_is) refl

  -- What was measured of the point is the answer: with faces there is a least margin, and with none there is none.
  pub place_measured : c ≡ 0 → {x : List ℤ} → PointAt k point 0 x → (placed : Placed) → PointMeasured (region k (faces_of f.normals f.offsets f.marks)) (lone x) placed
      → measured_of placed.inside placed.least ≡ place_answer k point f
  place_measured z {x} w placed m = go placed.inside placed.least m.words m.least
    where
      g : Region
      g = region k (faces_of f.normals f.offsets f.marks)

      go : (within : Bool) (least : Option LeastMargin) → MeasuredAs g (lone x) within (face_or_zero least) (margin_or_zero least) → LeastSo g (lone x) g.h least
          → measured_of within least ≡ place_answer k point f
      go within (Some l) s e =
          let some : 0 < f.h = omega (arith, e.known, (place_tested z).faced.offsets_size) in
          place_done z w s (bit within) 1 refl (sym (ap bit (lt-ltb 0 f.h some)))
      go within None s e =
          let none : f.h ≡ 0 = omega (arith, e, (place_tested z).faced.offsets_size) in
          place_done z w s (bit within) 0 refl (rw none refl)
