-- The demands, read off the contract of the test of one point. Each follows from `theory` in a line or two.
use Rattle.std.specs.Prelude.{◌≡◌, ◌≢◌, Bool, true, false, List, ℕ, ◌+◌, ◌*◌, ◌<◌, replicate, ltb, ℤ, pos, negsuc}
use Rattle.std.proofs.Math.Path.{refl, ap}
use Rattle.std.proofs.Common.{sym, ◌∙◌, arith, ltb-true, ltb-false}
use Rattle.std.specs.Int.Signed.{le_z}
use Rattle.whole.proofs.Parts.{ints}
use Rattle.terms.specs.declared.Placing.{Placing}
use Rattle.terms.specs.Lent.{Faces}
use Rattle.terms.specs.Tests.{bit, keep, all_to, rising}
use Rattle.terms.specs.Points.{lone}
use Rattle.terms.specs.Region.{region, inside}
use Rattle.terms.specs.Margin.{margin, least_to, lowest_least}
use Rattle.terms.specs.PlaceCall.{place_refusals, place_code, place_answer}
use Rattle.terms.specs.Unmarked.{unmarked_place_answer}
use Rattle.theory.specs.ClosedFaces.{closed_place_answer}
use Rattle.theory.specs.FirstRefusal.{FirstHeld, if_code, if_refused}
use Rattle.theory.specs.FirstRefusalIsLowest.{Lowest}
use Rattle.theory.specs.Tested.{Between, coordinate_place}
use Rattle.theory.specs.Margins.{above_by, inside_by_margins, closed_inside_by_least, margin_between, LeastAt, least_words_of}
use Rattle.theory.specs.PlaceCall.{PlacePassed, place_first, place_lowest, place_passed}

module _ (k : ℕ) (point : List ℤ) (f : Faces) {a : Placing} (e : a ≡ place_answer k point f) where
  -- Two outcomes that satisfy the contract are equal.
  pub place_once : {b : Placing} → b ≡ place_answer k point f → a ≡ b
  place_once g = e ∙ sym g

  place_number : a.code ≡ place_code k point f
  unfolding place_answer
  place_number =
      ap (λ (r : Placing). r.code) e ∙ if_code (λ (r : Placing). r.code) (place_code k point f) _ _ refl refl

  -- The number is the first refusal that holds in the order of testing, and 0 where none does; the numbers rise, so it is the lowest.
  pub place_answers_the_first : FirstHeld (place_refusals k point f) a.code
  place_answers_the_first = rw place_number (place_first k point f)

  pub place_answers_the_lowest : Lowest (place_refusals k point f) a.code
  place_answers_the_lowest = rw place_number (place_lowest k point f)

  -- Of a refusal every other number is 0.
  pub place_refused_says_no_more : a.code ≢ 0 → a ≡ record { code = a.code; inside = 0; measured = 0; face = 0; margin = pos 0 }
  unfolding place_answer
  place_refused_says_no_more m =
      let n : place_code k point f ≢ 0 = λ z. m (place_number ∙ z) in
      e ∙ if_refused (place_code k point f) _ _ n ∙ rw (← place_number) refl

  -- With all marks 0 every answer stays as it was before faces had marks.
  pub place_of_closed_faces : f.marks ≡ replicate f.h 0 → a ≡ unmarked_place_answer k point f
  place_of_closed_faces zeros = e ∙ closed_place_answer f zeros k point

  module _ (done : a.code ≡ 0) where
    passed : place_code k point f ≡ 0
    passed = sym place_number ∙ done

    -- "Negative is below; zero is on the face, above it if closed and below it if open": inside exactly if every margin is above.
    pub place_inside_by_margins : a.inside ≡ bit (all_to f.h (λ i. above_by (region k f) i (margin (region k f) i (lone point))))
    unfolding place_answer
    place_inside_by_margins = rw (e, passed) (ap bit (inside_by_margins (region k f) (lone point)))

    -- For closed faces only: inside exactly if the least margin is 0 or more.
    pub place_inside_by_least : ((i : ℕ) → i < f.h → (region k f).marked_open i ≡ false) → a.inside ≡ bit (le_z (pos 0) a.margin)
    unfolding place_answer
    place_inside_by_least closed = rw (e, passed) (ap bit (closed_inside_by_least (region k f) (lone point) closed))

    -- "The least distance number over its faces with the lowest-numbered face that has it":
    pub place_names_the_least_margin : 0 < f.h → LeastAt f.h (λ i. margin (region k f) i (lone point)) a.face a.margin
    unfolding place_answer
    place_names_the_least_margin l = rw (e, passed) (least_words_of f.h (λ i. margin (region k f) i (lone point)) l)

    pub place_measured_where_faces_are : a.measured ≡ bit (ltb 0 f.h)
    unfolding place_answer
    place_measured_where_faces_are = rw (e, passed) refl

    -- "or says that there are no faces".
    pub place_with_no_faces : f.h ≡ 0 → a ≡ record { code = 0; inside = 1; measured = 0; face = 0; margin = pos 0 }
    unfolding place_answer inside all_to least_to lowest_least keep rising
    place_with_no_faces z = rw (e, passed, z) refl

    -- "It lies within -12,884,770,816 to 12,884,770,816."
    pub place_margin_between : Between (negsuc 12884770815) a.margin (pos 12884770816)
    place_margin_between = go (ltb 0 f.h) refl
      where
        t : PlacePassed k point f
        t = place_passed k point f passed

        of_face : (i : ℕ) → i < f.h → Between (negsuc 12884770815) (margin (region k f) i (lone point)) (pos 12884770816)
        of_face i l =
            margin_between (region k f) i t.dimension.1 t.ranges
            (λ d m. t.faced.components (i * k + d) (coordinate_place k f.h f.normals t.faced.normals_size l m))
            (t.faced.offsets_range i (omega (arith, t.faced.offsets_size)))

        go : (u : Bool) → ltb 0 f.h ≡ u → Between (negsuc 12884770815) a.margin (pos 12884770816)
        go true q =
            let w = place_names_the_least_margin (ltb-true 0 f.h q) in
            rw (← w.attained) (of_face a.face w.known)
        go false q =
            let none : f.h ≡ 0 = let n = ltb-false 0 f.h q in omega arith in
            let zero-margin : a.margin ≡ pos 0 = ap (λ (r : Placing). r.margin) (place_with_no_faces none) in
            rw zero-margin (record { from_least = omega ints; to_greatest = omega ints })
