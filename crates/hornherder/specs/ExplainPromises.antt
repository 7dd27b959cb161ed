-- The demands, read off the explain call's contract, and how its answer stands to the list call's. Each follows from `theory` in a few lines.
use Rattle.std.specs.Prelude.{◌≡◌, ◌≢◌, true, false, List, ℕ, ◌≤◌, ◌<◌, length, get_or, take, ℤ, pos, eqb}
use Rattle.std.proofs.Math.Path.{refl, ap}
use Rattle.std.proofs.Common.{sym, ◌∙◌, arith, length-take-le}
use Rattle.terms.specs.declared.Explaining.{Explaining}
use Rattle.terms.specs.declared.Listing.{Listing}
use Rattle.terms.specs.declared.Reason.{Reason}
use Rattle.terms.specs.declared.Reason.TheVariants.{InsideWithBranch, InsideByItself, OutsideWithBranch, OutsideByItself}
use Rattle.terms.specs.Tests.{bit, count}
use Rattle.terms.specs.Lent.{Stock, Order, Faces}
use Rattle.terms.specs.Points.{point_of, belongs_to, slots_of}
use Rattle.terms.specs.Run.{middle}
use Rattle.terms.specs.Tree.{tree_run, shelf_run, is_shelf}
use Rattle.terms.specs.Region.{Region, region, reach, above, is_below, inside}
use Rattle.terms.specs.Visits.{open_slots}
use Rattle.terms.specs.Margin.{margin}
use Rattle.terms.specs.Reason.{StandsIn, ReasonFor}
use Rattle.terms.specs.Explain.{reason_of}
use Rattle.terms.specs.Refusals.{if_done}
use Rattle.terms.specs.ListCall.{list_code, ListedAs}
use Rattle.terms.specs.ExplainCall.{explain_refusals, explaining, explain_code, explain_answer}
use Rattle.theory.specs.Flags.{clash, not_true}
use Rattle.theory.specs.FirstRefusal.{FirstHeld, if_code, if_refused}
use Rattle.theory.specs.StockNumbers.{stock_under}
use Rattle.theory.specs.ListCall.{listed_code, list_inside}
use Rattle.theory.specs.Margins.{above_by, above_by_margin}
use Rattle.theory.specs.Reasons.{says_inside, Named, SaidOf}
use Rattle.theory.proofs.Reasons.{tree_run_lem, reason_because, because_named, because_below, because_inside, because_visited}
use Rattle.theory.specs.ReasonSteps.{reason_no_faces}
use Rattle.theory.specs.ExplainCall.{
  inside_number,
  itself_number,
  inside_number_lem,
  itself_number_lem,
  listed_inside,
  ExplainPassed,
  explain_first,
  explain_passed,
  explain_code_is_list_code,
  explain_code_otherwise,
  explain_reads,
  explain_nine,
}
use Rattle.theory.proofs.ExplainCall.{picture_stands, picture_reason, picture_reason_only}

-- A reason is answered with the number 0.
no_code : (why : Reason) → (explaining why).code ≡ 0
no_code (InsideWithBranch s) = refl
no_code (InsideByItself s) = refl
no_code (OutsideWithBranch s f m) = refl
no_code (OutsideByItself s f m) = refl

-- What the answer holds of a reason that names a slot of n and a face of h.
slot_known : (n h : ℕ) (why : Reason) → Named n h why → (explaining why).slot < n
slot_known n h (InsideWithBranch s) z = z
slot_known n h (InsideByItself s) z = z
slot_known n h (OutsideWithBranch s f m) z = z.0
slot_known n h (OutsideByItself s f m) z = z.0

face_known : (n h : ℕ) (g : Region) (x : ℕ → ℤ) (why : Reason) → says_inside why ≡ false → Named n h why → SaidOf g x why
    → ((explaining why).face < h) × (is_below g x (explaining why).face ≡ true)
face_known n h g x (InsideWithBranch s) out z w = clash refl out
face_known n h g x (InsideByItself s) out z w = clash refl out
face_known n h g x (OutsideWithBranch s f m) out z w = (z.1, w.0)
face_known n h g x (OutsideByItself s f m) out z w = (z.1, w.0)

margin_known : (g : Region) (x : ℕ → ℤ) (why : Reason) → says_inside why ≡ false → SaidOf g x why → (explaining why).margin ≡ margin g (explaining why).face x
margin_known g x (InsideWithBranch s) out w = clash refl out
margin_known g x (InsideByItself s) out w = clash refl out
margin_known g x (OutsideWithBranch s f m) out w = w.1
margin_known g x (OutsideByItself s f m) out w = w.1

module _ (s : Stock) (o : Order) (f : Faces) (p : ℕ) {b : Explaining} (e : b ≡ explain_answer s o f p) where
  -- Two outcomes that satisfy the contract are equal.
  pub explain_once : {c : Explaining} → c ≡ explain_answer s o f p → b ≡ c
  explain_once g = e ∙ sym g

  explain_number : b.code ≡ explain_code s o f p
  unfolding explain_answer
  explain_number = ap (λ (r : Explaining). r.code) e ∙ if_code (λ (r : Explaining). r.code) (explain_code s o f p) _ _ (no_code (reason_of (region s.k f) (point_of s) (shelf_run s o) p)) refl

  -- The number is the first refusal that holds in the order of testing, and 0 where none does.
  pub explain_answers_the_first : FirstHeld (explain_refusals s o f p) b.code
  explain_answers_the_first = rw explain_number (explain_first s o f p)

  -- Of a refusal every other number is 0.
  pub explain_refused_says_no_more : b.code ≢ 0 → b ≡ record { code = b.code; reason = 0; face = 0; slot = 0; margin = pos 0 }
  unfolding explain_answer
  explain_refused_says_no_more m =
      let n : explain_code s o f p ≢ 0 = λ z. m (explain_number ∙ z) in
      e ∙ if_refused (explain_code s o f p) _ _ n ∙ rw (← explain_number) refl

  -- "The list calls still refuse a wrong order": where the call is done with another order, it is 9 with one that is not the shelf.
  pub explain_nine_for_a_wrong_order : (q : Order) → explain_code s q f p ≡ 0 → slots_of s ≤ length o.slots → is_shelf s o ≡ false → b.code ≡ 9
  explain_nine_for_a_wrong_order q z room other = explain_number ∙ explain_nine s o q f p z room other

  -- Places from v on are not read.
  pub explain_reads_v_slots : (q : Order) → shelf_run s o ≡ shelf_run s q → {c : Explaining} → c ≡ explain_answer s q f p → b ≡ c
  explain_reads_v_slots q same g = e ∙ explain_reads s o q f p same ∙ sym g

  module _ (done : b.code ≡ 0) where
    abbrev g : Region
    g = region s.k f

    abbrev why : Reason
    why = reason_of g (point_of s) (shelf_run s o) p

    accepted : ExplainPassed s o f p
    accepted = explain_passed s o f p (sym explain_number ∙ done)

    answered : b ≡ explaining why
    unfolding explain_answer
    answered = e ∙ rw (sym explain_number ∙ done) refl

    -- "Prove that the reason given is the true one": what is answered is the reason of the picture, so that every picture of an accepted call has one,
    pub explain_gives_the_reason : (r : Reason) × ReasonFor g (point_of s) (shelf_run s o) p r × (b ≡ explaining r)
    explain_gives_the_reason = (why, picture_reason s o f p accepted, answered)

    -- "and is the only one these rules allow."
    pub explain_gives_the_only_reason : (r : Reason) → ReasonFor g (point_of s) (shelf_run s o) p r → b ≡ explaining r
    explain_gives_the_only_reason r z = answered ∙ ap explaining (sym (picture_reason_only s o f p accepted r z))

    tree : tree_run (length (shelf_run s o)) s.k (point_of s) 0 (shelf_run s o) ≡ true
    tree = tree_run_lem g (point_of s) (belongs_to s) s.n (shelf_run s o) accepted.screened.shelf

    true_one : ReasonFor g (point_of s) (shelf_run s o) p why
    true_one = picture_reason s o f p accepted

    named : Named (slots_of s) f.h why
    named =
        let slots : length (shelf_run s o) ≡ slots_of s = length-take-le (slots_of s) o.slots accepted.screened.room in
        rw slots at (because_named g (point_of s) (shelf_run s o) tree true_one.stands why true_one.because)

    said : SaidOf g (point_of s p) why
    said = because_below g (point_of s) (shelf_run s o) tree true_one.stands why true_one.because

    -- The reason is 1 or 2 exactly where the picture's point is inside.
    pub explain_says_inside : inside_number b.reason ≡ inside g (point_of s p)
    explain_says_inside =
        ap (λ (a : Explaining). inside_number a.reason) answered ∙ inside_number_lem why ∙ because_inside g (point_of s) (shelf_run s o) tree true_one.stands why true_one.because

    -- It is 2 or 4 exactly where the picture's own slot is open, that is, one of the visits.
    pub explain_says_itself : (i : ℕ) → StandsIn (shelf_run s o) p i → itself_number b.reason ≡ get_or (open_slots g (point_of s) (shelf_run s o)) i false
    explain_says_itself i st =
        ap (λ (a : Explaining). itself_number a.reason) answered ∙ itself_number_lem why ∙ because_visited g (point_of s) (shelf_run s o) tree st why (reason_because g (point_of s) (shelf_run s o) tree st)

    -- The slot is one of the shelf's.
    pub explain_names_a_slot : b.slot < slots_of s
    explain_names_a_slot = rw answered (slot_known (slots_of s) f.h why named)

    -- Outside, the picture is below the face that is named, which is one of the region's, by the margin: "K3's number for the point".
    module _ (out : inside_number b.reason ≡ false) where
      outside : says_inside why ≡ false
      outside = sym (inside_number_lem why) ∙ sym (ap (λ (a : Explaining). inside_number a.reason) answered) ∙ out

      pub explain_names_a_face_below : (b.face < f.h) × (is_below g (point_of s p) b.face ≡ true)
      explain_names_a_face_below = rw answered (face_known (slots_of s) f.h g (point_of s p) why outside named said)

      pub explain_gives_its_margin : b.margin ≡ margin g b.face (point_of s p)
      explain_gives_its_margin = rw answered (margin_known g (point_of s p) why outside said)

      -- So it is negative, or 0 where the face is open.
      pub explain_margin_is_below : above_by g b.face b.margin ≡ false
      explain_margin_is_below =
          rw explain_gives_its_margin
          (sym (above_by_margin g b.face (reach g b.face (point_of s p))) ∙ not_true (above g b.face (point_of s p)) explain_names_a_face_below.1)

    -- "With no faces the reason is 1 at the root's slot."
    pub explain_with_no_faces : f.h ≡ 0 → b ≡ record { code = 0; reason = 1; face = 0; slot = middle (slots_of s); margin = pos 0 }
    explain_with_no_faces none =
        let t = accepted.screened in
        let slots : length (shelf_run s o) ≡ slots_of s = length-take-le (slots_of s) o.slots t.room in
        let known = (picture_stands s o f p accepted).1 in
        answered ∙ ap explaining (rw slots at (reason_no_faces g (point_of s) (shelf_run s o) p none (omega (arith, known.known))))

  -- Beside the list call with the same arguments and a list buffer with room.
  module _ {list : List ℕ} (room : slots_of s ≤ length list) {a : Listing} {x : List ℕ} (l : ListedAs s o f list a x) where
    -- A picture is explained where the list call is done, and refused with its number where it is not.
    pub explain_code_is_the_list_call_s : belongs_to s p ≡ true → b.code ≡ a.code
    explain_code_is_the_list_call_s belongs = explain_number ∙ explain_code_is_list_code s o f p belongs list room ∙ sym (listed_code s o f list l)

    -- Of a number that is no picture of the shelf, 17 where the list call is done, and else its number.
    pub explain_code_of_other_numbers : belongs_to s p ≡ false → b.code ≡ if_done a.code 17 a.code
    explain_code_of_other_numbers none =
        explain_number ∙ explain_code_otherwise s o f p none list room ∙ ap (λ (c : ℕ). if_done c 17 c) (sym (listed_code s o f list l))

    -- The reason is 1 or 2 exactly where the list call lists the picture inside: once where it does, and else never.
    pub explained_inside_where_listed : b.code ≡ 0 → count (eqb p) (take a.inside x) ≡ bit (inside_number b.reason)
    explained_inside_where_listed done =
        let w = accepted done in
        let listed : list_code s o f list ≡ 0 = sym (explain_code_is_list_code s o f p w.belongs list room) ∙ sym explain_number ∙ done in
        rw (l.answered, l.written, list_inside s o f list listed, explain_says_inside done)
        (listed_inside (region s.k f) (point_of s) (belongs_to s) s.n (shelf_run s o) w.screened.shelf p (stock_under s p w.belongs) w.belongs)
