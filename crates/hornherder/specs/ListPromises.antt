-- The demands, read off the list call's contract. Each follows from `theory` in a line or two.
use Rattle.std.specs.Prelude.{◌≡◌, ◌≢◌, true, false, List, ℕ, ◌+◌, ◌*◌, ◌≤◌, ◌<◌, length, take, drop, replicate, ltb}
use Rattle.std.proofs.Math.Path.{refl}
use Rattle.std.proofs.Common.{sym, ◌∙◌}
use Rattle.whole.specs.IndexedTotal.{total_to}
use Rattle.terms.specs.declared.Listing.{Listing}
use Rattle.terms.specs.Lent.{Stock, Order, Faces}
use Rattle.terms.specs.Points.{belongs_to, slots_of}
use Rattle.terms.specs.Tree.{each_once, shelf_run, is_shelf}
use Rattle.terms.specs.Region.{region}
use Rattle.terms.specs.Bound.{S, is_square}
use Rattle.terms.specs.ListCall.{list_refusals, list_code, list_answer, ListedAs}
use Rattle.terms.specs.Unmarked.{unmarked_list_answer, unmarked_list_after}
use Rattle.theory.specs.FirstRefusal.{FirstHeld, if_refused}
use Rattle.theory.specs.InsideAndOutside.{shelf_lists_length, shelf_places_each}
use Rattle.theory.specs.ClosedFaces.{closed_list_answer, closed_list_after}
use Rattle.theory.specs.FaceLentAlone.{face_alone}
use Rattle.theory.proofs.VisitsOfTheListCall.{list_visits_le_faces, list_visits_le_S}
use Rattle.theory.specs.ListCall.{listed_code, list_first, list_passed, list_refused, list_front, list_later, list_answer_reads, list_after_reads, list_nine}

module _ (s : Stock) (o : Order) (f : Faces) (list : List ℕ) where
  module _ {a : Listing} {x : List ℕ} (e : ListedAs s o f list a x) where
    code : a.code ≡ list_code s o f list
    code = listed_code s o f list e

    -- Two outcomes that satisfy the contract are equal.
    pub list_once : {b : Listing} {y : List ℕ} → ListedAs s o f list b y → (a ≡ b) × (x ≡ y)
    list_once g = (e.answered ∙ sym g.answered, e.written ∙ sym g.written)

    -- The number is the first refusal that holds in the order of testing, and 0 where none does.
    pub list_answers_the_first : FirstHeld (list_refusals s o f list) a.code
    list_answers_the_first = rw code (list_first s o f list)

    -- "The list calls still refuse a wrong order", "decided by 9 over the live pictures as they now are": where the call is done with another order, it is 9 with one
    -- that is not the shelf, as where it lacks a live number or holds one that is none.
    pub list_nine_for_a_wrong_order : {q : Order} {b : Listing} {y : List ℕ} → ListedAs s q f list b y → b.code ≡ 0 → slots_of s ≤ length o.slots
        → is_shelf s o ≡ false → a.code ≡ 9
    list_nine_for_a_wrong_order {q} g z room other = code ∙ list_nine s o q f list (sym (listed_code s q f list g) ∙ z) room other

    -- A refusal changes no lent number.
    pub list_refused_writes_nothing : a.code ≢ 0 → x ≡ list
    list_refused_writes_nothing m = e.written ∙ list_refused s o f list (λ z. m (code ∙ z))

    -- Of a refusal every other number is 0.
    pub list_refused_says_no_more : a.code ≢ 0 → a ≡ record { code = a.code; inside = 0; outside = 0; visits = 0 }
    unfolding list_answer
    list_refused_says_no_more m =
        let n : list_code s o f list ≢ 0 = λ z. m (code ∙ z) in
        e.answered ∙ if_refused (list_code s o f list) _ _ n ∙ rw (← code) refl

    -- With all marks 0 every answer stays as it was before faces had marks.
    pub list_of_closed_faces : f.marks ≡ replicate f.h 0 → (a ≡ unmarked_list_answer s o f list) × (x ≡ unmarked_list_after s o f list)
    list_of_closed_faces zeros = (e.answered ∙ closed_list_answer f zeros s o list, e.written ∙ closed_list_after f zeros s o list)

    module _ (done : a.code ≡ 0) where
      passed : list_code s o f list ≡ 0
      passed = sym code ∙ done

      -- Inside plus outside is v.
      pub list_counts_v : a.inside + a.outside ≡ slots_of s
      unfolding list_answer
      list_counts_v =
          rw (e.answered, passed)
          (shelf_lists_length s o (list_passed s o f list passed).shelf (region s.k f))

      -- The buffer holds each number once.
      pub list_holds_each_once : each_once (belongs_to s) s.n (take (slots_of s) x) ≡ true
      list_holds_each_once =
          rw (e.written, list_front s o f list passed)
          (shelf_places_each s o (list_passed s o f list passed).shelf (region s.k f))

      -- Places from v on are not written.
      pub list_keeps_later_places : drop (slots_of s) x ≡ drop (slots_of s) list
      list_keeps_later_places = rw e.written (list_later s o f list passed)

    -- "For any region, square or not, visits are at most the sum of the visits of each face taken as a region alone."
    pub visits_at_most_the_faces
        : a.visits ≤ total_to f.h (λ i. (list_answer s o (face_alone s.k f i) list).visits)
    visits_at_most_the_faces = rw e.answered (list_visits_le_faces s o f list)

    -- "Where all faces are square, visits are at most h times S(v, k)", whatever the marks: "the bound on square faces must be shown to hold still".
    pub visits_at_most_h_s : ((i : ℕ) → i < f.h → is_square (region s.k f) i ≡ true) → a.visits ≤ f.h * S (slots_of s) s.k
    visits_at_most_h_s squares = rw e.answered (list_visits_le_S s o f list squares)

    -- Neither the order's places from v on nor what the buffer held before is read: only whether it has v places, and what it keeps.
    module _ (q : Order) (buffer : List ℕ) (slots : shelf_run s o ≡ shelf_run s q) (rooms : ltb (length list) (slots_of s) ≡ ltb (length buffer) (slots_of s))
        {b : Listing} {y : List ℕ} (g : ListedAs s q f buffer b y) where
      pub list_reads_v_slots : a ≡ b
      list_reads_v_slots = e.answered ∙ list_answer_reads s o q f list buffer slots rooms ∙ sym g.answered

      pub list_leaves_the_same : drop (slots_of s) list ≡ drop (slots_of s) buffer → a.code ≡ 0 → x ≡ y
      list_leaves_the_same later done =
          e.written ∙ list_after_reads s o q f list buffer slots rooms later (sym code ∙ done) ∙ sym g.written
