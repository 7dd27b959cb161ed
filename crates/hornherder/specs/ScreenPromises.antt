-- The demands, read off the screen call's contract, and how its answer stands to the list call's. Each follows from `theory` in a few lines.
use Rattle.std.specs.Prelude.{◌≡◌, ◌≢◌, true, false, List, [], ◌∷◌, ◌++◌, length, get_or, replicate}
use Rattle.std.proofs.Math.Path.{refl, ap}
use Rattle.std.proofs.Common.{sym, ◌∙◌}
use Prim.Native.Nat.{ℕ, zero, suc, ◌*◌, ◌≤◌, ◌<◌}
use native.Mathlib.Omega.{arith}
use Rattle.whole.specs.IndexedTotal.{total_to}
use Rattle.terms.specs.declared.Listing.{Listing}
use Rattle.terms.specs.declared.Screening.{Screening}
use Rattle.terms.specs.Lent.{Stock, Order, Faces}
use Rattle.terms.specs.Points.{point_of, slots_of}
use Rattle.terms.specs.Tree.{shelf_run, is_shelf}
use Rattle.terms.specs.Region.{region}
use Rattle.terms.specs.Lists.{insides}
use Rattle.terms.specs.Screen.{has_first, first, screen_visits}
use Rattle.terms.specs.Refusals.{if_done}
use Rattle.terms.specs.Bound.{S, is_square}
use Rattle.terms.specs.ListCall.{listing, list_code, list_answer, list_after, ListedAs}
use Rattle.terms.specs.ScreenCall.{screen_refusals, screen_code, screen_answer}
use Rattle.terms.specs.Unmarked.{unmarked_screen_answer}
use Rattle.theory.specs.ClosedFaces.{closed_screen_answer}
use Rattle.theory.specs.FirstRefusal.{FirstHeld, if_code, if_refused}
use Rattle.theory.specs.ListCall.{listed_code}
use Rattle.theory.specs.FaceLentAlone.{face_alone}
use Rattle.theory.proofs.VisitsOfTheListCall.{list_visits_le_faces, list_visits_le_S}
use Rattle.theory.specs.ScreenCall.{screen_first, screen_reads, screen_code_is_list_code, screen_visits_le, screen_visits_none, screen_nine}

-- What a list of numbers says by its first entry.
some : (ps : List ℕ) → (has_first ps ≡ 1 → 0 < length ps) × (0 < length ps → has_first ps ≡ 1)
some [] = (λ z. absurd (omega arith), λ l. absurd (omega arith))
some (p ∷ ps) = (λ z. omega arith, λ l. refl)

none : (ps : List ℕ) → (has_first ps ≡ 0 → length ps ≡ 0) × (length ps ≡ 0 → has_first ps ≡ 0)
none [] = (λ z. refl, λ l. refl)
none (p ∷ ps) = (λ z. absurd (omega arith), λ l. absurd (omega arith))

empty : (ps : List ℕ) → has_first ps ≡ 0 → ps ≡ []
empty [] z = refl
empty (p ∷ ps) z = absurd (omega arith)

front : (ps rest later : List ℕ) → has_first ps ≡ 1 → first ps ≡ get_or ((ps ++ rest) ++ later) 0 0
front [] rest later z = absurd (omega arith)
front (p ∷ ps) rest later z = refl

-- The two answers of a call that is done, and those of a refusal.
abbrev done_screen : Stock → Order → Faces → Screening
done_screen s o f =
    let ps : List ℕ = insides (region s.k f) (point_of s) (shelf_run s o) in
    record { code = 0; found = has_first ps; number = first ps; visits = screen_visits (region s.k f) (point_of s) (shelf_run s o) }

abbrev refused_screen : ℕ → Screening
refused_screen c = record { code = c; found = 0; number = 0; visits = 0 }

abbrev done_list : Stock → Order → Faces → Listing
done_list s o f = listing (region s.k f) (point_of s) (shelf_run s o)

abbrev refused_list : ℕ → Listing
refused_list c = record { code = c; inside = 0; outside = 0; visits = 0 }

module _ (s : Stock) (o : Order) (f : Faces) {b : Screening} (e : b ≡ screen_answer s o f) where
  -- Two outcomes that satisfy the contract are equal.
  pub screen_once : {c : Screening} → c ≡ screen_answer s o f → b ≡ c
  screen_once g = e ∙ sym g

  screen_number : b.code ≡ screen_code s o f
  unfolding screen_answer
  screen_number = ap (λ (r : Screening). r.code) e ∙ if_code (λ (r : Screening). r.code) (screen_code s o f) _ _ refl refl

  -- The number is the first refusal that holds in the order of testing, and 0 where none does.
  pub screen_answers_the_first : FirstHeld (screen_refusals s o f) b.code
  screen_answers_the_first = rw screen_number (screen_first s o f)

  -- Of a refusal every other number is 0.
  pub screen_refused_says_no_more : b.code ≢ 0 → b ≡ record { code = b.code; found = 0; number = 0; visits = 0 }
  unfolding screen_answer
  screen_refused_says_no_more m =
      let n : screen_code s o f ≢ 0 = λ z. m (screen_number ∙ z) in
      e ∙ if_refused (screen_code s o f) _ _ n ∙ rw (← screen_number) refl

  -- With all marks 0 every answer stays as it was before faces had marks.
  pub screen_of_closed_faces : f.marks ≡ replicate f.h 0 → b ≡ unmarked_screen_answer s o f
  screen_of_closed_faces zeros = e ∙ closed_screen_answer f zeros s o

  -- "The list calls still refuse a wrong order": where the call is done with another order, it is 9 with one that is not the shelf.
  pub screen_nine_for_a_wrong_order : (q : Order) → screen_code s q f ≡ 0 → slots_of s ≤ length o.slots → is_shelf s o ≡ false → b.code ≡ 9
  screen_nine_for_a_wrong_order q z room other = screen_number ∙ screen_nine s o q f z room other

  -- Places from v on are not read.
  pub screen_reads_v_slots : (q : Order) → shelf_run s o ≡ shelf_run s q → {c : Screening} → c ≡ screen_answer s q f → b ≡ c
  screen_reads_v_slots q same g = e ∙ screen_reads s o q f same ∙ sym g

  -- Beside the list call with the same arguments and a list buffer with room.
  module _ {list : List ℕ} (room : slots_of s ≤ length list) {a : Listing} {x : List ℕ} (l : ListedAs s o f list a x) where
    codes : screen_code s o f ≡ list_code s o f list
    codes = screen_code_is_list_code s o f list room

    list_number : a.code ≡ list_code s o f list
    list_number = listed_code s o f list l

    -- Both are accepted, or refused with the same number.
    pub screen_code_is_the_list_call_s : b.code ≡ a.code
    screen_code_is_the_list_call_s = screen_number ∙ codes ∙ sym list_number

    -- The visits are at most the list call's.
    pub screen_visits_at_most_the_list_call_s : b.visits ≤ a.visits
    unfolding screen_answer list_answer
    screen_visits_at_most_the_list_call_s = rw (e, l.answered, ← codes) (go (screen_code s o f))
      where
        go : (c : ℕ) → (if_done c (done_screen s o f) (refused_screen c)).visits ≤ (if_done c (done_list s o f) (refused_list c)).visits
        go zero = screen_visits_le (region s.k f) (point_of s) (shelf_run s o)
        go (suc c) = omega arith

    -- "For any region, square or not, visits are at most the sum of the visits of each face taken as a region alone."
    pub screen_visits_at_most_the_faces : b.visits ≤ total_to f.h (λ i. (list_answer s o (face_alone s.k f i) list).visits)
    screen_visits_at_most_the_faces = omega (arith, screen_visits_at_most_the_list_call_s, rw (← l.answered) at (list_visits_le_faces s o f list))

    -- "Where all faces are square, visits are at most h times S(v, k)."
    pub screen_visits_at_most_h_s : ((i : ℕ) → i < f.h → is_square (region s.k f) i ≡ true) → b.visits ≤ f.h * S (slots_of s) s.k
    screen_visits_at_most_h_s squares = omega (arith, screen_visits_at_most_the_list_call_s, rw (← l.answered) at (list_visits_le_S s o f list squares))

    module _ (done : b.code ≡ 0) where
      passed : screen_code s o f ≡ 0
      passed = sym screen_number ∙ done

      listed : list_code s o f list ≡ 0
      listed = sym codes ∙ passed

      -- The answers of both, done.
      screened : b ≡ done_screen s o f
      unfolding screen_answer
      screened = e ∙ rw passed refl

      counted : a ≡ done_list s o f
      unfolding list_answer
      counted = l.answered ∙ rw listed refl

      -- "It equals the first entry of the full inside list, and "none" equals an inside count of zero": found is 1 exactly where the list call counts someone inside.
      pub found_where_someone_is_inside : (b.found ≡ 1 → 0 < a.inside) × (0 < a.inside → b.found ≡ 1)
      found_where_someone_is_inside = rw (screened, counted) (some (insides (region s.k f) (point_of s) (shelf_run s o)))

      pub none_found_where_none_is_inside : (b.found ≡ 0 → a.inside ≡ 0) × (a.inside ≡ 0 → b.found ≡ 0)
      none_found_where_none_is_inside = rw (screened, counted) (none (insides (region s.k f) (point_of s) (shelf_run s o)))

      -- The number is the first entry of the list that the list call writes.
      pub found_is_the_first_listed : b.found ≡ 1 → b.number ≡ get_or x 0 0
      unfolding list_after
      found_is_the_first_listed = rw (screened, l.written, listed) (front (insides (region s.k f) (point_of s) (shelf_run s o)) _ _)

      -- Where none is found the visits are the list call's.
      pub none_found_visits_all : b.found ≡ 0 → b.visits ≡ a.visits
      none_found_visits_all = rw (screened, counted) (λ z.
          screen_visits_none (region s.k f) (point_of s) (shelf_run s o) (empty (insides (region s.k f) (point_of s) (shelf_run s o)) z))
