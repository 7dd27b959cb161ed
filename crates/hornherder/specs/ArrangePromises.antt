-- The demands, read off the arrange call's contract. Each follows from `theory` in a line or two.
use Rattle.std.specs.Prelude.{◌≡◌, ◌≢◌, Bool, true, false, ℕ, ◌<◌, length, get_or, drop, eqb, ltb}
use Rattle.std.proofs.Math.Path.{refl}
use Rattle.std.proofs.Common.{sym, ap, ◌∙◌, arith}
use Rattle.terms.specs.declared.Arranging.{Arranging}
use Rattle.terms.specs.Tests.{bit, count}
use Rattle.terms.specs.Lent.{Stock, Order}
use Rattle.terms.specs.Points.{belongs_to, slots_of}
use Rattle.terms.specs.Tree.{shelf_run, is_shelf}
use Rattle.terms.specs.ArrangeCall.{arrange_refusals, arrange_code, arrange_answer, ArrangedAs}
use Rattle.theory.proofs.UniqueOrder.{one_shelf}
use Rattle.theory.specs.FirstRefusal.{FirstHeld, if_refused}
use Rattle.theory.specs.NeverRefused.{never_answered, arrange_never_nine}
use Rattle.theory.specs.ArrangeCall.{
  arrange_first,
  arranged_code,
  arrange_done_answer,
  lacking_no_shelf,
  holding_no_shelf,
  arrange_code_reads,
  arrange_reads,
}
use Rattle.theory.proofs.ArrangeCall.{arranged_same, arranged_kept, arranged_once}

module _ {s : Stock} {o : Order} {a : Arranging} {x : Order} (e : ArrangedAs s o a x) where
  -- Two outcomes that satisfy the contract are equal.
  pub arrange_once : {b : Arranging} {y : Order} → ArrangedAs s o b y → (a ≡ b) × (x.slots ≡ y.slots)
  arrange_once f = arranged_once e f

  -- "Refusals: 1, 2, 3, 15, 4, 5": the number is the first that holds in this order, and 0 where none does.
  pub arrange_answers_the_first : FirstHeld (arrange_refusals s o) a.code
  arrange_answers_the_first = rw (arranged_code e) (arrange_first s o)

  -- "9 no longer comes from this call."
  pub arrange_never_answers_nine : a.code ≢ 9
  arrange_never_answers_nine = never_answered (omega arith) (arrange_never_nine s o) arrange_answers_the_first

  -- A refusal changes no lent number,
  pub arrange_refused_writes_nothing : a.code ≢ 0 → x.slots ≡ o.slots
  arrange_refused_writes_nothing = e.refused

  -- and says nothing else.
  pub arrange_refused_says_no_more : a.code ≢ 0 → a ≡ record { code = a.code; already = 0 }
  unfolding arrange_answer
  arrange_refused_says_no_more m =
      let n : arrange_code s o ≢ 0 = λ z. m (arranged_code e ∙ z) in
      e.answered ∙ if_refused (arrange_code s o) _ _ n ∙ rw (← arranged_code e) refl

  -- The number does not depend on what the order holds, only on whether it has v places.
  pub arrange_number_reads_no_slot : {q : Order} {b : Arranging} {y : Order} → ArrangedAs s q b y
      → ltb (length o.slots) (slots_of s) ≡ ltb (length q.slots) (slots_of s) → a.code ≡ b.code
  arrange_number_reads_no_slot {q} f rooms = arranged_code e ∙ arrange_code_reads s o q rooms ∙ sym (arranged_code f)

  -- Places from v on are not read.
  pub arrange_reads_v_slots : {q : Order} {b : Arranging} {y : Order} → ArrangedAs s q b y → shelf_run s o ≡ shelf_run s q → a ≡ b
  arrange_reads_v_slots {q} f same = e.answered ∙ arrange_reads s o q same ∙ sym f.answered

  module _ (done : a.code ≡ 0) where
    -- "Afterwards the order is the tree": the first v places.
    pub arrange_leaves_the_shelf : is_shelf s x ≡ true
    arrange_leaves_the_shelf = e.arranged done

    -- Done, the places from v on are as they were.
    pub arrange_keeps_later_places : drop (slots_of s) x.slots ≡ drop (slots_of s) o.slots
    arrange_keeps_later_places = e.later done

    -- "And the answer says whether it already was": exactly where the first v places were it before.
    pub arrange_says_already : a.already ≡ bit (is_shelf s o)
    arrange_says_already = ap (λ (r : Arranging). r.already) (e.answered ∙ arrange_done_answer s o (sym (arranged_code e) ∙ done))

    -- "If it was, no place differs", said of the order and of the answer.
    pub arrange_leaves_what_was_arranged : is_shelf s o ≡ true → x.slots ≡ o.slots
    arrange_leaves_what_was_arranged = arranged_kept e done

    pub arrange_leaves_what_it_found : a.already ≡ 1 → x.slots ≡ o.slots
    arrange_leaves_what_it_found found = go (is_shelf s o) refl
      where
        go : (t : Bool) → is_shelf s o ≡ t → x.slots ≡ o.slots
        go true t = arrange_leaves_what_was_arranged t
        go false t = absurd (omega (arith, found, arrange_says_already, ap bit t))

    -- "Whether the old one still passes is decided … over the live pictures as they now are": it does not where its first v places lack a live picture,
    pub arrange_sees_a_picture_lacking : (p : ℕ) → belongs_to s p ≡ true → count (eqb p) (shelf_run s o) ≡ 0 → a.already ≡ 0
    arrange_sees_a_picture_lacking p live none = arrange_says_already ∙ ap bit (lacking_no_shelf s o p live none)

    -- or hold a number that is none.
    pub arrange_sees_a_dead_number : (i : ℕ) → i < length (shelf_run s o) → belongs_to s (get_or (shelf_run s o) i 0) ≡ false → a.already ≡ 0
    arrange_sees_a_dead_number i l dead = arrange_says_already ∙ ap bit (holding_no_shelf s o i l dead)

-- From any two first contents the first v places come out equal,
pub arrange_arranges_alike : {s : Stock} {o q x y : Order} {a b : Arranging} → ArrangedAs s o a x → ArrangedAs s q b y → a.code ≡ 0 → b.code ≡ 0
    → shelf_run s x ≡ shelf_run s y
arrange_arranges_alike {s} {x = x} {y} e f z w = one_shelf s x y (e.arranged z) (f.arranged w)

-- and only the places from v on, which are kept, are left of them.
pub arrange_leaves_no_slot : {s : Stock} {o q x y : Order} {a b : Arranging} → ArrangedAs s o a x → ArrangedAs s q b y → a.code ≡ 0 → b.code ≡ 0
    → drop (slots_of s) o.slots ≡ drop (slots_of s) q.slots → x.slots ≡ y.slots
arrange_leaves_no_slot e f z w later = arranged_same e f z w later
