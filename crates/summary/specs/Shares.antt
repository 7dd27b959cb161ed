-- How the slots share the summary out: the left branch's numbers, the 2k of the node's slot, the right branch's. What is lent of each share and comes back
-- goes together to the whole, and the whole is the true one exactly if each share is.
use Rattle.std.specs.Prelude.{◌≡◌, refl, Bool, true, false, not, ◌&&◌, List, [], ◌∷◌, ◌++◌, ℕ, ◌+◌, ◌-◌, ◌*◌, ◌≤◌, ◌<◌, length, take, drop, ℤ}
use Rattle.std.proofs.Common.{sym, ap, ◌∙◌, append-nil, arith, length-append, length-drop, drop_of_length-le, take-append-drop, take_all, take-take, take_at, drop_at, drop-drop, length-take-le}
use Rattle.std.proofs.lemmas.List.{take-append-le}
use Rattle.std.specs.Int.Signed.{le_z}
use Rattle.terms.specs.Points.{coord}
use Rattle.terms.specs.Run.{middle, lefts, rights}
use Rattle.terms.specs.Box.{Box}
use Rattle.terms.specs.TightBox.{tight_box, tight_boxes}
use Rattle.terms.specs.Summary.{corners, corners_of, summary, same_numbers, is_summary}
use Rattle.theory.specs.Flags.{and_assoc, and_yes, and_no}
use Rattle.theory.specs.Answers.{accepted, refused}
use Rattle.theory.specs.RunParts.{left_length, right_length}
use Rattle.theory.specs.Boxes.{Alike}
use Rattle.theory.specs.Summary.{corners_length, corners_alike, summary_length, summary_split, same_numbers_lem}
use Rattle.descent.specs.Standing.{Known}
use Rattle.summary.specs.Stored.{middle_stands, stands_in_front, stands_behind}
use Rattle.summary.specs.BranchBox.{BranchesStored, known_left, known_right}

-- n numbers have room for the summary of these slots, each of which holds the number of a point.
pub record Summarisable (k : ℕ) (points : List ℤ) (order : List ℕ) (n : ℕ) : Type 0 where
  pub few : k ≤ 4
  pub many : length order ≤ 65535
  pub known : Known k points order
  pub size : n ≡ length order * (k + k)

-- Where the node's numbers start, and where they end.
abbrev pub own_from : ℕ → List ℕ → ℕ
own_from k order = middle (length order) * (k + k)

abbrev pub own_to : ℕ → List ℕ → ℕ
own_to k order = middle (length order) * (k + k) + (k + k)

-- What `&order[0..m]` and `&order[m + 1..]` lend are the branches.
pub lent_left : (order : List ℕ) → take (middle (length order) - 0) (drop 0 order) ≡ lefts order
lent_left order = let z : middle (length order) - 0 ≡ middle (length order) = omega arith in rw z

pub lent_right : (order : List ℕ) → take (length order - (middle (length order) + 1)) (drop (middle (length order) + 1) order) ≡ rights order
lent_right order =
    let r : ℕ = middle (length order) + 1 in
    take_all (length order - r) (drop r order) (omega (arith, length-drop r order))

-- No slot, no number.
pub none_summarised : {k : ℕ} {points : List ℤ} (order : List ℕ) (S : List ℤ) → length order ≡ 0 → Summarisable k points order (length S)
    → S ≡ summary k (coord k points) order
unfolding tight_boxes corners_of
none_summarised [] [] e w = refl
none_summarised [] (x ∷ xs) e w = let z = w.size in absurd (omega arith)
none_summarised (x ∷ xs) S e w = absurd (omega arith)

shared_out : (n m e w : ℕ) → n ≡ m + 1 + e → n * w ≡ m * w + w + e * w
shared_out n m e w h = rw h (omega arith)

module _ {k : ℕ} {points : List ℤ} {order : List ℕ} {n : ℕ} (w : Summarisable k points order n) (some : 0 < length order) where
  pub shares : n ≡ own_to k order + length (rights order) * (k + k)
  shares = w.size ∙ shared_out (length order) (middle (length order)) (length (rights order)) (k + k) (omega (arith, right_length order))

  pub own_within : own_to k order ≤ n
  own_within = omega (arith, shares)

  pub left_summarisable : {m : ℕ} → m ≡ own_from k order → Summarisable k points (lefts order) m
  left_summarisable e = record {
    few = w.few;
    many = omega (arith, w.many, left_length order);
    known = known_left w.known;
    size = e ∙ ap (λ (c : ℕ). c * (k + k)) (sym (left_length order));
  }

  pub right_summarisable : {m : ℕ} → m ≡ n - own_to k order → Summarisable k points (rights order) m
  right_summarisable e = record {
    few = w.few;
    many = omega (arith, w.many, right_length order);
    known = known_right w.known;
    size = e ∙ omega (arith, shares);
  }

left_share_length : (k : ℕ) (at : ℕ → ℕ → ℤ) (order : List ℕ) → length (summary k at (lefts order)) ≡ own_from k order
left_share_length k at order = summary_length k at (lefts order) ∙ ap (λ (c : ℕ). c * (k + k)) (left_length order)

-- With both branches' shares true the summary has their boxes.
pub shares_stored : {k : ℕ} {points : List ℤ} (order : List ℕ) (S : List ℤ) → Summarisable k points order (length S) → 0 < length order
    → take (own_from k order) S ≡ summary k (coord k points) (lefts order) → drop (own_to k order) S ≡ summary k (coord k points) (rights order)
    → BranchesStored k points order S
shares_stored {k} {points} order S w some left right = record {
  few = w.few;
  many = w.many;
  some = some;
  known = w.known;
  left = λ l. stands_in_front k S {m = own_from k order} (omega (arith, own_within w some)) (middle_stands k (coord k points) (lefts order) (take (own_from k order) S) l left);
  right = λ l.
      let e : own_to k order ≡ (middle (length order) + 1) * (k + k) = omega arith in
      stands_behind k S (middle (length order) + 1) (omega (arith, own_within w some)) (rw e at (middle_stands k (coord k points) (rights order) (drop (own_to k order) S) l right));
}

-- The list after its front came back as L and its end as R.
module _ (S L R : List ℤ) (a b : ℕ) (inner : a ≤ b) (fits : b ≤ length S) (front : length L ≡ a) where
  abbrev pub fronted : List ℤ
  fronted = L ++ drop a S

  pub fronted_length : length fronted ≡ length S
  fronted_length = omega (arith, length-append L (drop a S), length-drop a S)

  -- What is lent of the end.
  pub end_length : length (take (length fronted - b) (drop b fronted)) ≡ length S - b
  end_length = length-take-le (length fronted - b) (drop b fronted) (omega (arith, length-drop b fronted)) ∙ omega (arith, fronted_length)

  abbrev pub ended : List ℤ
  ended = take b fronted ++ (R ++ drop (length fronted - b) (drop b fronted))

  taken_length : length (take b fronted) ≡ b
  taken_length = length-take-le b fronted (omega (arith, fronted_length))

  ended_eq : ended ≡ take b fronted ++ R
  ended_eq =
      let z : drop (length fronted - b) (drop b fronted) ≡ [] =
      drop_of_length-le (drop b fronted) {i = length fronted - b} (omega (arith, length-drop b fronted)) in
      rw (z, append-nil)

  pub ended_length : length R ≡ length S - b → length ended ≡ length S
  ended_length back = ap length ended_eq ∙ omega (arith, length-append (take b fronted) R, taken_length)

  pub ended_front : take a ended ≡ L
  ended_front =
      ap (take a) ended_eq
      ∙ take-append-le a (take b fronted) R (omega (arith, taken_length))
      ∙ take-take a b fronted inner
      ∙ take_at L (drop a S) a front

  pub ended_behind : drop b ended ≡ R
  ended_behind = rw ended_eq (drop_at (take b fronted) R b taken_length)

  -- And after its middle came back as M.
  pub ended_around : (M : List ℤ) → take a ended ++ (M ++ drop (b - a) (drop a ended)) ≡ L ++ (M ++ R)
  ended_around M =
      let e : a + (b - a) ≡ b = omega arith in
      let d : drop (b - a) (drop a ended) ≡ R = drop-drop (b - a) a ended ∙ rw e ended_behind in
      rw (ended_front, d)

-- Filling: the left branch's share came back as L and the right branch's as R, both as they have to be.
module _ {k : ℕ} {points : List ℤ} (order : List ℕ) (S : List ℤ) (w : Summarisable k points order (length S)) (some : 0 < length order)
    {L : List ℤ} (left : L ≡ summary k (coord k points) (lefts order)) where
  pub front : length L ≡ own_from k order
  front = ap length left ∙ left_share_length k (coord k points) order

  pub front_back : length (L ++ drop (own_from k order) S) ≡ length S
  front_back = fronted_length S L [] (own_from k order) (own_to k order) (omega arith) (own_within w some) front

  pub end_summarisable : Summarisable k points (rights order)
      (length (take (length (L ++ drop (own_from k order) S) - own_to k order) (drop (own_to k order) (L ++ drop (own_from k order) S))))
  end_summarisable = right_summarisable w some (end_length S L [] (own_from k order) (own_to k order) (omega arith) (own_within w some) front)

  module _ {R : List ℤ} (right : R ≡ summary k (coord k points) (rights order)) where
    abbrev pub both : List ℤ
    both = ended S L R (own_from k order) (own_to k order) (omega arith) (own_within w some) front

    right_size : length R ≡ length S - own_to k order
    right_size = ap length right ∙ summary_length k (coord k points) (rights order) ∙ omega (arith, shares w some)

    pub both_back : length both ≡ length S
    both_back = ended_length S L R (own_from k order) (own_to k order) (omega arith) (own_within w some) front right_size

    -- The summary now has the branches' boxes,
    pub both_stored : BranchesStored k points order both
    both_stored =
        shares_stored order both (rw both_back w) some
        (ended_front S L R (own_from k order) (own_to k order) (omega arith) (own_within w some) front ∙ left)
        (ended_behind S L R (own_from k order) (own_to k order) (omega arith) (own_within w some) front ∙ right)

    pub own_lent : length (take (own_to k order - own_from k order) (drop (own_from k order) both)) ≡ k + k
    own_lent =
        length-take-le (own_to k order - own_from k order) (drop (own_from k order) both) (omega (arith, length-drop (own_from k order) both, both_back, own_within w some))
        ∙ omega arith

    -- and with the box of the whole run between them it is the run's.
    pub all_back : {M : List ℤ} {box : Box} → Alike k box (tight_box (coord k points) order) → M ≡ corners k box
        → take (own_from k order) both ++ (M ++ drop (own_to k order - own_from k order) (drop (own_from k order) both)) ≡ summary k (coord k points) order
    all_back {M} alike own =
        ended_around S L R (own_from k order) (own_to k order) (omega arith) (own_within w some) front M
        ∙ rw (left, right, own, corners_alike alike) (sym (summary_split k (coord k points) order some))

-- The test of two lists goes by parts of the same length.
same_append : (xs ys us vs : List ℤ) → length xs ≡ length ys → same_numbers (xs ++ us) (ys ++ vs) ≡ same_numbers xs ys && same_numbers us vs
unfolding same_numbers
same_append [] [] us vs e = refl
same_append [] (y ∷ ys) us vs e = absurd (omega arith)
same_append (x ∷ xs) [] us vs e = absurd (omega arith)
same_append (x ∷ xs) (y ∷ ys) us vs e =
    rw (same_append xs ys us vs (omega arith)) (sym (and_assoc (le_z x y && le_z y x) (same_numbers xs ys) (same_numbers us vs)))

-- The three shares of a summary, as they are lent.
module _ {k : ℕ} {points : List ℤ} (order : List ℕ) (S : List ℤ) (w : Summarisable k points order (length S)) (some : 0 < length order) where
  abbrev a : ℕ
  a = own_from k order

  abbrev b : ℕ
  b = own_to k order

  abbrev at : ℕ → ℕ → ℤ
  at = coord k points

  abbrev pub left_share : List ℤ
  left_share = take a S

  abbrev pub own_share : List ℤ
  own_share = take (b - a) (drop a S)

  abbrev pub right_share : List ℤ
  right_share = take (length S - b) (drop b S)

  right_dropped : right_share ≡ drop b S
  right_dropped = take_all (length S - b) (drop b S) (omega (arith, length-drop b S))

  pub left_length_is : length left_share ≡ a
  left_length_is = length-take-le a S (omega (arith, own_within w some))

  pub own_length_is : length own_share ≡ k + k
  own_length_is = length-take-le (b - a) (drop a S) (omega (arith, length-drop a S, own_within w some)) ∙ omega arith

  pub right_length_is : length right_share ≡ length S - b
  right_length_is = ap length right_dropped ∙ length-drop b S

  shares_whole : S ≡ left_share ++ (own_share ++ right_share)
  shares_whole =
      let e : a + (b - a) ≡ b = omega arith in
      let d : drop (b - a) (drop a S) ≡ drop b S = drop-drop (b - a) a S ∙ ap (λ (n : ℕ). drop n S) e in
      let t : own_share ++ right_share ≡ drop a S = rw (right_dropped, ← d) (take-append-drop (b - a) (drop a S)) in
      rw t (sym (take-append-drop a S))

  by_shares : is_summary k at order S
      ≡ is_summary k at (lefts order) left_share && (same_numbers own_share (corners k (tight_box at order)) && is_summary k at (rights order) right_share)
  by_shares =
      ap (λ (xs : List ℤ). same_numbers xs (summary k at order)) shares_whole
      ∙ ap (λ (ys : List ℤ). same_numbers (left_share ++ (own_share ++ right_share)) ys) (summary_split k at order some)
      ∙ same_append left_share (summary k at (lefts order)) _ _ (left_length_is ∙ sym (left_share_length k at order))
      ∙ ap (λ (t : Bool). is_summary k at (lefts order) left_share && t) (same_append own_share (corners k (tight_box at order)) _ _ (own_length_is ∙ sym (corners_length k (tight_box at order))))

  -- The tests of the branches' shares answer r and t. A wrong share is a wrong summary.
  module _ {r : Bool} (left : r ≡ is_summary k at (lefts order) left_share) where
    pub left_wrong : not r ≡ true → false ≡ is_summary k at order S
    left_wrong differs = sym (by_shares ∙ rw (refused left differs) refl)

    module _ {t : Bool} (right : t ≡ is_summary k at (rights order) right_share) where
      pub right_wrong : not t ≡ true → false ≡ is_summary k at order S
      right_wrong differs =
          sym
          (by_shares
          ∙ and_no (is_summary k at (lefts order) left_share) (and_no (same_numbers own_share (corners k (tight_box at order))) (refused right differs)))

      -- With both right all hangs on the node's.
      module _ (same : not r ≡ false) (same-too : not t ≡ false) where
        pub told_stored : BranchesStored k points order S
        told_stored =
            shares_stored order S w some
            (same_numbers_lem left_share (summary k at (lefts order)) (accepted left same))
            (sym right_dropped ∙ same_numbers_lem right_share (summary k at (rights order)) (accepted right same-too))

        pub own_tells : {box : Box} {answer : Bool} → Alike k box (tight_box at order) → answer ≡ same_numbers own_share (corners k box)
            → answer ≡ is_summary k at order S
        own_tells {box} {answer} alike told =
            told
            ∙ ap (same_numbers own_share) (corners_alike alike)
            ∙ sym (by_shares ∙ rw (accepted left same) (and_yes (same_numbers own_share (corners k (tight_box at order))) (accepted right same-too)))
