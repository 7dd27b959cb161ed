-- A point of a box lies between the box's two corners in reach, so a settled box settles its points, and a settled branch goes to one list.
-- A point is the box whose rows are both the point, so this is a case of nesting.
use Rattle.std.specs.Prelude.{◌≡◌, refl, Bool, true, false, List, [], ℕ, ◌<◌, ℤ, pos, negsuc, ◌≤ℤ◌}
use Rattle.std.proofs.Common.{sym, ◌∙◌}
use Rattle.whole.proofs.IndexedSum.{sum_same}
use Rattle.terms.specs.Box.{Box}
use Rattle.terms.specs.Region.{Region, reach, above, inside, by_sign, against, along, wholly_above, wholly_below, is_open}
use Rattle.terms.specs.Lists.{insides, outsides}
use Rattle.theory.specs.Flags.{clash, contra, not_true, not_false, true_not, false_not}
use Rattle.theory.specs.AllAndAny.{OneBelow, each_all, one_all_false}
use Rattle.theory.specs.AboveIsUpward.{above_up}
use Rattle.theory.specs.Keeping.{keep_all, keep_none}
use Rattle.theory.specs.Boxes.{In, Held, dot, in_nested}
use Rattle.theory.specs.Nesting.{Open, to_open, against_nested, along_nested}

by_sign_same : (n a : ℤ) → by_sign n a a ≡ a
by_sign_same (pos n) a = refl
by_sign_same (negsuc n) a = refl

-- Both corners of a point's box are the point.
against_dot : (g : Region) (i : ℕ) (point : ℕ → ℤ) → reach g i (against g i (dot point)) ≡ reach g i point
against_dot g i point = sum_same g.k _ _ (λ d l. rw by_sign_same)

along_dot : (g : Region) (i : ℕ) (point : ℕ → ℤ) → reach g i (along g i (dot point)) ≡ reach g i point
along_dot g i point = sum_same g.k _ _ (λ d l. rw by_sign_same)

module _ (g : Region) {b : Box} {point : ℕ → ℤ} (w : In g.k b point) where
  pub reach_from_against : (i : ℕ) → reach g i (against g i b) ≤ℤ reach g i point
  reach_from_against i = rw (against_dot g i point) at (against_nested g i (in_nested w))

  pub reach_to_along : (i : ℕ) → reach g i point ≤ℤ reach g i (along g i b)
  reach_to_along i = rw (along_dot g i point) at (along_nested g i (in_nested w))

  -- "A box is wholly above a face when its corner furthest against the normal is above": then each of its points is.
  pub wholly_above_point : (i : ℕ) → wholly_above g b i ≡ true → above g i point ≡ true
  wholly_above_point i = above_up g i (reach_from_against i)

  -- "It is wholly below when the opposite corner is below": then each of its points is.
  pub wholly_below_point : (i : ℕ) → wholly_below g b i ≡ true → above g i point ≡ false
  wholly_below_point i e = contra (above_up g i (reach_to_along i)) (not_true (above g i (along g i b)) e)

  -- "Inside means above every face."
  pub above_all_inside : ((i : ℕ) → i < g.h → wholly_above g b i ≡ true) → inside g point ≡ true
  unfolding inside
  above_all_inside e = each_all g.h _ (λ i l. wholly_above_point i (e i l))

  pub below_one_outside : OneBelow g.h (wholly_below g b) true → inside g point ≡ false
  unfolding inside
  below_one_outside (i, l, e) = one_all_false g.h _ (i, l, wholly_below_point i e)

-- A point's own box is never open: both its corners are the point, which is above a face or below it.
pub dot_settled : (g : Region) (point : ℕ → ℤ) → is_open g (dot point) ≡ false
dot_settled g point = go (is_open g (dot point)) refl
  where
    go : (t : Bool) → is_open g (dot point) ≡ t → t ≡ false
    go false e = refl
    go true e =
        let o : Open g (dot point) = to_open e in
        let i : ℕ = o.not_above.0 in
        let same : reach g i (against g i (dot point)) ≡ reach g i (along g i (dot point)) = against_dot g i point ∙ sym (along_dot g i point) in
        clash (not_false (above g i (along g i (dot point))) (o.not_below i o.not_above.1)) (rw same at o.not_above.2)

-- "A settled branch goes to a list as one run": all its numbers are inside, or all are outside.
module _ (g : Region) {at : ℕ → ℕ → ℤ} {b : Box} {run : List ℕ} (w : Held g.k at b run) where
  module _ (e : (i : ℕ) → i < g.h → wholly_above g b i ≡ true) where
    pub above_all_insides : insides g at run ≡ run
    above_all_insides = keep_all _ 0 run (λ i l. above_all_inside g (w.each i l) e)

    pub above_all_outsides : outsides g at run ≡ []
    above_all_outsides = keep_none _ 0 run (λ i l. false_not (above_all_inside g (w.each i l) e))

  module _ (e : OneBelow g.h (wholly_below g b) true) where
    pub below_one_insides : insides g at run ≡ []
    below_one_insides = keep_none _ 0 run (λ i l. below_one_outside g (w.each i l) e)

    pub below_one_outsides : outsides g at run ≡ run
    below_one_outsides = keep_all _ 0 run (λ i l. true_not (below_one_outside g (w.each i l) e))
