-- The reason read off the branches on the way, one after the other: it is as the four cases say, and no other is. A settled branch in front decides; an open one
-- in front changes nothing.
use Rattle.std.specs.Prelude.{◌≡◌, refl, true, false, ◌⊎◌, ℕ, zero, suc, ◌<◌, length, ℤ}
use Rattle.std.proofs.Math.Path.{sym}
use Rattle.std.proofs.Common.{ap, ◌∙◌, inl, inr, not-suc-le-zero, le_of_suc-le-suc, arith}
use mathlib.Core.List.{List, [], ◌∷◌}
use Rattle.terms.specs.declared.Reason.{Reason}
use Rattle.terms.specs.declared.Reason.TheVariants.{InsideWithBranch, InsideByItself, OutsideWithBranch, OutsideByItself}
use Rattle.terms.specs.Tests.{lowest_to}
use Rattle.terms.specs.Box.{Box}
use Rattle.terms.specs.Region.{Region, above, is_below, wholly_below, is_open}
use Rattle.terms.specs.Margin.{margin}
use Rattle.terms.specs.Branches.{Branch, node_slot, branch_at}
use Rattle.terms.specs.Reason.{Lowest}
use Rattle.terms.specs.Explain.{own_reason, branch_reason}
use Rattle.theory.specs.Flags.{clash, not_false, false_not}
use Rattle.theory.specs.Boxes.{In}
use Rattle.theory.specs.Nesting.{below_one_settled, above_all_settled}
use Rattle.theory.specs.Containment.{above_all_inside, below_one_outside}
use Rattle.theory.specs.LowestThatPasses.{lowest_is, lowest_some, lowest_none, none_lowest, lowest_either, lowest_one}
use Rattle.theory.specs.ReasonOnTheWay.{AboveEvery, BelowFirst, OpenBefore, NearestOn, OwnOn, BecauseOn, reason_on, Stands, below_one, above_all, opened, stands, branch_below, branch_above, branch_open, own_inside, own_outside, EachHolds}

-- ---- a branch in front of the way

module _ (g : Region) (b : Branch) (w : List Branch) where
  more_open : (t : ℕ) → is_open g b.box ≡ true → OpenBefore g w t → OpenBefore g (b ∷ w) (suc t)
  more_open t o n zero l = o
  more_open t o n (suc u) l = n u (le_of_suc-le-suc l)

  -- An open branch in front changes nothing.
  module _ (o : is_open g b.box ≡ true) where
    nearest_more : {s : ℕ} {P : Box → Type 0} → NearestOn g w s P → NearestOn g (b ∷ w) s P
    nearest_more n = record {
      place = suc n.place;
      known = omega (arith, n.known);
      named = n.named;
      nearest = more_open n.place o n.nearest;
      says = n.says;
    }

    own_more : {i s : ℕ} → OwnOn g w i s → OwnOn g (b ∷ w) i s
    own_more n = record { own_slot = n.own_slot; every_open = more_open (length w) o n.every_open }

    nearest_fewer : {s : ℕ} {P : Box → Type 0} → (P b.box → is_open g b.box ≡ false) → NearestOn g (b ∷ w) s P → NearestOn g w s P
    nearest_fewer {s} {P} shut n = go n.place n.known n.named n.nearest n.says
      where
        go : (t : ℕ) → t < length (b ∷ w) → s ≡ node_slot (branch_at (b ∷ w) t) → OpenBefore g (b ∷ w) t → P (branch_at (b ∷ w) t).box → NearestOn g w s P
        go zero l e a z = clash o (shut z)
        go (suc t) l e a z = record { place = t; known = le_of_suc-le-suc l; named = e; nearest = λ u m. a (suc u) (omega arith); says = z }

    own_fewer : {i s : ℕ} → OwnOn g (b ∷ w) i s → OwnOn g w i s
    own_fewer n = record { own_slot = n.own_slot; every_open = λ u m. n.every_open (suc u) (omega arith) }

  -- A settled branch in front is the nearest.
  module _ (shut : is_open g b.box ≡ false) where
    nearest_first : {s : ℕ} {P : Box → Type 0} → NearestOn g (b ∷ w) s P → (s ≡ node_slot b) × P b.box
    nearest_first {s} {P} n = go n.place n.named n.nearest n.says
      where
        go : (t : ℕ) → s ≡ node_slot (branch_at (b ∷ w) t) → OpenBefore g (b ∷ w) t → P (branch_at (b ∷ w) t).box → (s ≡ node_slot b) × P b.box
        go zero e a z = (e, z)
        go (suc t) e a z = clash (a 0 (omega arith)) shut

    own_never : {X : Type 0} {i s : ℕ} → OwnOn g (b ∷ w) i s → X
    own_never n = clash (n.every_open 0 (omega arith)) shut

  first_nearest : {P : Box → Type 0} → P b.box → NearestOn g (b ∷ w) (node_slot b) P
  first_nearest z = record { place = 0; known = omega arith; named = refl; nearest = λ u m. absurd (not-suc-le-zero m); says = z }

-- What the two kinds of settled say.
below_shut : (g : Region) {x : ℕ → ℤ} {f : ℕ} {m : ℤ} {b : Box} → BelowFirst g x f m b → is_open g b ≡ false
below_shut g {b = b} z = below_one_settled g b (lowest_one z.face)

because_more : (g : Region) (x : ℕ → ℤ) (i : ℕ) (b : Branch) (w : List Branch) → is_open g b.box ≡ true → (r : Reason) → BecauseOn g w x i r → BecauseOn g (b ∷ w) x i r
because_more g x i b w o (InsideWithBranch s) z = nearest_more g b w o z
because_more g x i b w o (InsideByItself s) z = (own_more g b w o z.0, z.1)
because_more g x i b w o (OutsideWithBranch s f m) z = nearest_more g b w o z
because_more g x i b w o (OutsideByItself s f m) z = (own_more g b w o z.0, z.1)

because_fewer : (g : Region) (x : ℕ → ℤ) (i : ℕ) (b : Branch) (w : List Branch) → is_open g b.box ≡ true → (r : Reason) → BecauseOn g (b ∷ w) x i r → BecauseOn g w x i r
because_fewer g x i b w o (InsideWithBranch s) z = nearest_fewer g b w o (above_all_settled g b.box) z
because_fewer g x i b w o (InsideByItself s) z = (own_fewer g b w o z.0, z.1)
because_fewer g x i b w o (OutsideWithBranch s f m) z = nearest_fewer g b w o (below_shut g) z
because_fewer g x i b w o (OutsideByItself s f m) z = (own_fewer g b w o z.0, z.1)

-- ---- what is read off is a reason

own_true : (g : Region) (x : ℕ → ℤ) (i : ℕ) → BecauseOn g [] x i (own_reason g x i)
own_true g x i = go (lowest_either g.h (is_below g x))
  where
    own : OwnOn g [] i i
    own = record { own_slot = refl; every_open = λ u l. absurd (not-suc-le-zero l) }

    go : (lowest_to g.h (is_below g x) < g.h) ⊎ (lowest_to g.h (is_below g x) ≡ g.h) → BecauseOn g [] x i (own_reason g x i)
    go (inl l) = rw (own_outside g x i l) (own, record { face = lowest_some g.h (is_below g x) l; by = refl })
    go (inr e) = rw (own_inside g x i e) (own, λ f l. not_false (above g f x) (lowest_none g.h (is_below g x) e f l))

pub on_way_true : (g : Region) (x : ℕ → ℤ) (i : ℕ) (w : List Branch) → BecauseOn g w x i (reason_on g x i w)
unfolding reason_on
on_way_true g x i [] = own_true g x i
on_way_true g x i (b ∷ w) = go (stands g b.box) (on_way_true g x i w)
  where
    go : Stands g b.box → BecauseOn g w x i (reason_on g x i w) → BecauseOn g (b ∷ w) x i (branch_reason g x b.box (node_slot b) (reason_on g x i w))
    go (below_one l) z = rw (branch_below g x b.box (node_slot b) (reason_on g x i w) l.known) (first_nearest g b w (record { face = l; by = refl }))
    go (above_all e all) z = rw (branch_above g x b.box (node_slot b) (reason_on g x i w) e all) (first_nearest g b w all)
    go (opened o) z = rw (branch_open g x b.box (node_slot b) (reason_on g x i w) o) (because_more g x i b w o (reason_on g x i w) z)

-- ---- and the only one

module _ (g : Region) (x : ℕ → ℤ) (i : ℕ) where
  only_own : (r : Reason) → BecauseOn g [] x i r → r ≡ own_reason g x i
  only_own (InsideWithBranch s) z = absurd (not-suc-le-zero z.known)
  only_own (OutsideWithBranch s f m) z = absurd (not-suc-le-zero z.known)
  only_own (InsideByItself s) z =
      ap InsideByItself z.0.own_slot ∙ sym (own_inside g x i (none_lowest g.h (is_below g x) (λ f l. false_not (z.1 f l))))
  only_own (OutsideByItself s f m) z =
      let e : f ≡ lowest_to g.h (is_below g x) = lowest_is g.h (is_below g x) z.1.face in
      let l : lowest_to g.h (is_below g x) < g.h = omega (arith, z.1.face.known) in
      rw (z.1.by, z.0.own_slot, e) (sym (own_outside g x i l))

  module _ (b : Branch) (w : List Branch) (here : In g.k b.box x) where
    only_below : Lowest g.h (wholly_below g b.box) (lowest_to g.h (wholly_below g b.box)) → (r : Reason) → BecauseOn g (b ∷ w) x i r
        → r ≡ OutsideWithBranch (node_slot b) (lowest_to g.h (wholly_below g b.box)) (margin g (lowest_to g.h (wholly_below g b.box)) x)
    only_below l r z = go r z
      where
        shut : is_open g b.box ≡ false
        shut = below_one_settled g b.box (lowest_one l)

        go : (r : Reason) → BecauseOn g (b ∷ w) x i r
            → r ≡ OutsideWithBranch (node_slot b) (lowest_to g.h (wholly_below g b.box)) (margin g (lowest_to g.h (wholly_below g b.box)) x)
        go (InsideWithBranch s) z = clash (above_all_inside g here (nearest_first g b w shut z).1) (below_one_outside g here (lowest_one l))
        go (InsideByItself s) z = own_never g b w shut z.0
        go (OutsideWithBranch s f m) z =
            let q = nearest_first g b w shut z in
            rw (q.0, q.1.by, lowest_is g.h (wholly_below g b.box) q.1.face) refl
        go (OutsideByItself s f m) z = own_never g b w shut z.0

    only_above : AboveEvery g b.box → (r : Reason) → BecauseOn g (b ∷ w) x i r → r ≡ InsideWithBranch (node_slot b)
    only_above all r z = go r z
      where
        shut : is_open g b.box ≡ false
        shut = above_all_settled g b.box all

        go : (r : Reason) → BecauseOn g (b ∷ w) x i r → r ≡ InsideWithBranch (node_slot b)
        go (InsideWithBranch s) z = ap InsideWithBranch (nearest_first g b w shut z).0
        go (InsideByItself s) z = own_never g b w shut z.0
        go (OutsideWithBranch s f m) z =
            clash (above_all_inside g here all) (below_one_outside g here (lowest_one (nearest_first g b w shut z).1.face))
        go (OutsideByItself s f m) z = own_never g b w shut z.0

  pub on_way_only : (w : List Branch) → EachHolds g.k x w → (r : Reason) → BecauseOn g w x i r → r ≡ reason_on g x i w
  unfolding reason_on
  on_way_only [] h r z = only_own r z
  on_way_only (b ∷ w) h r z = go (stands g b.box) (on_way_only w (λ t l. h (suc t) (omega arith)) r)
    where
      go : Stands g b.box → (BecauseOn g w x i r → r ≡ reason_on g x i w) → r ≡ branch_reason g x b.box (node_slot b) (reason_on g x i w)
      go (below_one l) ih = only_below b w (h 0 (omega arith)) l r z ∙ sym (branch_below g x b.box (node_slot b) (reason_on g x i w) l.known)
      go (above_all e all) ih = only_above b w (h 0 (omega arith)) all r z ∙ sym (branch_above g x b.box (node_slot b) (reason_on g x i w) e all)
      go (opened o) ih = ih (because_fewer g x i b w o r z) ∙ sym (branch_open g x b.box (node_slot b) (reason_on g x i w) o)
