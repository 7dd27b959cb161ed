-- A region cut into its first faces and the rest: a point is inside it where it is inside both, and what is said for all faces or for some
-- face is said of the two parts. What is asked of a face is the same in its part as in the whole.
use Rattle.std.specs.Prelude.{◌≡◌, refl, Bool, true, false, ◌&&◌, ◌||◌, ◌⊎◌, List, ◌++◌, ℕ, zero, suc, ◌+◌, ◌-◌, ◌≤◌, get_or, ℤ}
use Rattle.std.proofs.Common.{sym, ◌∙◌, inl, inr, arith}
use Rattle.std.proofs.Math.Path.{ap}
use Rattle.std.proofs.Math.Bool.{not}
use Rattle.terms.specs.Tests.{all_to, any_to, count}
use Rattle.terms.specs.Box.{Box}
use Rattle.terms.specs.Region.{Region, reach, above, inside, against, along, wholly_above, wholly_below, is_settled, is_open}
use Rattle.terms.specs.Lists.{insides, outsides}
use Rattle.theory.specs.Flags.{and_false, and_yes, and_no, or_false, false_or, not_true, true_not, and_assoc, or_assoc, or_no}
use Rattle.theory.specs.Counting.{Same, count_append}
use Rattle.theory.specs.Keeping.{keep_keep, keep_same}
use Rattle.theory.specs.AllAndAny.{all_same, any_same}
use Rattle.theory.specs.InsideAndOutside.{lists_count}
use Rattle.theory.specs.AboveIsUpward.{above_same_face}

-- ---- all and some, over a bound cut in two
all_add : (a b : ℕ) (test : ℕ → Bool) → all_to (a + b) test ≡ all_to a test && all_to b (λ i. test (a + i))
unfolding all_to
all_add a zero test = let e : a + 0 ≡ a = omega arith in rw e (sym (and_yes (all_to a test) refl))
all_add a (suc b) test =
    let e : a + suc b ≡ suc (a + b) = omega arith in
    rw (e, all_add a b test) (and_assoc (all_to a test) (all_to b (λ i. test (a + i))) (test (a + b)))

any_add : (a b : ℕ) (test : ℕ → Bool) → any_to (a + b) test ≡ any_to a test || any_to b (λ i. test (a + i))
unfolding any_to
any_add a zero test = let e : a + 0 ≡ a = omega arith in rw e (sym (or_no (any_to a test)))
any_add a (suc b) test =
    let e : a + suc b ≡ suc (a + b) = omega arith in
    rw (e, any_add a b test) (or_assoc (any_to a test) (any_to b (λ i. test (a + i))) (test (a + b)))

-- A test for the first a numbers and one for those from a on, which say what a test for all says.
pub all_split : (h a : ℕ) (test front back : ℕ → Bool) → a ≤ h → ((i : ℕ) → front i ≡ test i) → ((i : ℕ) → back i ≡ test (a + i))
    → all_to h test ≡ all_to a front && all_to (h - a) back
all_split h a test front back l e f =
    let s : h ≡ a + (h - a) = omega arith in
    ap (λ (n : ℕ). all_to n test) s
    ∙ all_add a (h - a) test
    ∙ rw (all_same a front test (λ i l. e i), all_same (h - a) back (λ i. test (a + i)) (λ i l. f i))

pub any_split : (h a : ℕ) (test front back : ℕ → Bool) → a ≤ h → ((i : ℕ) → front i ≡ test i) → ((i : ℕ) → back i ≡ test (a + i))
    → any_to h test ≡ any_to a front || any_to (h - a) back
any_split h a test front back l e f =
    let s : h ≡ a + (h - a) = omega arith in
    ap (λ (n : ℕ). any_to n test) s
    ∙ any_add a (h - a) test
    ∙ rw (any_same a front test (λ i l. e i), any_same (h - a) back (λ i. test (a + i)) (λ i l. f i))

-- ---- the two parts of a region
-- The region of the first a faces.
abbrev pub first : Region → ℕ → Region
first g a = record { k = g.k; h = a; component = g.component; offset = g.offset; marked_open = g.marked_open }

-- The region of the faces from a on.
abbrev pub rest : Region → ℕ → Region
rest g a = record {
  k = g.k;
  h = g.h - a;
  component = λ i. g.component (a + i);
  offset = λ i. g.offset (a + i);
  marked_open = λ i. g.marked_open (a + i);
}

-- The box is wholly below some face.
abbrev pub some_below : Region → Box → Bool
some_below g b = any_to g.h (wholly_below g b)

-- The box is wholly above all faces.
abbrev pub all_above : Region → Box → Bool
all_above g b = all_to g.h (wholly_above g b)

-- "Otherwise it is open": below no face, and not above all of them.
pub open_says : (g : Region) (b : Box) → is_open g b ≡ true → (some_below g b ≡ false) × (all_above g b ≡ false)
unfolding is_open is_settled
open_says g b e = or_false (some_below g b) (not_true (some_below g b || all_above g b) e)

pub says_open : (g : Region) (b : Box) → some_below g b ≡ false → all_above g b ≡ false → is_open g b ≡ true
unfolding is_open is_settled
says_open g b s t = true_not (false_or s t)

module _ (g : Region) (a : ℕ) where
  above_first : (i : ℕ) (x : ℕ → ℤ) → above (first g a) i x ≡ above g i x
  above_first i x = above_same_face (first g a) g i i refl refl (reach g i x)

  above_rest : (i : ℕ) (x : ℕ → ℤ) → above (rest g a) i x ≡ above g (a + i) x
  above_rest i x = above_same_face (rest g a) g i (a + i) refl refl (reach g (a + i) x)

  module _ (few : a ≤ g.h) where
    -- "Inside means above every face": of the first, and of the rest.
    pub inside_split : (x : ℕ → ℤ) → inside g x ≡ inside (first g a) x && inside (rest g a) x
    unfolding inside
    inside_split x = all_split g.h a _ _ _ few (λ i. above_first i x) (λ i. above_rest i x)

    pub all_above_split : (b : Box) → all_above g b ≡ all_above (first g a) b && all_above (rest g a) b
    all_above_split b = all_split g.h a _ _ _ few (λ i. above_first i (against g i b)) (λ i. above_rest i (against g (a + i) b))

    pub some_below_split : (b : Box) → some_below g b ≡ some_below (first g a) b || some_below (rest g a) b
    some_below_split b = any_split g.h a _ _ _ few (λ i. ap not (above_first i (along g i b))) (λ i. ap not (above_rest i (along g (a + i) b)))

    -- "A branch is settled when its box is wholly below at least one face, or wholly above all of them."
    pub settled_split : (b : Box)
        → is_settled g b ≡ (some_below (first g a) b || some_below (rest g a) b) || (all_above (first g a) b && all_above (rest g a) b)
    unfolding is_settled
    settled_split b = rw (some_below_split b, all_above_split b)

    pub open_split : (b : Box)
        → is_open g b ≡ not ((some_below (first g a) b || some_below (rest g a) b) || (all_above (first g a) b && all_above (rest g a) b))
    unfolding is_open
    open_split b = ap not (settled_split b)

    -- A box open for the region is open for one of its parts.
    pub open_one_part : (b : Box) → is_open g b ≡ true → (is_open (first g a) b ≡ true) ⊎ (is_open (rest g a) b ≡ true)
    open_one_part b e =
        let w = open_says g b e in
        let s = or_false (some_below (first g a) b) (sym (some_below_split b) ∙ w.0) in
        go (and_false (all_above (first g a) b) (sym (all_above_split b) ∙ w.1)) s.0 s.1
      where
        go : (all_above (first g a) b ≡ false) ⊎ (all_above (rest g a) b ≡ false) → some_below (first g a) b ≡ false → some_below (rest g a) b ≡ false
            → (is_open (first g a) b ≡ true) ⊎ (is_open (rest g a) b ≡ true)
        go (inl t) s r = inl (says_open (first g a) b s t)
        go (inr t) s r = inr (says_open (rest g a) b r t)

    -- A box open for a part, and below no face of the other, is open for the region.
    pub open_first : (b : Box) → is_open (first g a) b ≡ true → some_below (rest g a) b ≡ false → is_open g b ≡ true
    open_first b e r =
        let w = open_says (first g a) b e in
        says_open g b (some_below_split b ∙ false_or w.0 r) (all_above_split b ∙ rw w.1)

    pub open_rest : (b : Box) → is_open (rest g a) b ≡ true → some_below (first g a) b ≡ false → is_open g b ≡ true
    open_rest b e s =
        let w = open_says (rest g a) b e in
        says_open g b (some_below_split b ∙ false_or s w.0) (all_above_split b ∙ and_no (all_above (first g a) b) w.1)

    -- The inside numbers are those inside the rest among those inside the first, in slot order.
    pub insides_split : (at : ℕ → ℕ → ℤ) (run : List ℕ) → insides g at run ≡ insides (rest g a) at (insides (first g a) at run)
    insides_split at run =
        keep_same 0 _ _ run (λ i l. inside_split (at (get_or run i 0)))
        ∙ sym (keep_keep (λ p. inside (rest g a) (at p)) (λ p. inside (first g a) (at p)) run)

    -- The outside numbers are those outside the first, and those inside the first but outside the rest.
    pub outsides_split : (at : ℕ → ℕ → ℤ) (run : List ℕ)
        → Same (outsides g at run) (outsides (first g a) at run ++ outsides (rest g a) at (insides (first g a) at run))
    outsides_split at run = record {
      counts = λ test. omega (
        arith,
        lists_count g at run test,
        lists_count (first g a) at run test,
        lists_count (rest g a) at (insides (first g a) at run) test,
        ap (count test) (insides_split at run),
        count_append test (outsides (first g a) at run) (outsides (rest g a) at (insides (first g a) at run)),
      );
    }
