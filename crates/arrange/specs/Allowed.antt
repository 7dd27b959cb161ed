-- What the checker allows in a branch: numbers that belong, and whose key on every dimension lies within the branch's bounds; it tests three at once.
-- A branch narrows its parent's bounds by its node's key, which says just that its numbers come before the node, or after it.
use Rattle.std.specs.Prelude.{◌≡◌, Bool, true, false, ◌&&◌, List, ℕ, ◌+◌, ◌≤◌, ◌<◌, length, get_or, set, ℤ, leb, ltb}
use Rattle.std.proofs.Common.{sym, ap, ◌∙◌, inl, inr, arith, get_or-set_same}
use borrow.Author.Tests.{leb-true, le-leb, ltb-true, lt-ltb}
use Rattle.terms.specs.Tests.{all_to}
use Rattle.terms.specs.Before.{before}
use Rattle.theory.specs.Flags.{contra, and_true, true_and}
use Rattle.theory.specs.Stores.{Stored, stored}
use Rattle.theory.specs.AllAndAny.{all_each, each_all}

-- The key lies within the bounds of dimension d: at least the least, and below the end.
abbrev pub is_within : List ℕ → List ℕ → ℕ → ℕ → Bool
is_within least end d x = leb (get_or least d 0) x && ltb x (get_or end d 0)

-- Number p belongs, and its key on each of the k dimensions lies within the bounds.
unfoldable pub is_allowed : ℕ → (ℕ → Bool) → (ℕ → ℕ → ℕ) → List ℕ → List ℕ → ℕ → Bool
is_allowed k belongs key least end p = belongs p && all_to k (λ d. is_within least end d (key d p))

module _ (k : ℕ) (belongs : ℕ → Bool) (key : ℕ → ℕ → ℕ) where
  -- What it says of a number that it is allowed.
  pub record Allowed (least end : List ℕ) (p : ℕ) : Type 0 where
    pub belonging : belongs p ≡ true
    pub from_least : (d : ℕ) → d < k → get_or least d 0 ≤ key d p
    pub below_end : (d : ℕ) → d < k → key d p < get_or end d 0

  pub allowed : (least end : List ℕ) (p : ℕ) → is_allowed k belongs key least end p ≡ true → Allowed least end p
  unfolding is_allowed
  allowed least end p e =
      let a = and_true (belongs p) e in
      let each : (d : ℕ) → d < k → (leb (get_or least d 0) (key d p) ≡ true) × (ltb (key d p) (get_or end d 0) ≡ true) =
      λ d l. and_true (leb (get_or least d 0) (key d p)) (all_each k (λ d. is_within least end d (key d p)) a.1 d l) in
      record {
        belonging = a.0;
        from_least = λ d l. leb-true (get_or least d 0) (key d p) (each d l).0;
        below_end = λ d l. ltb-true (key d p) (get_or end d 0) (each d l).1;
      }

  pub of_allowed : (least end : List ℕ) (p : ℕ) → Allowed least end p → is_allowed k belongs key least end p ≡ true
  unfolding is_allowed
  of_allowed least end p w = true_and w.belonging (each_all k (λ d. is_within least end d (key d p)) (λ d l.
      true_and (le-leb (get_or least d 0) (key d p) (w.from_least d l)) (lt-ltb (key d p) (get_or end d 0) (w.below_end d l))))

-- Three numbers pass the test.
abbrev pub all_three : (ℕ → Bool) → ℕ → ℕ → ℕ → Bool
all_three test p q r = test p && test q && test r

-- The same, number by number.
pub record EachOfThree (test : ℕ → Bool) (p q r : ℕ) : Type 0 where
  pub first : test p ≡ true
  pub second : test q ≡ true
  pub third : test r ≡ true

pub each_of_three : (test : ℕ → Bool) (p q r : ℕ) → all_three test p q r ≡ true → EachOfThree test p q r
each_of_three test p q r e =
    let a = and_true (test p && test q) e in
    let b = and_true (test p) a.0 in
    record { first = b.0; second = b.1; third = a.1 }

pub of_each_of_three : (test : ℕ → Bool) (p q r : ℕ) → EachOfThree test p q r → all_three test p q r ≡ true
of_each_of_three test p q r w = true_and (true_and w.first w.second) w.third

-- A test that follows from another follows of three numbers too.
three_follow : (test other : ℕ → Bool) (p q r : ℕ) → ((i : ℕ) → test i ≡ true → other i ≡ true)
    → all_three test p q r ≡ true → all_three other p q r ≡ true
three_follow test other p q r follow e =
    let w = each_of_three test p q r e in
    of_each_of_three other p q r (record { first = follow p w.first; second = follow q w.second; third = follow r w.third })

-- How the test of three numbers ends: one does not belong, a key of one is not within, or every key is.
module _ (k : ℕ) (belongs : ℕ → Bool) (key : ℕ → ℕ → ℕ) (least end : List ℕ) (p q r : ℕ) where
  -- What is asked of one number, and of its key on dimension d.
  abbrev test : ℕ → Bool
  test = is_allowed k belongs key least end

  abbrev within : ℕ → ℕ → Bool
  within d i = is_within least end d (key d i)

  pub not_belonging : all_three belongs p q r ≡ false → all_three test p q r ≡ false
  unfolding is_allowed
  not_belonging = contra (three_follow test belongs p q r (λ i e. (and_true (belongs i) e).0))

  pub not_within : (d : ℕ) → d < k → all_three (within d) p q r ≡ false → all_three test p q r ≡ false
  unfolding is_allowed
  not_within d l = contra (three_follow test (within d) p q r (λ i e. all_each k (λ d. within d i) (and_true (belongs i) e).1 d l))

  pub all_within_lem : all_three belongs p q r ≡ true → ((d : ℕ) → d < k → all_three (within d) p q r ≡ true) → all_three test p q r ≡ true
  unfolding is_allowed
  all_within_lem e each =
      let w = each_of_three belongs p q r e in
      let on : (d : ℕ) → d < k → EachOfThree (within d) p q r = λ d l. each_of_three (within d) p q r (each d l) in
      of_each_of_three test p q r (record {
        first = true_and w.first (each_all k (λ d. within d p) (λ d l. (on d l).first));
        second = true_and w.second (each_all k (λ d. within d q) (λ d l. (on d l).second));
        third = true_and w.third (each_all k (λ d. within d r) (λ d l. (on d l).third));
      })

-- On numbers that belong, the order of the shelf is the order of the keys.
abbrev pub Ordered : ℕ → (ℕ → ℕ → ℤ) → (ℕ → Bool) → (ℕ → ℕ → ℕ) → Type 0
Ordered k at belongs key = (d p q : ℕ) → d < k → belongs p ≡ true → belongs q ≡ true → before at d p q ≡ ltb (key d p) (key d q)

-- A node v that is allowed splits on dimension s: its left branch ends at its key, its right branch starts right after it.
module _ (k : ℕ) (at : ℕ → ℕ → ℤ) (belongs : ℕ → Bool) (key : ℕ → ℕ → ℕ) (ordered : Ordered k at belongs key) where
  module _ (least end : List ℕ) (s v : ℕ) (l : s < k) (w : Allowed k belongs key least end v) (p : ℕ) where
    pub left_allowed : s < length end → Allowed k belongs key least end p → before at s p v ≡ true
        → Allowed k belongs key least (set end s (key s v)) p
    left_allowed n a b =
        record { belonging = a.belonging; from_least = a.from_least; below_end = λ d h. go d h (stored end s (key s v) 0 d n) }
      where
        go : (d : ℕ) → d < k → Stored end s (key s v) 0 d → key d p < get_or (set end s (key s v)) d 0
        go d h (inl e) = rw (e.1, e.0) (ltb-true (key s p) (key s v) (sym (ordered s p v l a.belonging w.belonging) ∙ b))
        go d h (inr e) = rw e (a.below_end d h)

    pub allowed_left : s < length end → Allowed k belongs key least (set end s (key s v)) p
        → Allowed k belongs key least end p × (before at s p v ≡ true)
    allowed_left n a = (
      record { belonging = a.belonging; from_least = a.from_least; below_end = λ d h. go d h (stored end s (key s v) 0 d n) },
      ordered s p v l a.belonging w.belonging
          ∙ lt-ltb (key s p) (key s v) (omega (arith, a.below_end s l, get_or-set_same end s (key s v) 0 n)),
    )
      where
        go : (d : ℕ) → d < k → Stored end s (key s v) 0 d → key d p < get_or end d 0
        go d h (inl e) = omega (arith, a.below_end d h, w.below_end s l, ap (λ (i : ℕ). get_or end i 0) e.0)
        go d h (inr e) = omega (arith, a.below_end d h)

    pub right_allowed : s < length least → Allowed k belongs key least end p → before at s v p ≡ true
        → Allowed k belongs key (set least s (key s v + 1)) end p
    right_allowed n a b =
        record { belonging = a.belonging; from_least = λ d h. go d h (stored least s (key s v + 1) 0 d n); below_end = a.below_end }
      where
        go : (d : ℕ) → d < k → Stored least s (key s v + 1) 0 d → get_or (set least s (key s v + 1)) d 0 ≤ key d p
        go d h (inl e) = omega (
          arith,
          ltb-true (key s v) (key s p) (sym (ordered s v p l w.belonging a.belonging) ∙ b),
          ap (λ (i : ℕ). key i p) e.0,
        )
        go d h (inr e) = rw e (a.from_least d h)

    pub allowed_right : s < length least → Allowed k belongs key (set least s (key s v + 1)) end p
        → Allowed k belongs key least end p × (before at s v p ≡ true)
    allowed_right n a = (
      record { belonging = a.belonging; from_least = λ d h. go d h (stored least s (key s v + 1) 0 d n); below_end = a.below_end },
      ordered s v p l w.belonging a.belonging
          ∙ lt-ltb (key s v) (key s p) (omega (arith, a.from_least s l, get_or-set_same least s (key s v + 1) 0 n)),
    )
      where
        go : (d : ℕ) → d < k → Stored least s (key s v + 1) 0 d → get_or least d 0 ≤ key d p
        go d h (inl e) = omega (arith, a.from_least d h, w.from_least s l, ap (λ (i : ℕ). get_or least i 0) e.0)
        go d h (inr e) = omega (arith, a.from_least d h)
