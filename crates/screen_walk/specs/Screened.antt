-- What the screen of a run of slots finds: the first of the run's numbers that are inside, or none, and the open ones of the boxes of its slots up to that one.
-- A settled branch gives its first slot or none, and no slot of it is open. An open one is its left branch; where that has none, its own number; where that is
-- outside, its right branch. So its own box counts only where the left branch has none.
use Rattle.std.specs.Prelude.{◌≡◌, Bool, true, false, List, [], ◌∷◌, ◌++◌, map, ℕ, ◌+◌, length, take, ℤ}
use Rattle.std.proofs.Math.Path.{refl}
use Rattle.std.proofs.Common.{ap, ◌∙◌, arith}
use Rattle.std.proofs.lemmas.List.{length-map, take-append-le}
use Rattle.std.proofs.Math.Seq.{take-append-add, take-length}
use Rattle.terms.specs.Tests.{count, keep}
use Rattle.terms.specs.Box.{Box}
use Rattle.terms.specs.Region.{Region, inside, is_open}
use Rattle.terms.specs.Lists.{insides}
use Rattle.terms.specs.Screen.{up_to_first}
use Rattle.theory.specs.Flags.{clash}
use Rattle.theory.specs.Counting.{count_append}
use Rattle.theory.specs.Keeping.{keep_append}
use Rattle.theory.specs.FirstInside.{up_le, up_past, up_none, up_within, count_take_le}

-- How many of the boxes of a run's slots are open, up to and including the first slot that is inside.
abbrev pub opens_seen : Region → (ℕ → ℕ → ℤ) → List ℕ → List Box → ℕ
opens_seen g at run slot_boxes = count (is_open g) (take (up_to_first (map (λ p. inside g (at p)) run)) slot_boxes)

-- The screen of a run whose slots have these boxes, after u visits: whether it found a number, which, and the visits then.
pub record Screened (g : Region) (at : ℕ → ℕ → ℤ) (run : List ℕ) (slot_boxes : List Box) (u : ℕ) (found : Bool) (number v : ℕ) : Type 0 where
  pub none : found ≡ false → insides g at run ≡ []
  pub one : found ≡ true → (rest : List ℕ) × (insides g at run ≡ number ∷ rest)
  pub visits : v ≡ u + opens_seen g at run slot_boxes

-- Where none is found every box is counted.
pub screened_all : {g : Region} {at : ℕ → ℕ → ℤ} {run : List ℕ} {slot_boxes : List Box} {u number v : ℕ} → length slot_boxes ≡ length run
    → Screened g at run slot_boxes u false number v → v ≡ u + count (is_open g) slot_boxes
screened_all {g} {at} {run} {slot_boxes} slots w =
    let up = up_none (λ p. inside g (at p)) run (w.none refl) in
    let all : take (length run) slot_boxes ≡ slot_boxes = rw slots at (take-length slot_boxes) in
    rw (up, all) at w.visits

module _ (g : Region) (at : ℕ → ℕ → ℤ) (run : List ℕ) (slot_boxes : List Box) (u : ℕ) (shut : count (is_open g) slot_boxes ≡ 0) where
  -- Where no box is open nothing is visited.
  unvisited : u ≡ u + opens_seen g at run slot_boxes
  unvisited = omega (arith, count_take_le (is_open g) (up_to_first (map (λ p. inside g (at p)) run)) slot_boxes)

  -- None inside.
  pub screened_out : (number : ℕ) → insides g at run ≡ [] → Screened g at run slot_boxes u false number u
  screened_out number e = record { none = λ z. e; one = λ z. clash z refl; visits = unvisited }

  -- All inside: the first slot's number.
  pub screened_in : (p : ℕ) (rest : List ℕ) → insides g at run ≡ p ∷ rest → Screened g at run slot_boxes u true p u
  screened_in p rest e = record { none = λ z. clash refl z; one = λ z. (rest, e); visits = unvisited }

module _ (g : Region) (at : ℕ → ℕ → ℤ) (left : List ℕ) (p : ℕ) (right : List ℕ) (lefts : List Box) (b : Box) (rights : List Box)
    (slots : length lefts ≡ length left) where
  abbrev test : ℕ → Bool
  test q = inside g (at q)

  -- The left branch has one: nothing further is counted.
  pub screened_left : {u number v : ℕ} → Screened g at left lefts u true number v → Screened g at (left ++ p ∷ right) (lefts ++ b ∷ rights) u true number v
  screened_left {u} {number} {v} w =
      let (rest, e) = w.one refl in
      let up = up_within test left (p ∷ right) number rest e in
      let few = up_le (map test left) in
      let part = take-append-le (up_to_first (map test left)) lefts (b ∷ rights) (omega (arith, length-map left test)) in
      record {
        none = λ z. clash refl z;
        one = λ z. (rest ++ keep test (p ∷ right), keep_append test left (p ∷ right) ∙ ap (λ (ps : List ℕ). ps ++ keep test (p ∷ right)) e);
        visits = rw (up, part) w.visits;
      }

  -- It has none: its boxes are all counted, and then those of the others.
  past : insides g at left ≡ [] → opens_seen g at (left ++ p ∷ right) (lefts ++ b ∷ rights) ≡ count (is_open g) lefts + opens_seen g at (p ∷ right) (b ∷ rights)
  past e =
      let up = up_past test left (p ∷ right) e in
      let m : ℕ = up_to_first (map test (p ∷ right)) in
      rw (up, ← slots, take-append-add lefts (b ∷ rights) m) (count_append (is_open g) lefts (take m (b ∷ rights)))

  kept_past : insides g at left ≡ [] → insides g at (left ++ p ∷ right) ≡ keep test (p ∷ right)
  kept_past e = keep_append test left (p ∷ right) ∙ ap (λ (ps : List ℕ). ps ++ keep test (p ∷ right)) e

  module _ {u v : ℕ} (own_open : is_open g b ≡ true) (none : insides g at left ≡ []) (seen : v ≡ u + count (is_open g) lefts) where
    -- Its own number is inside: its own visit is the last.
    pub screened_own : test p ≡ true → Screened g at (left ++ p ∷ right) (lefts ++ b ∷ rights) u true p (v + 1)
    unfolding up_to_first count keep
    screened_own e = record {
      none = λ z. clash refl z;
      one = λ z. (keep test right, kept_past none ∙ rw e refl);
      visits = let all = rw (e, own_open) at (past none) in omega (arith, all);
    }

    -- It is outside: the right branch has the answer.
    pub screened_right : {found : Bool} {number last : ℕ} → test p ≡ false → Screened g at right rights (v + 1) found number last
        → Screened g at (left ++ p ∷ right) (lefts ++ b ∷ rights) u found number last
    unfolding up_to_first count keep
    screened_right e w =
        let kept : insides g at (left ++ p ∷ right) ≡ insides g at right = kept_past none ∙ rw e refl in
        record {
          none = λ z. kept ∙ w.none z;
          one = λ z. let (rest, h) = w.one z in (rest, kept ∙ h);
          visits = let all = rw (e, own_open) at (past none) in omega (arith, all, w.visits);
        }
