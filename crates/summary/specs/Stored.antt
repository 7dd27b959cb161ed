-- Boxes that stand in the summary, slot after slot from a slot on. A slot's box is two points of k coordinates, the least and the greatest.
use Rattle.std.specs.Prelude.{◌≡◌, refl, List, [], ◌∷◌, ◌++◌, ℕ, zero, suc, ◌+◌, ◌-◌, ◌*◌, ◌/◌, ◌≤◌, ◌<◌, length, get_or, take, drop, ℤ, pos}
use Rattle.std.proofs.Common.{sym, ap, ◌∙◌, not-suc-le-zero, mul-le-mul, arith, length-append, length-drop, get_or-append-add, get_or-take, get_or-drop, length-take-le}
use Rattle.std.proofs.Math.ListN.{get_or-append}
use Rattle.terms.specs.Points.{coord}
use Rattle.terms.specs.Run.{lefts, rights}
use Rattle.terms.specs.Box.{Box}
use Rattle.terms.specs.TightBox.{tight_box, tight_boxes}
use Rattle.terms.specs.Summary.{corners_of, summary}
use Rattle.theory.specs.RunParts.{left_length, right_length}
use Rattle.theory.specs.Boxes.{Alike}
use Rattle.theory.specs.TightBoxes.{tights_split, tights_fuel, tights_length}
use Rattle.theory.specs.Summary.{boxes_corners_length, low_stands, high_stands}
use Rattle.region.specs.Ranges.{BoxRanges}
use Rattle.descent.specs.Points.{HasPoint}

-- The points of a slot's box.
abbrev pub low_at : ℕ → ℕ
low_at i = i + i

abbrev pub high_at : ℕ → ℕ
high_at i = i + i + 1

-- The summary has a box in slot i.
pub record HasBox (k : ℕ) (S : List ℤ) (i : ℕ) : Type 0 where
  pub few : i ≤ 65535
  pub low : HasPoint k S (low_at i)
  pub high : HasPoint k S (high_at i)

-- They are there by whatever number the code has for them.
pub point_by : {k : ℕ} {S : List ℤ} {p q : ℕ} → HasPoint k S q → p ≡ q → HasPoint k S p
point_by h e = rw e h

pub box_by : {k : ℕ} {S : List ℤ} {i j : ℕ} → HasBox k S j → i ≡ j → HasBox k S i
box_by h e = rw e h

-- The box has the coordinates that the summary has for slot i.
pub record BoxAt (k : ℕ) (S : List ℤ) (i : ℕ) (b : Box) : Type 0 where
  pub lows : (d : ℕ) → d < k → b.low d ≡ coord k S (low_at i) d
  pub highs : (d : ℕ) → d < k → b.high d ≡ coord k S (high_at i) d

-- It stands there.
pub record Stands (k : ℕ) (S : List ℤ) (i : ℕ) (b : Box) : Type 0 where
  pub room : (i + 1) * (k + k) ≤ length S
  pub box : BoxAt k S i b

-- A box in range that stands in a slot can be read, and what is read is alike.
module _ {k : ℕ} {S : List ℤ} {i : ℕ} {b : Box} (o : Stands k S i b) where
  pub stands_read : k ≤ 4 → i ≤ 65535 → BoxRanges k b → HasBox k S i
  stands_read few slots r = record {
    few = slots;
    low = record { few = few; room = omega (arith, o.room); ranges = record { ranges = λ d l. rw (← o.box.lows d l) (r.low.ranges d l) } };
    high = record { few = few; room = omega (arith, o.room); ranges = record { ranges = λ d l. rw (← o.box.highs d l) (r.high.ranges d l) } };
  }

  pub stands_alike : {c : Box} → BoxAt k S i c → Alike k c b
  stands_alike r = record { lows = λ d l. r.lows d l ∙ sym (o.box.lows d l); highs = λ d l. r.highs d l ∙ sym (o.box.highs d l) }

-- What stands in a part of the summary stands in the summary.
module _ (k : ℕ) (S : List ℤ) where
  same_place : (j : ℕ) {T : List ℤ} {i : ℕ} {b : Box} → ((n : ℕ) → n < (i + 1) * (k + k) → get_or T n (pos 0) ≡ get_or S (j * (k + k) + n) (pos 0))
      → (j + i + 1) * (k + k) ≤ length S → Stands k T i b → Stands k S (j + i) b
  same_place j {T} {i} same room s = record {
    room = room;
    box = record {
      lows = λ d l.
          let e : low_at (j + i) * k + d ≡ j * (k + k) + (low_at i * k + d) = omega arith in
          rw e (s.box.lows d l ∙ same (low_at i * k + d) (omega arith));
      highs = λ d l.
          let e : high_at (j + i) * k + d ≡ j * (k + k) + (high_at i * k + d) = omega arith in
          rw e (s.box.highs d l ∙ same (high_at i * k + d) (omega arith));
    };
  }

  pub stands_in_front : {m i : ℕ} {b : Box} → m ≤ length S → Stands k (take m S) i b → Stands k S i b
  stands_in_front {m} {i} fits s =
      let front = length-take-le m S fits in
      let z : 0 + i ≡ i = omega arith in
      let none : (n : ℕ) → n ≡ 0 * (k + k) + n = λ n. omega arith in
      rw z at (same_place 0
      (λ n l. get_or-take m S n (pos 0) (omega (arith, s.room)) ∙ ap (λ (q : ℕ). get_or S q (pos 0)) (none n))
      (rw z (omega (arith, s.room)))
      s)

  pub stands_behind : (j : ℕ) {i : ℕ} {b : Box} → j * (k + k) ≤ length S → Stands k (drop (j * (k + k)) S) i b → Stands k S (j + i) b
  stands_behind j {i} fits s =
      let behind = length-drop (j * (k + k)) S in
      same_place j (λ n l. get_or-drop (j * (k + k)) S n (pos 0)) (omega (arith, s.room)) s

-- The summary has these boxes from slot a on.
pub record Stored (k : ℕ) (S : List ℤ) (a : ℕ) (bs : List Box) : Type 0 where
  pub each : (i : ℕ) → i < length bs → Stands k S (a + i) (get_or bs i (tight_box (coord k S) []))

pub stored_all : (k : ℕ) (S : List ℤ) (bs : List Box) → S ≡ corners_of k bs → Stored k S 0 bs
stored_all k S bs e = record {
  each = λ i l.
      let none : Box = tight_box (coord k S) [] in
      let more : (i + 1) * (k + k) ≤ length bs * (k + k) = mul-le-mul (let h : i + 1 ≤ length bs = omega arith in h) (let h : k + k ≤ k + k = omega arith in h) in
      record {
        room = omega (arith, boxes_corners_length k bs, ap length e);
        box = record {
          lows = λ d m. let p : low_at (0 + i) * k + d ≡ i * (k + k) + d = omega arith in sym (ap (λ (xs : List ℤ). get_or xs (low_at (0 + i) * k + d) (pos 0)) e ∙ ap (λ (n : ℕ). get_or (corners_of k bs) n (pos 0)) p ∙ low_stands k none bs i d l m);
          highs = λ d m. let p : high_at (0 + i) * k + d ≡ i * (k + k) + k + d = omega arith in sym (ap (λ (xs : List ℤ). get_or xs (high_at (0 + i) * k + d) (pos 0)) e ∙ ap (λ (n : ℕ). get_or (corners_of k bs) n (pos 0)) p ∙ high_stands k none bs i d l m);
        };
      };
}

module _ {k : ℕ} {S : List ℤ} {a : ℕ} (L : List Box) (b : Box) (R : List Box) (s : Stored k S a (L ++ b ∷ R)) where
  stored_left : Stored k S a L
  stored_left = record {
    each = λ i l. rw (get_or-append L (b ∷ R) (tight_box (coord k S) []) i l) at (s.each i (omega (arith, length-append L (b ∷ R))));
  }

  stored_own : Stands k S (a + length L) b
  stored_own =
      let z : length L + 0 ≡ length L = omega arith in
      rw z at (rw (get_or-append-add L (b ∷ R) 0 (tight_box (coord k S) [])) at (s.each (length L + 0) (omega (arith, length-append L (b ∷ R)))))

  stored_right : Stored k S (a + length L + 1) R
  stored_right = record {
    each = λ i l.
        let p : a + (length L + suc i) ≡ a + length L + 1 + i = omega arith in
        rw p at (rw (get_or-append-add L (b ∷ R) (suc i) (tight_box (coord k S) [])) at (s.each (length L + suc i) (omega (arith, length-append L (b ∷ R)))));
  }

-- The tight boxes of a run of c slots, of which there is one: those of its left branch, its own, those of its right branch.
pub tights_run : (c : ℕ) (at : ℕ → ℕ → ℤ) (run : List ℕ) → length run ≡ c → 0 < c
    → tight_boxes c at run ≡ tight_boxes (c / 2) at (lefts run) ++ tight_box at run ∷ tight_boxes (c - c / 2 - 1) at (rights run)
tights_run zero at run e some = absurd (not-suc-le-zero some)
tights_run (suc f) at run e some =
    let m = left_length run in
    let r = right_length run in
    tights_split f at run (omega arith)
    ∙ rw (
      tights_fuel f (suc f / 2) at (lefts run) (omega arith) (omega arith),
      tights_fuel f (suc f - suc f / 2 - 1) at (rights run) (omega arith) (omega arith),
    )

module _ {k : ℕ} {S : List ℤ} {a c : ℕ} (at : ℕ → ℕ → ℤ) (run : List ℕ) (e : length run ≡ c) (some : 0 < c) (s : Stored k S a (tight_boxes c at run)) where
  left_many : length (tight_boxes (c / 2) at (lefts run)) ≡ c / 2
  left_many = tights_length (c / 2) at (lefts run) (omega (arith, left_length run)) ∙ omega (arith, left_length run)

  split : Stored k S a (tight_boxes (c / 2) at (lefts run) ++ tight_box at run ∷ tight_boxes (c - c / 2 - 1) at (rights run))
  split = rw (tights_run c at run e some) at s

  pub run_left : Stored k S a (tight_boxes (c / 2) at (lefts run))
  run_left = stored_left _ _ _ split

  pub run_own : Stands k S (a + c / 2) (tight_box at run)
  run_own = rw left_many at (stored_own (tight_boxes (c / 2) at (lefts run)) (tight_box at run) (tight_boxes (c - c / 2 - 1) at (rights run)) split)

  pub run_right : Stored k S (a + c / 2 + 1) (tight_boxes (c - c / 2 - 1) at (rights run))
  run_right = rw left_many at (stored_right (tight_boxes (c / 2) at (lefts run)) (tight_box at run) (tight_boxes (c - c / 2 - 1) at (rights run)) split)

-- The box of a run stands in the middle of its summary.
pub middle_stands : (k : ℕ) (at : ℕ → ℕ → ℤ) (run : List ℕ) (S : List ℤ) → 0 < length run → S ≡ summary k at run → Stands k S (length run / 2) (tight_box at run)
middle_stands k at run S some e =
    let z : 0 + length run / 2 ≡ length run / 2 = omega arith in
    rw z at (run_own at run refl some (stored_all k S (tight_boxes (length run) at run) e))
