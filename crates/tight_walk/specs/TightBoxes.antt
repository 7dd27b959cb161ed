-- The branches of a shelf by their tight boxes. The tree is nowhere asked for: the tight box of a run holds it, and so its two branches, whose tight boxes lie within it.
use Rattle.std.specs.Prelude.{◌≡◌, refl, List, ◌∷◌, ◌++◌, ℕ, ◌+◌, ◌-◌, ◌/◌, ◌≤◌, ◌<◌, length, get_or, drop, ℤ}
use Rattle.std.proofs.Common.{ap, ◌∙◌, arith, get_or-take, get_or-drop}
use Rattle.terms.specs.Points.{coord}
use Rattle.terms.specs.Run.{rights}
use Rattle.terms.specs.Box.{Box}
use Rattle.terms.specs.TightBox.{tight_box, tight_boxes}
use Rattle.theory.specs.Boxes.{Held, Alike, Nested, alike_sym, alike_nested, nested_trans}
use Rattle.theory.specs.BoxLaws.{held_root, held_alike}
use Rattle.theory.specs.TightBoxes.{tight_nested, held_lefts, held_rights, tights_length}
use Rattle.region.specs.Ranges.{BoxRanges}
use Rattle.descent.specs.Standing.{Known}
use Rattle.descent.specs.Slots.{run_of, run_length, run_lefts, run_rights}
use Rattle.descent.specs.Root.{root_ranges}
use Rattle.summary.specs.Stored.{Stored, Stands, HasBox, BoxAt, stands_read, stands_alike, tights_run, run_left, run_own, run_right}

-- The tight boxes of the c slots from slot a on.
abbrev pub tights : (ℕ → ℕ → ℤ) → List ℕ → ℕ → ℕ → List Box
tights at order a c = tight_boxes c at (run_of order a c)

-- The slots from slot a on, so many, whose tight boxes stand in the summary.
pub record Summarised (k : ℕ) (points : List ℤ) (order : List ℕ) (S : List ℤ) (a c : ℕ) : Type 0 where
  pub many : length order ≤ 65535
  pub fits : a + c ≤ length order
  pub known : Known k points order
  pub stored : Stored k S a (tights (coord k points) order a c)

-- The box that was read for so many slots: the one that stands in their node's slot; for none, the one around.
pub record BoxRead (k : ℕ) (S : List ℤ) (a c : ℕ) (around b : Box) : Type 0 where
  pub read : 0 < c → BoxAt k S (a + c / 2) b
  pub none : c ≡ 0 → b ≡ around

module _ {k : ℕ} {points : List ℤ} {order : List ℕ} {S : List ℤ} {a c : ℕ} (w : Summarised k points order S a c) where
  abbrev at : ℕ → ℕ → ℤ
  at = coord k points

  abbrev run : List ℕ
  run = run_of order a c

  pub slots : length run ≡ c
  slots = run_length order a c w.fits

  -- There is one box for each slot.
  pub tights_many : length (tights at order a c) ≡ c
  tights_many = tights_length c at run (omega (arith, slots)) ∙ slots

  module _ (some : 0 < c) where
    run_some : 0 < length run
    run_some = omega (arith, slots)

    run_known : Known k points run
    run_known = record { each = λ e l. rw (slot e l) (w.known.each (a + e) (omega (arith, slots, w.fits))) }
      where
        slot : (e : ℕ) → e < length run → get_or run e 0 ≡ get_or order (a + e) 0
        slot e l = get_or-take c (drop a order) e 0 (omega (arith, slots)) ∙ get_or-drop a order e 0

    -- The branch's tight box stands in the slot of its node, and can be read.
    own_stands : Stands k S (a + c / 2) (tight_box at run)
    own_stands = run_own at run slots some w.stored

    pub own_read : HasBox k S (a + c / 2)
    own_read =
        stands_read own_stands (w.known.each (a + c / 2) (omega (arith, w.fits))).few (omega (arith, w.many, w.fits))
        (root_ranges run run_some run_known (record { lows = λ d l. refl; highs = λ d l. refl }))

    -- What was read is the tight box: it is in range, and holds the run.
    module _ {b : Box} (read : BoxAt k S (a + c / 2) b) where
      pub read_alike : Alike k b (tight_box at run)
      read_alike = stands_alike own_stands read

      pub read_ranges : BoxRanges k b
      read_ranges = root_ranges run run_some run_known read_alike

      pub read_held : Held k at b run
      read_held = held_alike (alike_sym read_alike) (held_root k at run)

      -- It lies in every box that holds the run.
      pub read_nested : {around : Box} → Held k at around run → Nested k b around
      read_nested held = nested_trans (alike_nested read_alike) (tight_nested k at run run_some held)

    -- Its two branches are summarised too.
    pub summarised_left : Summarised k points order S a (c / 2)
    summarised_left = record {
      many = w.many;
      fits = omega (arith, w.fits);
      known = w.known;
      stored = rw (run_lefts order a c w.fits) at (run_left at run slots some w.stored);
    }

    pub summarised_right : Summarised k points order S (a + c / 2 + 1) (c - c / 2 - 1)
    summarised_right = record {
      many = w.many;
      fits = omega (arith, w.fits);
      known = w.known;
      stored = rw (run_rights order a c w.fits some) at (run_right at run slots some w.stored);
    }

    -- A box that holds the run holds both.
    pub left_held : {b : Box} → Held k at b run → Held k at b (run_of order a (c / 2))
    left_held held = rw (run_lefts order a c w.fits) at (held_lefts held)

    pub right_held : {b : Box} → Held k at b run → Held k at b (run_of order (a + c / 2 + 1) (c - c / 2 - 1))
    right_held held = rw (run_rights order a c w.fits some) at (held_rights held)

    -- The tight boxes of its slots: those of its left branch, its own, those of its right branch.
    pub tights_whole : tights at order a c ≡ tights at order a (c / 2) ++ tight_box at run ∷ tights at order (a + c / 2 + 1) (c - c / 2 - 1)
    tights_whole =
        tights_run c at run slots some
        ∙ ap (λ (xs : List ℕ). tight_boxes (c / 2) at xs ++ tight_box at run ∷ tight_boxes (c - c / 2 - 1) at (rights run)) (run_lefts order a c w.fits)
        ∙ ap (λ (xs : List ℕ). tights at order a (c / 2) ++ tight_box at run ∷ tight_boxes (c - c / 2 - 1) at xs) (run_rights order a c w.fits some)
