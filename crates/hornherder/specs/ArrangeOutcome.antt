-- What the arrange call gives, put together: where its first refusal is not 0, the refusal; where it is 0, the order as it was where it is the tree, and else the
-- tree before the later places.
use Rattle.std.specs.Prelude.{◌≡◌, refl, ◌≢◌, true, false}
use Rattle.std.proofs.Math.Path.{sym}
use Rattle.std.proofs.Common.{◌∙◌, arith, take_at}
use mathlib.Core.List.{List, ◌++◌}
use Prim.Native.Nat.{ℕ, ◌≤◌}
use Rattle.std.proofs.Math.ListN.{length, drop, length-append, length-drop}
use Rattle.std.proofs.Math.Seq.{drop_at}
use Rattle.terms.specs.Lent.{Stock, Order, order_of}
use Rattle.terms.specs.Points.{point_of, belongs_to, slots_of}
use Rattle.terms.specs.Tree.{each_once, is_tree, is_shelf}
use Rattle.terms.specs.ArrangeCall.{arrange_refusals, arrange_code, arrange_answer, ArrangedAs}
use Rattle.theory.specs.Flags.{and_true}
use Rattle.theory.specs.StockNumbers.{stock_slots}
use Rattle.theory.specs.FirstRefusal.{if_refused}
use Rattle.theory.specs.ArrangeCall.{ArrangePassed, arrange_passed, arrange_done_answer}
use Rattle.hornherder.specs.First.{First}

module _ (s : Stock) (o : Order) {c : ℕ} (f : First (arrange_refusals s o) c) where
  arrange_coded : c ≡ arrange_code s o
  unfolding arrange_code
  arrange_coded = f.is

  -- What 1, 2, 3, 15, 4 and 5 have tested.
  pub arrange_tested : c ≡ 0 → ArrangePassed s o
  arrange_tested z = arrange_passed s o (sym arrange_coded ∙ z)

  pub arrange_refused : c ≢ 0 → ArrangedAs s o (record { code = c; already = 0 }) o
  unfolding arrange_answer
  arrange_refused m = record {
    answered = rw (← arrange_coded) (sym (if_refused c _ _ m));
    size = refl;
    arranged = λ z. absurd (m z);
    later = λ z. refl;
    refused = λ z. refl;
  }

  -- The order is the tree already.
  pub arrange_kept : c ≡ 0 → is_shelf s o ≡ true → ArrangedAs s o (record { code = 0; already = 1 }) o
  arrange_kept z t = record {
    answered = sym (rw t at (arrange_done_answer s o (sym arrange_coded ∙ z)));
    size = refl;
    arranged = λ e. t;
    later = λ e. refl;
    refused = λ e. refl;
  }

  -- It is not, and the tree was built.
  pub arrange_made : c ≡ 0 → is_shelf s o ≡ false → (after : List ℕ) → is_tree s.k (point_of s) (belongs_to s) s.n after ≡ true
      → ArrangedAs s o (record { code = 0; already = 0 }) (order_of (after ++ drop (slots_of s) o.slots))
  unfolding is_tree
  arrange_made z other after t =
      let later : List ℕ = drop (slots_of s) o.slots in
      let slots : length after ≡ slots_of s = stock_slots s after (and_true (each_once (belongs_to s) s.n after) t).0 in
      let room : slots_of s ≤ length o.slots = (arrange_tested z).room in
      record {
        answered = sym (rw other at (arrange_done_answer s o (sym arrange_coded ∙ z)));
        size = omega (arith, length-append after later, length-drop (slots_of s) o.slots);
        arranged = λ e. rw (take_at after later (slots_of s) slots) t;
        later = λ e. drop_at after later (slots_of s) slots;
        refused = λ e. absurd (e refl);
      }
