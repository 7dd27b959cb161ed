-- What it means that the number of a place is chosen, and how the passes come to it: every pass over a part leaves one more cut.
use Rattle.std.specs.Prelude.{◌≡◌, refl, List, ℕ, ◌+◌, ◌≤◌, ◌<◌, length, get_or}
use Rattle.std.proofs.Common.{inl, inr, arith}
use Rattle.theory.specs.Counting.{Same, same_refl, same_trans, same_length}
use Rattle.arrange.specs.Rearranged.{Rearranged, Cut, keep_cut, inner_cut}
use Rattle.arrange.specs.Parted.{Parted}
use Rattle.arrange.specs.LeastFirst.{LeastFirst}

-- ys is xs in another order, with no greater number before the place m and no smaller one after it.
pub record Chosen (xs ys : List ℕ) (m : ℕ) : Type 0 where
  pub same : Same ys xs
  pub from : Cut ys m
  pub past : Cut ys (m + 1)

-- ys is xs in another order, and the number of the place m is one of those from a to e: both ends are cuts.
pub record Narrowed (xs ys : List ℕ) (m a e : ℕ) : Type 0 where
  pub same : Same ys xs
  pub size : length ys ≡ length xs
  pub from : a ≤ m
  pub to : m < e
  pub room : e ≤ length ys
  pub start : Cut ys a
  pub end : Cut ys e

pub narrowed_all : (xs : List ℕ) (m : ℕ) → m < length xs → Narrowed xs xs m 0 (length xs)
narrowed_all xs m h = record {
  same = same_refl;
  size = refl;
  from = omega arith;
  to = h;
  room = omega arith;
  start = record { ordered = λ i j l u v. absurd (omega arith) };
  end = record { ordered = λ i j l u v. absurd (omega arith) };
}

module _ {xs ys zs : List ℕ} {m a e : ℕ} (n : Narrowed xs ys m a e) where
  -- A rearranged part keeps what is known.
  pub narrowed_moved : Rearranged ys zs a e → Narrowed xs zs m a e
  narrowed_moved w =
      let s = same_length w.same in
      record {
        same = same_trans w.same n.same;
        size = omega (arith, n.size);
        from = n.from;
        to = n.to;
        room = omega (arith, n.room);
        start = keep_cut w n.room a (inl (omega arith)) n.start;
        end = keep_cut w n.room e (inr (omega arith)) n.end;
      }

  -- A pass by a pivot cuts the part in two, and the half with the place m is kept.
  module _ {p r : ℕ} (w : Parted ys zs a e p e r) where
    pivot_cut : Cut zs r
    pivot_cut =
        let k = narrowed_moved w.moved in
        inner_cut r w.low w.high k.start k.end (λ i j l h u v. omega (arith, w.below i l h, w.above j u v))

    pub narrowed_left : m < r → Narrowed xs zs m a r
    narrowed_left h =
        let k = narrowed_moved w.moved in
        record { same = k.same; size = k.size; from = k.from; to = h; room = omega (arith, k.room, w.high); start = k.start; end = pivot_cut }

    pub narrowed_right : r ≤ m → Narrowed xs zs m r e
    narrowed_right h =
        let k = narrowed_moved w.moved in
        record { same = k.same; size = k.size; from = h; to = k.to; room = k.room; start = pivot_cut; end = k.end }

  -- A pass for the least cuts its place off.
  module _ (w : LeastFirst ys zs a e e) where
    least_cut : Cut zs (a + 1)
    least_cut =
        let k = narrowed_moved w.moved in
        inner_cut (a + 1) (omega arith) (omega (arith, n.from, n.to)) k.start k.end (λ i j l h u v. least_at i l h j u v)
      where
        least_at : (i : ℕ) → a ≤ i → i < a + 1 → (j : ℕ) → a + 1 ≤ j → j < e → get_or zs i 0 ≤ get_or zs j 0
        least_at i l h j u v = let q : i ≡ a = omega arith in rw q (w.least j (omega arith) v)

    pub narrowed_least : a < m → Narrowed xs zs m (a + 1) e
    narrowed_least h =
        let k = narrowed_moved w.moved in
        record { same = k.same; size = k.size; from = omega arith; to = k.to; room = k.room; start = least_cut; end = k.end }

    -- Where that is the place m, its number is chosen.
    pub chosen_least : a ≡ m → Chosen xs zs m
    chosen_least h =
        let k = narrowed_moved w.moved in
        record { same = k.same; from = rw (← h) k.start; past = rw (← h) least_cut }

-- What is narrowed already may be taken for the list that came.
pub narrowed_here : {xs ys : List ℕ} {m a e : ℕ} → Narrowed xs ys m a e → Narrowed ys ys m a e
narrowed_here n = record { same = same_refl; size = refl; from = n.from; to = n.to; room = n.room; start = n.start; end = n.end }

pub chosen_from : {xs ys zs : List ℕ} {m : ℕ} → Same ys xs → Chosen ys zs m → Chosen xs zs m
chosen_from s c = record { same = same_trans c.same s; from = c.from; past = c.past }
