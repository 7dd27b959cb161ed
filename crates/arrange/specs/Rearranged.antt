-- A list with the places from a to e in another order, by swaps; and cuts, places with no greater number before them than after.
-- A cut outside the part that is rearranged stays one, since what stands in the part came from it.
use Rattle.std.specs.Prelude.{◌≡◌, refl, ◌≢◌, ◌⊎◌, List, ℕ, ◌≤◌, ◌<◌, length, get_or, set}
use Rattle.std.proofs.Common.{◌∙◌, inl, inr, arith, length-set, get_or-set_same, get_or-set_other}
use Rattle.std.proofs.Math.Decide.{ℕ_discrete, dec_lt}
use Rattle.theory.specs.Counting.{Same, same_refl, same_trans, same_swap, same_length}

-- What stands at a place of ys stood in xs at a place from a to e.
abbrev pub CameFrom : List ℕ → ℕ → ℕ → ℕ → Type 0
CameFrom xs a e v = (j : ℕ) × (a ≤ j) × (j < e) × (v ≡ get_or xs j 0)

-- ys is xs with the places from a to e in another order.
pub record Rearranged (xs ys : List ℕ) (a e : ℕ) : Type 0 where
  pub same : Same ys xs
  pub from : (i : ℕ) → a ≤ i → i < e → CameFrom xs a e (get_or ys i 0)
  pub before : (i : ℕ) → i < a → get_or ys i 0 ≡ get_or xs i 0
  pub after : (i : ℕ) → e ≤ i → get_or ys i 0 ≡ get_or xs i 0

pub rearranged_none : (xs : List ℕ) (a e : ℕ) → Rearranged xs xs a e
rearranged_none xs a e = record { same = same_refl; from = λ i l h. (i, l, h, refl); before = λ i l. refl; after = λ i l. refl }

-- The places t and i swapped, as the code swaps them.
abbrev pub swapped : List ℕ → ℕ → ℕ → List ℕ
swapped ys t i = set (set ys t (get_or ys i 0)) i (get_or ys t 0)

-- What stands at a place after a swap: at i, at t, or elsewhere.
pub data AfterSwap (ys : List ℕ) (t i c : ℕ) : Type 0 where
  at_second : c ≡ i → get_or (swapped ys t i) c 0 ≡ get_or ys t 0 → AfterSwap ys t i c
  at_first : c ≢ i → c ≡ t → get_or (swapped ys t i) c 0 ≡ get_or ys i 0 → AfterSwap ys t i c
  elsewhere : c ≢ i → c ≢ t → get_or (swapped ys t i) c 0 ≡ get_or ys c 0 → AfterSwap ys t i c

pub after_swap : (ys : List ℕ) (t i c : ℕ) → t < length ys → i < length ys → AfterSwap ys t i c
after_swap ys t i c ht hi = go (ℕ_discrete c i) (ℕ_discrete c t)
  where
    go : Dec (c ≡ i) → Dec (c ≡ t) → AfterSwap ys t i c
    go (yes p) d = at_second p (rw p (get_or-set_same (set ys t (get_or ys i 0)) i (get_or ys t 0) 0 (rw length-set hi)))
    go (no p) (yes q) = at_first p q (get_or-set_other (set ys t (get_or ys i 0)) i c (get_or ys t 0) 0 p ∙ rw q (get_or-set_same ys t (get_or ys i 0) 0 ht))
    go (no p) (no q) = elsewhere p q (get_or-set_other (set ys t (get_or ys i 0)) i c (get_or ys t 0) 0 p ∙ get_or-set_other ys t c (get_or ys i 0) 0 q)

-- A swap within the part.
module _ {xs ys : List ℕ} {a e : ℕ} (w : Rearranged xs ys a e) (t i : ℕ) (at : a ≤ t) (te : t < e) (ai : a ≤ i) (ie : i < e) (el : e ≤ length ys) where
  came : (c : ℕ) → a ≤ c → c < e → AfterSwap ys t i c → CameFrom xs a e (get_or (swapped ys t i) c 0)
  came c l h (at_second p v) = rw v (w.from t at te)
  came c l h (at_first p q v) = rw v (w.from i ai ie)
  came c l h (elsewhere p q v) = rw v (w.from c l h)

  kept : (c : ℕ) → c ≢ i → c ≢ t → AfterSwap ys t i c → get_or (swapped ys t i) c 0 ≡ get_or ys c 0
  kept c p q (at_second r v) = absurd (p r)
  kept c p q (at_first r s v) = absurd (q s)
  kept c p q (elsewhere r s v) = v

  pub rearranged_swap : Rearranged xs (swapped ys t i) a e
  rearranged_swap =
      let ht : t < length ys = omega arith in
      let hi : i < length ys = omega arith in
      record {
        same = same_trans (same_swap 0 ys t i ht hi) w.same;
        from = λ c l h. came c l h (after_swap ys t i c ht hi);
        before = λ c l. kept c (λ p. omega arith) (λ q. omega arith) (after_swap ys t i c ht hi) ∙ w.before c l;
        after = λ c l. kept c (λ p. omega arith) (λ q. omega arith) (after_swap ys t i c ht hi) ∙ w.after c l;
      }

-- The places before c hold no greater number than those from c on.
pub record Cut (ys : List ℕ) (c : ℕ) : Type 0 where
  pub ordered : (i j : ℕ) → i < c → c ≤ j → j < length ys → get_or ys i 0 ≤ get_or ys j 0

pub below_or_from : (i n : ℕ) → (i < n) ⊎ (n ≤ i)
below_or_from i n = go (dec_lt i n)
  where
    go : Dec (i < n) → (i < n) ⊎ (n ≤ i)
    go (yes l) = inl l
    go (no f) = inr (omega arith)

-- Where what stands at a place came from: from the same place, or both places are in the part.
pub data Origin (xs : List ℕ) (a e i v : ℕ) : Type 0 where
  stayed : v ≡ get_or xs i 0 → Origin xs a e i v
  moved : (j : ℕ) → a ≤ i → i < e → a ≤ j → j < e → v ≡ get_or xs j 0 → Origin xs a e i v

module _ {xs ys : List ℕ} {a e : ℕ} (w : Rearranged xs ys a e) (el : e ≤ length xs) where
  origin : (i : ℕ) → Origin xs a e i (get_or ys i 0)
  origin i = go (below_or_from i a) (below_or_from i e)
    where
      go : (i < a) ⊎ (a ≤ i) → (i < e) ⊎ (e ≤ i) → Origin xs a e i (get_or ys i 0)
      go (inl l) h = stayed (w.before i l)
      go (inr l) (inl h) = let f = w.from i l h in moved f.0 l h f.1 f.2 f.3
      go (inr l) (inr h) = stayed (w.after i h)

  -- A cut that is not within the part stays one.
  pub keep_cut : (c : ℕ) → (c ≤ a) ⊎ (e ≤ c) → Cut xs c → Cut ys c
  keep_cut c out cut = record { ordered = λ i j l h u. go i j out l h (omega (arith, same_length w.same)) (origin i) (origin j) }
    where
      go : (i j : ℕ) → (c ≤ a) ⊎ (e ≤ c) → i < c → c ≤ j → j < length xs → Origin xs a e i (get_or ys i 0) → Origin xs a e j (get_or ys j 0)
          → get_or ys i 0 ≤ get_or ys j 0
      go i j o l h u (stayed p) (stayed q) = omega (arith, cut.ordered i j l h u)
      go i j (inl o) l h u (stayed p) (moved y q r s t v) = omega (arith, cut.ordered i y l (omega arith) (omega arith))
      go i j (inr o) l h u (stayed p) (moved y q r s t v) = absurd (omega arith)
      go i j (inl o) l h u (moved x p q r s v) z = absurd (omega arith)
      go i j (inr o) l h u (moved x p q r s v) (stayed y) = omega (arith, cut.ordered x j (omega arith) h u)
      go i j (inr o) l h u (moved x p q r s v) (moved y b d f g k) = absurd (omega arith)

-- A cut within a part whose ends are cuts is found by looking at the part alone.
pub inner_cut : {ys : List ℕ} {a e : ℕ} (c : ℕ) → a ≤ c → c ≤ e → Cut ys a → Cut ys e
    → ((i j : ℕ) → a ≤ i → i < c → c ≤ j → j < e → get_or ys i 0 ≤ get_or ys j 0) → Cut ys c
inner_cut {ys} {a} {e} c low high start end within = record { ordered = λ i j l h u. go i j l h u (below_or_from i a) (below_or_from j e) }
  where
    go : (i j : ℕ) → i < c → c ≤ j → j < length ys → (i < a) ⊎ (a ≤ i) → (j < e) ⊎ (e ≤ j) → get_or ys i 0 ≤ get_or ys j 0
    go i j l h u (inl x) y = start.ordered i j x (omega arith) u
    go i j l h u (inr x) (inl y) = within i j x l h y
    go i j l h u (inr x) (inr y) = end.ordered i j (omega arith) y u
