-- The live numbers: only numbers below n are live, v of them, and with all bytes 1 they are the numbers below n. A take makes one more of them and a
-- withdrawal one fewer, so that the total after any sequence of the two is told by how many of each were done.
use Rattle.std.specs.Prelude.{◌≡◌, refl, ◌≢◌, ◌⊎◌, true, false, not, List, [], ◌∷◌, ℕ, ◌+◌, ◌≤◌, ◌<◌, length, get_or, set, eqb, ltb}
use Rattle.std.proofs.Common.{sym, ap, ◌∙◌, inl, inr, arith, length-set, get_or-set_same, get_or-set_other, eqb-true, ltb-true, lt-ltb}
use Rattle.std.proofs.Math.Decide.{dec_lt}
use Rattle.whole.proofs.IndexedTotal.{total_same}
use Rattle.terms.specs.Tests.{bit, count, every}
use Rattle.terms.specs.Points.{below}
use Rattle.terms.specs.Live.{is_set, is_live, live_count, lowest_dead, taken_live, withdrawn_live}
use Rattle.terms.specs.Changes.{Change, taken, withdrawn, refused, may_change, changed_live, may_change_all, changed_all, is_taken, is_withdrawn}
use Rattle.theory.specs.Flags.{clash, and_true, not_true, not_false, false_not}
use Rattle.theory.specs.Counting.{every_at, count_set, count_places}
use Rattle.theory.specs.RisingNumbers.{count_to, all_counted, counted_all}
use Rattle.theory.specs.EachNumberOnce.{BelongBelow, full_below}
use Rattle.theory.specs.LowestThatPasses.{lowest_stops, lowest_none, none_lowest, lowest_either}

module _ (n : ℕ) (live : List ℕ) where
  -- Only numbers below n are live.
  pub live_under : BelongBelow (is_live n live) n
  live_under p e = ltb-true p n (and_true (ltb p n) e).0

  -- Of a number below n its byte tells.
  pub live_byte : (p : ℕ) → p < n → is_live n live p ≡ is_set (get_or live p 0)
  live_byte p l = rw (lt-ltb p n l)

  -- v is how many of the n bytes are 1.
  pub live_bytes : length live ≡ n → live_count n live ≡ count is_set live
  live_bytes size =
      count_to (is_live n live) n
      ∙ total_same n _ _ (λ p l. ap bit (live_byte p l))
      ∙ sym (rw size at (count_places is_set 0 live))

  -- "with all bytes 1": v is n.
  pub all_live : length live ≡ n → every is_set live ≡ true → live_count n live ≡ n
  all_live size all = all_counted (is_live n live) n (λ p l. live_byte p l ∙ every_at is_set 0 live all p (omega arith))

  -- Where v is n, a number belongs exactly if it is below n.
  pub full_live : live_count n live ≡ n → is_live n live ≡ below n
  full_live = full_below (is_live n live) n live_under

  -- "it lacks room only when all n are live"
  pub none_dead : lowest_dead n live ≡ n → live_count n live ≡ n
  none_dead e = all_counted (is_live n live) n (λ p l. not_false (is_live n live p) (lowest_none n (λ q. not (is_live n live q)) e p l))

  pub full_none_dead : live_count n live ≡ n → lowest_dead n live ≡ n
  full_none_dead full = none_lowest n (λ q. not (is_live n live q)) (λ p l. false_not (counted_all (is_live n live) n full p l))

  pub some_dead : live_count n live ≢ n → lowest_dead n live < n
  some_dead few = go (lowest_either n (λ q. not (is_live n live q)))
    where
      go : (lowest_dead n live < n) ⊎ (lowest_dead n live ≡ n) → lowest_dead n live < n
      go (inl l) = l
      go (inr e) = absurd (few (none_dead e))

  -- The lowest dead number is dead, and those before it are live.
  pub lowest_dead_lem : lowest_dead n live < n → is_live n live (lowest_dead n live) ≡ false
  lowest_dead_lem l = not_true _ ((lowest_stops n (λ q. not (is_live n live q))).passes l)

  pub before_lowest_dead : (p : ℕ) → p < lowest_dead n live → is_live n live p ≡ true
  before_lowest_dead p l = not_false _ ((lowest_stops n (λ q. not (is_live n live q))).none_lower p l)

-- ---- one byte stored
module _ (n : ℕ) (live : List ℕ) where
  -- The other numbers stay live or dead.
  pub others_live : (p b q : ℕ) → q ≢ p → is_live n (set live p b) q ≡ is_live n live q
  others_live p b q other = rw (get_or-set_other live p q b 0 other)

  module _ (size : length live ≡ n) (p : ℕ) (l : p < n) where
    -- The number itself is live with byte 1, and dead with byte 0.
    pub set_live : is_live n (set live p 1) p ≡ true
    set_live = live_byte n (set live p 1) p l ∙ ap is_set (get_or-set_same live p 1 0 (omega arith))

    pub clear_live : is_live n (set live p 0) p ≡ false
    clear_live = live_byte n (set live p 0) p l ∙ ap is_set (get_or-set_same live p 0 0 (omega arith))

    -- What the store makes of v.
    stored_count : (b : ℕ) → live_count n (set live p b) + bit (is_live n live p) ≡ live_count n live + bit (is_set b)
    stored_count b = omega (
      arith,
      live_bytes n live size,
      live_bytes n (set live p b) (length-set live p b ∙ size),
      count_set is_set 0 live p b (omega arith),
      ap bit (live_byte n live p l),
    )

  -- A take makes one more live, a withdrawal one fewer.
  pub taken_count : length live ≡ n → lowest_dead n live < n → live_count n (taken_live n live) ≡ live_count n live + 1
  taken_count size l =
      let dead = ap bit (lowest_dead_lem n live l) in
      omega (arith, stored_count size (lowest_dead n live) l 1)

  pub withdrawn_count : length live ≡ n → (p : ℕ) → is_live n live p ≡ true → live_count n (withdrawn_live p live) + 1 ≡ live_count n live
  withdrawn_count size p e =
      let was = ap bit e in
      omega (arith, stored_count size p (live_under n live p e) 0)

  -- "so freed room is used first": once number p was withdrawn, the lowest dead number is at most p.
  pub freed_first : length live ≡ n → (p : ℕ) → p < n → lowest_dead n (withdrawn_live p live) ≤ p
  freed_first size p l = go (dec_lt p (lowest_dead n (withdrawn_live p live)))
    where
      go : Dec (p < lowest_dead n (withdrawn_live p live)) → lowest_dead n (withdrawn_live p live) ≤ p
      go (yes m) = clash (before_lowest_dead n (withdrawn_live p live) p m) (clear_live size p l)
      go (no m) = omega arith

-- ---- a sequence of takes and withdrawals
-- What one of them makes of the total.
changed_total : (n : ℕ) (live : List ℕ) (c : Change) → may_change n live c ≡ true
    → live_count n (changed_live n live c) + bit (is_withdrawn c) ≡ live_count n live + bit (is_taken c)
changed_total n live taken may =
    let p = and_true (eqb (length live) n) may in
    omega (arith, taken_count n live (eqb-true (length live) n p.0) (ltb-true (lowest_dead n live) n p.1))
changed_total n live (withdrawn p) may =
    let q = and_true (eqb (length live) n) may in
    omega (arith, withdrawn_count n live (eqb-true (length live) n q.0) p q.1)
changed_total n live refused may = refl

-- "The total live after any sequence of these two calls is the starting total plus takes done minus withdrawals done."
pub changes_total : (n : ℕ) (live : List ℕ) (cs : List Change) → may_change_all n live cs ≡ true
    → live_count n (changed_all n live cs) + count is_withdrawn cs ≡ live_count n live + count is_taken cs
unfolding may_change_all changed_all count
changes_total n live [] may = refl
changes_total n live (c ∷ cs) may =
    let p = and_true (may_change n live c) may in
    omega (arith, changed_total n live c p.0, changes_total n (changed_live n live c) cs p.1)
