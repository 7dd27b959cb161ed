-- "No answer depends on a dead number's coordinates, and 5 passes over them", read off the contract of each call that has a shelf: two calls whose points differ only
-- at dead numbers answer alike and leave the same. Taking has its own beside its other promises. Then the three laws of a shelf on which all are live.
use Rattle.std.specs.Prelude.{◌≡◌, true, not, List, ℕ, ◌*◌, ◌≤◌, length, ℤ}
use Rattle.std.proofs.Common.{sym, ◌∙◌}
use Rattle.terms.specs.declared.Arranging.{Arranging}
use Rattle.terms.specs.declared.Listing.{Listing}
use Rattle.terms.specs.declared.Screening.{Screening}
use Rattle.terms.specs.declared.Explaining.{Explaining}
use Rattle.terms.specs.Tests.{every}
use Rattle.terms.specs.Lent.{Stock, Order, Faces, Regions, stock}
use Rattle.terms.specs.Live.{is_set, is_live}
use Rattle.terms.specs.Points.{below, point_of, belongs_to, slots_of, is_coordinate}
use Rattle.terms.specs.LivePoints.{members_in_range}
use Rattle.terms.specs.ArrangeCall.{ArrangedAs}
use Rattle.terms.specs.ListCall.{ListedAs}
use Rattle.terms.specs.ScreenCall.{screen_answer}
use Rattle.terms.specs.ExplainCall.{explain_answer}
use Rattle.terms.specs.ListRegionsCall.{RegionsListedAs}
use Rattle.theory.specs.LiveNumbers.{all_live}
use Rattle.theory.specs.StockNumbers.{stock_full}
use Rattle.theory.specs.PointsInRange.{full_in_range}
use Rattle.theory.specs.MembersAlike.{MembersAlike}
use Rattle.theory.specs.DeadCoordinates.{
  list_answer_alike,
  list_after_alike,
  screen_answer_alike,
  explain_answer_alike,
  list_regions_code_alike,
  lists_after_alike,
  counts_after_alike,
}
use Rattle.theory.proofs.DeadCoordinates.{arranged_alike}

module _ (k n : ℕ) (live : List ℕ) {points others : List ℤ} (w : MembersAlike k (is_live n live) points others) (o : Order) where
  abbrev s : Stock
  s = stock k n points live

  abbrev t : Stock
  t = stock k n others live

  pub arrange_reads_no_dead_point : {a b : Arranging} {x y : Order} → ArrangedAs s o a x → ArrangedAs t o b y → (a ≡ b) × (x.slots ≡ y.slots)
  arrange_reads_no_dead_point e f = arranged_alike k n live w o e f

  pub list_reads_no_dead_point : (f : Faces) (list : List ℕ) {a b : Listing} {x y : List ℕ} → ListedAs s o f list a x → ListedAs t o f list b y → (a ≡ b) × (x ≡ y)
  list_reads_no_dead_point f list e g =
      (e.answered ∙ list_answer_alike k n live w o f list ∙ sym g.answered, e.written ∙ list_after_alike k n live w o f list ∙ sym g.written)

  pub screen_reads_no_dead_point : (f : Faces) {a b : Screening} → a ≡ screen_answer s o f → b ≡ screen_answer t o f → a ≡ b
  screen_reads_no_dead_point f e g = e ∙ screen_answer_alike k n live w o f ∙ sym g

  pub explain_reads_no_dead_point : (f : Faces) (p : ℕ) {a b : Explaining} → a ≡ explain_answer s o f p → b ≡ explain_answer t o f p → a ≡ b
  explain_reads_no_dead_point f p e g = e ∙ explain_answer_alike k n live w o f p ∙ sym g

  pub list_regions_reads_no_dead_point : (g : Regions) (lists counts : List ℕ) {a b : ℕ} {x y u v : List ℕ} → RegionsListedAs s o g lists counts a x u
      → RegionsListedAs t o g lists counts b y v → (a ≡ b) × (x ≡ y) × (u ≡ v)
  list_regions_reads_no_dead_point g lists counts e f = (
    e.answered ∙ list_regions_code_alike n live o g lists counts k w ∙ sym f.answered,
    e.listed ∙ lists_after_alike k n live w o g lists counts ∙ sym f.listed,
    e.counted ∙ counts_after_alike k n live w o g lists counts ∙ sym f.counted,
  )

-- "With all bytes 1":
module _ (s : Stock) (bytes : length s.live ≡ s.n) (ones : every is_set s.live ≡ true) where
  -- v is n,
  pub all_live_slots : slots_of s ≡ s.n
  all_live_slots = all_live s.n s.live bytes ones

  -- a number belongs exactly if it is below n,
  pub all_live_belong : belongs_to s ≡ below s.n
  all_live_belong = stock_full s all_live_slots

  -- and 5 holds exactly if some lent coordinate is out of range.
  pub all_live_ranges : 1 ≤ s.k → length s.points ≡ s.k * s.n
      → not (members_in_range s.k (point_of s) (belongs_to s) s.n) ≡ not (every is_coordinate s.points)
  all_live_ranges some size = rw (← full_in_range s.k s.points s.n size some) (rw all_live_belong)
