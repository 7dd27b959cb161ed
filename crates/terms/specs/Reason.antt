-- Why a number of a shelf is inside or outside, as a relation: what each of the four reasons says of the branches that hold the number's slot, and of its point.
use Rattle.std.specs.Prelude.{◌≡◌, Bool, true, false, List, ℕ, ◌<◌, length, get_or, ℤ}
use Rattle.terms.specs.declared.Reason.{Reason}
use Rattle.terms.specs.declared.Reason.TheVariants.{InsideWithBranch, InsideByItself, OutsideWithBranch, OutsideByItself}
use Rattle.terms.specs.Region.{Region, above, is_below, wholly_above, wholly_below, is_open}
use Rattle.terms.specs.Margin.{margin}
use Rattle.terms.specs.Branches.{Branch, Holds, branch_at, shelf_branches}

-- Face f passes the test, and no lower one does.
pub record Lowest (h : ℕ) (test : ℕ → Bool) (f : ℕ) : Type 0 where
  pub known : f < h
  pub passes : test f ≡ true
  pub none_lower : (e : ℕ) → e < f → test e ≡ false

-- The branch whose node stands in slot s holds slot i, and every branch nearer the root that holds it is open.
pub record NearestRoot (g : Region) (bs : List Branch) (i s : ℕ) : Type 0 where
  pub known : s < length bs
  pub holds : Holds (branch_at bs s) i
  pub nearer_open : (t : ℕ) → t < length bs → Holds (branch_at bs t) i → (branch_at bs t).depth < (branch_at bs s).depth → is_open g (branch_at bs t).box ≡ true

-- Every branch that holds slot i is open.
pub record NoneSettled (g : Region) (bs : List Branch) (i : ℕ) : Type 0 where
  pub every_open : (t : ℕ) → t < length bs → Holds (branch_at bs t) i → is_open g (branch_at bs t).box ≡ true

-- "Inside, settled with a whole branch": the settled branch nearest the root that holds the picture is wholly above every face.
pub record SettledInside (g : Region) (bs : List Branch) (i s : ℕ) : Type 0 where
  pub nearest : NearestRoot g bs i s
  pub above_all : (e : ℕ) → e < g.h → wholly_above g (branch_at bs s).box e ≡ true

-- "Inside by its own test": no branch that holds the picture is settled, and its point is above every face.
pub record TestedInside (g : Region) (bs : List Branch) (x : ℕ → ℤ) (i s : ℕ) : Type 0 where
  pub own_slot : s ≡ i
  pub none_settled : NoneSettled g bs i
  pub above_all : (e : ℕ) → e < g.h → above g e x ≡ true

-- "Outside, settled with a whole branch below a face": the settled branch nearest the root that holds the picture is wholly below face f and no lower one.
pub record SettledOutside (g : Region) (bs : List Branch) (x : ℕ → ℤ) (i s f : ℕ) (m : ℤ) : Type 0 where
  pub nearest : NearestRoot g bs i s
  pub face : Lowest g.h (wholly_below g (branch_at bs s).box) f
  pub by : m ≡ margin g f x

-- "Outside by its own test": no branch that holds the picture is settled, and its point is below face f and no lower one.
pub record TestedOutside (g : Region) (bs : List Branch) (x : ℕ → ℤ) (i s f : ℕ) (m : ℤ) : Type 0 where
  pub own_slot : s ≡ i
  pub none_settled : NoneSettled g bs i
  pub face : Lowest g.h (is_below g x) f
  pub by : m ≡ margin g f x

-- What each reason says of a point in slot i.
abbrev pub Because : Region → List Branch → (ℕ → ℤ) → ℕ → Reason → Type 0
Because g bs x i (InsideWithBranch s) = SettledInside g bs i s
Because g bs x i (InsideByItself s) = TestedInside g bs x i s
Because g bs x i (OutsideWithBranch s f m) = SettledOutside g bs x i s f m
Because g bs x i (OutsideByItself s f m) = TestedOutside g bs x i s f m

-- Number p stands in slot i of the run.
pub record StandsIn (run : List ℕ) (p i : ℕ) : Type 0 where
  pub known : i < length run
  pub number : get_or run i 0 ≡ p

-- Number p stands in some slot of the run.
abbrev pub InRun : List ℕ → ℕ → Type 0
InRun run p = (i : ℕ) × StandsIn run p i

-- It is the reason of number p of a shelf: what it says is so of the slot in which p stands.
pub record ReasonFor (g : Region) (at : ℕ → ℕ → ℤ) (run : List ℕ) (p : ℕ) (why : Reason) : Type 0 where
  pub slot : ℕ
  pub stands : StandsIn run p slot
  pub because : Because g (shelf_branches g.k at run) (at p) slot why
