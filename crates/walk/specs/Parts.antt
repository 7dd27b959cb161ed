-- What the node part and the branch part ask of a branch and what they do with it, whatever boxes its slots have: of an empty one, a settled one, a node alone, and
-- an open one, whose two branches can be walked in turn.
use Rattle.std.specs.Prelude.{◌≡◌, refl, Bool, true, List, [], ◌∷◌, ◌++◌, ℕ, ◌+◌, ◌-◌, ◌/◌, ◌≤◌, ◌<◌, length, ℤ}
use Rattle.std.proofs.Common.{sym, subst, ◌∙◌, arith}
use Rattle.std.proofs.Math.Seq.{paste}
use Rattle.terms.specs.Points.{coord, lone}
use Rattle.terms.specs.Box.{Box, box_of}
use Rattle.terms.specs.Region.{Region, inside, wholly_above, wholly_below, is_open}
use Rattle.theory.specs.AllAndAny.{OneBelow}
use Rattle.theory.specs.Boxes.{In, Held, Alike}
use Rattle.theory.specs.BoxLaws.{held_node}
use Rattle.theory.specs.Nesting.{above_all_settled, below_one_settled, open_alike}
use Rattle.region.specs.Live.{Lives, InsideByLive, lives_nested}
use Rattle.list_buffer.specs.Filled.{Placed, paste_back}
use Rattle.descent.specs.declared.runs.Run.{Run}
use Rattle.descent.specs.Points.{PointAt, point_told}
use Rattle.descent.specs.Slots.{run_of, own_of, lent_of, lent_run, run_length, run_node, run_whole}
use Rattle.walk.specs.declared.Tally.{Tally}
use Rattle.descent.specs.declared.slots.Slots.{Slots}
use Rattle.walk.specs.Branches.{Going, Within, BranchLaws}
use Rattle.walk.specs.Walked.{Walked, walked_none, walked_inside, walked_outside, walked_open}
use Rattle.walk.specs.Tallied.{Tallied, tallied_left, tallied_own, tallied_right}

-- A branch that can be walked: its slots and its box, its faces, and room in the list and in the tally.
pub record Walkable (g : Region) (k : ℕ) (at : ℕ → ℕ → ℤ) (order : List ℕ) (a c : ℕ) (b : Box) (slot_boxes : List Box) (live list : List ℕ) (i u : ℕ) : Type 0 where
  pub same : g.k ≡ k
  pub going : Going k at order a c b slot_boxes
  pub lives : Lives g b live (length live)
  pub tallied : Tallied order list a c i u

-- The walk of the c slots from slot a on.
abbrev pub BranchWalked : Region → (ℕ → ℕ → ℤ) → List ℕ → ℕ → ℕ → List Box → List ℕ → List ℕ → ℕ → ℕ → ℕ → ℕ → Type 0
BranchWalked g at order a c slot_boxes list after i u j v = Walked g at (run_of order a c) slot_boxes list after a i u j v

-- What has no items is the empty list.
none_of : {A : Type 0} (xs : List A) → length xs ≡ 0 → xs ≡ []
none_of [] e = refl
none_of (x ∷ xs) e = absurd (omega (arith, e))

-- An empty branch.
pub branch_empty : (g : Region) (at : ℕ → ℕ → ℤ) (order : List ℕ) (a c : ℕ) {slot_boxes : List Box} (list : List ℕ) (i u : ℕ) → length slot_boxes ≡ c → c ≡ 0
    → BranchWalked g at order a c slot_boxes list list i u i u
branch_empty g at order a c {slot_boxes} list i u long e = rw (none_of slot_boxes (long ∙ e), e) (walked_none g at list a i u)

module _ {g : Region} {k : ℕ} {at : ℕ → ℕ → ℤ} {order : List ℕ} {a c : ℕ} {b : Box} {slot_boxes : List Box} {live list : List ℕ} {i u : ℕ}
    (w : Walkable g k at order a c b slot_boxes live list i u) where
  slots : length (run_of order a c) ≡ c
  slots = run_length order a c w.going.fits

  room : a + length (run_of order a c) ≤ length list
  room = omega (arith, slots, w.tallied.size, w.going.fits)

  held : Held g.k at b (run_of order a c)
  held = rw w.same w.going.held

  -- A settled branch, as its run was lent to a copier.
  pub branch_inside : {after : List ℕ} → ((i : ℕ) → i < g.h → wholly_above g b i ≡ true)
      → after ≡ paste list i (lent_of order a c) (length (lent_of order a c)) → BranchWalked g at order a c slot_boxes list after i u (i + c) u
  branch_inside above e =
      rw slots at (walked_inside u w.tallied.few room held (w.going.settled g w.same (above_all_settled g b above)) above (rw (lent_run order a c) at e))

  pub branch_outside : {after : List ℕ} → OneBelow g.h (wholly_below g b) true
      → after ≡ paste_back list (length list - (a - i)) (lent_of order a c) (length (lent_of order a c))
      → BranchWalked g at order a c slot_boxes list after i u i u
  branch_outside below e =
      walked_outside u w.tallied.few room held (w.going.settled g w.same (below_one_settled g b below)) below (rw (lent_run order a c) at e)

  -- Other faces that are live for its box serve as well.
  pub walkable_faced : {next : List ℕ} → Lives g b next (length next) → Walkable g k at order a c b slot_boxes next list i u
  walkable_faced lives = record { same = w.same; going = w.going; lives = lives; tallied = w.tallied }

  module _ (some : 0 < c) where
    -- The node's point lies in the branch's box.
    pub own_held : In g.k b (at (own_of order a c))
    own_held = rw (run_node order a c w.going.fits some) at (held_node held (rw slots some))

    half : length (run_of order a (c / 2)) ≡ c / 2
    half = run_length order a (c / 2) (omega (arith, w.going.fits))

    -- The left branch and the node's own number leave what the walk of the node leaves.
    walked_node : {own : Box} {lefts rights : List Box} {first next last : List ℕ} {i₁ u₁ i₂ i₃ u₃ : ℕ} → Alike k b own → slot_boxes ≡ lefts ++ own ∷ rights → is_open g b ≡ true
        → BranchWalked g at order a (c / 2) lefts list first i (u + 1) i₁ u₁
        → Placed first next (own_of order a c) (inside g (at (own_of order a c))) (a + c / 2) i₁ i₂
        → BranchWalked g at order (a + c / 2 + 1) (c - c / 2 - 1) rights next last i₂ u₁ i₃ u₃
        → BranchWalked g at order a c slot_boxes list last i u i₃ u₃
    walked_node {own} same whole e v q r =
        rw (whole, run_whole order a c w.going.fits some) (walked_open own (sym (open_alike g (rw w.same same)) ∙ e) half v q r)

    -- A node alone in its branch: its own number is all there is to walk.
    pub branch_alone : {own : Box} {next : List ℕ} {j : ℕ} → c ≡ 1 → Alike k b own → slot_boxes ≡ own ∷ [] → is_open g b ≡ true
        → Placed list next (own_of order a c) (inside g (at (own_of order a c))) (a + c / 2) i j
        → BranchWalked g at order a c slot_boxes list next i u j (u + 1)
    branch_alone one same is e q = walked_node same is e (nothing a (c / 2) _ (omega arith) (omega (arith, w.going.fits))) q (nothing (a + c / 2 + 1) (c - c / 2 - 1) _ (omega arith) (omega (arith, w.going.fits)))
      where
        nothing : (d n : ℕ) (there : List ℕ) {j v : ℕ} → n ≡ 0 → d + n ≤ length order → BranchWalked g at order d n [] there there j v j v
        nothing d n there e fits = rw (none_of (run_of order d n) (run_length order d n fits ∙ e)) (walked_none g at there d _ _)

    -- An open branch: the left branch can be walked, with one visit more.
    module _ {l : Run} {lefts : List Box} (left : Within k a (c / 2) b l) (goes : Going k at order l.start l.length (box_of l.rows) lefts) where
      pub walkable_left : Walkable g k at order l.start l.length (box_of l.rows) lefts live list i (u + 1)
      walkable_left = record {
        same = w.same;
        going = goes;
        lives = lives_nested (rw w.same left.nested) w.lives;
        tallied = rw (left.starts, left.slots) (tallied_left w.tallied w.going.fits some);
      }

      -- Then the node's own number has a place.
      module _ {first : List ℕ} {i₁ u₁ : ℕ} (v : BranchWalked g at order l.start l.length lefts list first i (u + 1) i₁ u₁) where
        left_walked : BranchWalked g at order a (c / 2) lefts list first i (u + 1) i₁ u₁
        left_walked = rw (left.starts, left.slots) at v

        pub own_fits : (i₁ ≤ a + c / 2) × (a + c / 2 < length first)
        own_fits = tallied_own w.tallied w.going.fits some left_walked half

        -- Once it is placed the right branch can be walked, and the three together are the walk of the branch.
        module _ {next : List ℕ} {i₂ : ℕ} (q : Placed first next (own_of order a c) (inside g (at (own_of order a c))) (a + c / 2) i₁ i₂)
            {r : Run} {rights : List Box} (right : Within k (a + c / 2 + 1) (c - c / 2 - 1) b r) (goes_right : Going k at order r.start r.length (box_of r.rows) rights) where
          pub walkable_right : Walkable g k at order r.start r.length (box_of r.rows) rights live next i₂ u₁
          walkable_right = record {
            same = w.same;
            going = goes_right;
            lives = lives_nested (rw w.same right.nested) w.lives;
            tallied = rw (right.starts, right.slots) (tallied_right w.tallied w.going.fits some left_walked half (goes.long ∙ left.slots) q);
          }

          pub branch_open : {own : Box} {last : List ℕ} {i₃ u₃ : ℕ} → Alike k b own → slot_boxes ≡ lefts ++ own ∷ rights → is_open g b ≡ true
              → BranchWalked g at order r.start r.length rights next last i₂ u₁ i₃ u₃ → BranchWalked g at order a c slot_boxes list last i u i₃ u₃
          branch_open same whole e z = walked_node same whole e left_walked q (rw (right.starts, right.slots) at z)

-- What both parts ask, put together by the laws of the branches.
pub walkable : {Self : Type 0} {goes : Self → Slots → Run → Type 0} {own : Self → Slots → Run → Box} {boxes : Self → Slots → Run → List Box}
    {is_left is_right : Self → Slots → Run → Run → Type 0} → BranchLaws goes own boxes is_left is_right
    → {s : Self} {n : Slots} {g : Region} {r : Run} {live list : List ℕ} {i u : ℕ}
    → g.k ≡ n.k → goes s n r → Lives g (box_of r.rows) live (length live) → Tallied n.order.now list r.start r.length i u
    → Walkable g n.k (coord n.k n.points.now) n.order.now r.start r.length (box_of r.rows) (boxes s n r) live list i u
walkable laws same here lives tallied = record { same = same; going = laws.going _ _ _ here; lives = lives; tallied = tallied }

-- The node's number is placed by the test of its point, which says whether it is inside.
pub node_placed : {g : Region} {k : ℕ} {points : List ℤ} {order : List ℕ} {a c : ℕ} {b : Box} {slot_boxes : List Box} {live list : List ℕ} {i u : ℕ}
    → Walkable g k (coord k points) order a c b slot_boxes live list i u → 0 < c → {x : List ℤ} {test : Bool} {first next : List ℕ} {d i₁ i₂ : ℕ}
    → PointAt k points (own_of order a c) x → InsideByLive g live (length live) (lone x) test → Placed first next (own_of order a c) test d i₁ i₂
    → Placed first next (own_of order a c) (inside g (coord k points (own_of order a c))) d i₁ i₂
node_placed {g} {k} {points} {order} {a} {c} {live = live} w some {x} {test} read told q = let same = (told_at w.same read told).tells w.lives (own_held w some) in rw same at q
  where
    told_at : {d : ℕ} → g.k ≡ d → PointAt d points (own_of order a c) x → InsideByLive g live (length live) (lone x) test
        → InsideByLive g live (length live) (coord d points (own_of order a c)) test
    told_at e =
        let P : ℕ → Type 0 = λ d. PointAt d points (own_of order a c) x → InsideByLive g live (length live) (lone x) test
        → InsideByLive g live (length live) (coord d points (own_of order a c)) test in
        subst P e (λ read told. point_told read told)

-- What both parts do with a branch whose slots have these boxes, read off the values that they take and give.
abbrev pub BranchDoes : Region → Slots → Run → List Box → List ℕ → List ℕ → Tally → Tally → Type 0
BranchDoes g n run slot_boxes list after tally next =
    BranchWalked g (coord n.k n.points.now) n.order.now run.start run.length slot_boxes list after tally.inside tally.visits next.inside next.visits
