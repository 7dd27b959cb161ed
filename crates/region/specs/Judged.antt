-- Judging a box against its live faces, in rising order: it is wholly below one of them, or wholly above all faces, or some are left, which it
-- is neither above nor below. A face that is not live is wholly above the box, so that it is below none where none of the live ones is.
use Rattle.std.specs.Prelude.{◌≡◌, refl, Bool, true, false, not, List, [], ◌++◌, ℕ, ◌+◌, ◌≤◌, ◌<◌, length, get_or, take, set, ℤ}
use Rattle.std.proofs.Common.{sym, ◌∙◌, ⊎_elim, append-nil, add-one, arith, length-set, get_or-take, take-suc-set, length-take-le, below_more}
use Rattle.terms.specs.Tests.{keep, pick}
use Rattle.terms.specs.Box.{Box}
use Rattle.terms.specs.Region.{Region, wholly_above, wholly_below, is_open}
use Rattle.theory.specs.Flags.{clash, exclude}
use Rattle.theory.specs.AllAndAny.{OneBelow}
use Rattle.theory.specs.KeepingByPlace.{ascend_back, keep_next}
use Rattle.theory.specs.Boxes.{In}
use Rattle.theory.specs.Nesting.{of_open}
use Rattle.theory.specs.Containment.{wholly_above_point, wholly_below_point}
use Rattle.region.specs.declared.judge.Judgement.{Judgement}
use Rattle.region.specs.declared.judge.Judgement.TheVariants.{Below, Above, Open}
use Rattle.region.specs.Live.{Lives, Among, Kept, still_live, lives_none, kept_not_above, lives_kept}

-- The box is wholly below face i, which is live; where it has a point, it is below no face before that one.
pub record LowestBelow (g : Region) (b : Box) (face : List ℕ) (count i : ℕ) : Type 0 where
  pub live : Among i face count
  pub known : i < g.h
  pub below : wholly_below g b i ≡ true
  pub lowest : (point : ℕ → ℤ) → In g.k b point → (j : ℕ) → j < i → wholly_below g b j ≡ false

-- "Wholly above all of them": the box is wholly above every face.
pub record AboveAll (g : Region) (b : Box) : Type 0 where
  pub all : (i : ℕ) → i < g.h → wholly_above g b i ≡ true

-- The first left entries of the next list are the live faces that the box is not wholly above, and it is below no face.
pub record StillOpen (g : Region) (b : Box) (face : List ℕ) (count : ℕ) (next : List ℕ) (left : ℕ) : Type 0 where
  pub some : 0 < left
  pub not_below : (point : ℕ → ℤ) → In g.k b point → (i : ℕ) → i < g.h → wholly_below g b i ≡ false
  pub kept : Kept g b face count next left
  pub lives : Lives g b next left

-- What each answer means for a box and the first count entries of its live faces.
abbrev pub Judged : Region → Box → List ℕ → ℕ → Judgement → List ℕ → Type 0
Judged g b face count (Below i) next = LowestBelow g b face count i
Judged g b face count Above next = AboveAll g b
Judged g b face count (Open left) next = StillOpen g b face count next left

-- A box that is wholly above a face and has a point is not wholly below it.
pub above_not_below : (g : Region) {b : Box} {point : ℕ → ℤ} → In g.k b point → (i : ℕ) → wholly_above g b i ≡ true → wholly_below g b i ≡ false
above_not_below g w i e = exclude (wholly_below_point g w i) (wholly_above_point g w i e)

-- "Wholly below at least one face": the lowest is one.
pub judged_below : {g : Region} {b : Box} {face : List ℕ} {count i : ℕ} → LowestBelow g b face count i → OneBelow g.h (wholly_below g b) true
judged_below {i = i} j = (i, j.known, j.below)

module _ {g : Region} {b : Box} {face : List ℕ} {count : ℕ} {next : List ℕ} {left : ℕ} (j : StillOpen g b face count next left) where
  -- A face that is left is one that the box is not wholly above.
  one_left : OneBelow g.h (wholly_above g b) false
  one_left = (get_or next 0 0, j.lives.live.each 0 j.some, kept_not_above j.kept 0 j.some)

  -- "Otherwise it is open": one is left.
  pub judged_open : {point : ℕ → ℤ} → In g.k b point → is_open g b ≡ true
  judged_open {point} w = of_open (record { not_below = j.not_below point w; not_above = one_left })

-- And only then: a box that is wholly above all, and has a point, gets no other answer.
pub judged_above_only : (g : Region) {b : Box} (face : List ℕ) (count : ℕ) (answer : Judgement) (next : List ℕ) {point : ℕ → ℤ} → In g.k b point
    → AboveAll g b → Judged g b face count answer next → answer ≡ Above
judged_above_only g face count (Below i) next w a j = clash j.below (above_not_below g w i (a.all i j.known))
judged_above_only g face count Above next w a j = refl
judged_above_only g face count (Open left) next w a j = let one = one_left j in clash (a.all one.0 one.1) one.2

-- The loop: the first left entries of the next list are those of the first t live faces that the box is not above, and it is below none of them.
pub record Judging (g : Region) (b : Box) (face : List ℕ) (count : ℕ) (next : List ℕ) (left t : ℕ) : Type 0 where
  pub left_le : left ≤ t
  pub t_le : t ≤ count
  pub long : length next ≡ 32
  pub same : take left next ≡ still_live g b face t
  pub not_below : (s : ℕ) → s < t → wholly_above g b (get_or face s 0) ≡ false → wholly_below g b (get_or face s 0) ≡ false

pub judging_none : (g : Region) (b : Box) (face : List ℕ) (count : ℕ) (next : List ℕ) → length next ≡ 32 → Judging g b face count next 0 0
unfolding keep
judging_none g b face count next long = record {
  left_le = omega arith;
  t_le = omega arith;
  long = long;
  same = refl;
  not_below = λ s l. absurd (omega arith);
}

module _ {g : Region} {b : Box} {face : List ℕ} {count : ℕ} {next : List ℕ} {left t : ℕ}
    (j : Judging g b face count next left t) (v : Lives g b face count) where
  -- The box, which has a point, is below none of the faces that were judged.
  seen_not_below : {point : ℕ → ℤ} → In g.k b point → (i : ℕ) → (a : Among i face count) → a.0 < t → wholly_below g b i ≡ false
  seen_not_below w i (s, m, e) n = go (wholly_above g b i) refl
    where
      go : (u : Bool) → wholly_above g b i ≡ u → wholly_below g b i ≡ false
      go true q = above_not_below g w i q
      go false q = rw (← e) (j.not_below s n (rw e q))

  -- The next face, with what the two tests of it answer.
  module _ (l : t < count) where
    -- The box is wholly below this face, and below none before it: each of those is wholly above or stands before it in the list.
    pub judging_cut : {below : Bool} → below ≡ wholly_below g b (get_or face t 0) → below ≡ true → LowestBelow g b face count (get_or face t 0)
    judging_cut says e = record {
      live = (t, l, refl);
      known = v.live.each t l;
      below = sym says ∙ e;
      lowest = λ point w i m. let known = v.live.each t l in ⊎_elim (above_not_below g w i) (before_not_below w i m) (v.rest i (omega arith));
    }
      where
        before : (i : ℕ) → i < get_or face t 0 → (a : Among i face count) → a.0 < t
        before i m (s, n, e) =
            let live = v.live in
            ascend_back live.rising s t (omega (arith, length-take-le count face (omega arith)))
            (rw (get_or-take count face s 0 n, get_or-take count face t 0 l, e) m)

        before_not_below : {point : ℕ → ℤ} → In g.k b point → (i : ℕ) → i < get_or face t 0 → Among i face count → wholly_below g b i ≡ false
        before_not_below w i m a = seen_not_below w i a (before i m a)

    next_live : (u : Bool) → wholly_above g b (get_or face t 0) ≡ u
        → still_live g b face (t + 1) ≡ still_live g b face t ++ pick (not u) (get_or face t 0) []
    next_live u e =
        let live = v.live in
        rw (← e) (keep_next (λ i. not (wholly_above g b i)) 0 face t (omega arith))

    not_below_next : (wholly_above g b (get_or face t 0) ≡ false → wholly_below g b (get_or face t 0) ≡ false)
        → (s : ℕ) → s < t + 1 → wholly_above g b (get_or face s 0) ≡ false → wholly_below g b (get_or face s 0) ≡ false
    not_below_next = below_more (λ s. (wholly_above g b (get_or face s 0) ≡ false → wholly_below g b (get_or face s 0) ≡ false)) t j.not_below

    -- The box is wholly above this face, which is dropped.
    pub judging_above : {above : Bool} → above ≡ wholly_above g b (get_or face t 0) → above ≡ true → Judging g b face count next left (t + 1)
    judging_above says e = record {
      left_le = omega arith;
      t_le = omega arith;
      long = j.long;
      same = j.same ∙ sym (next_live true (sym says ∙ e) ∙ append-nil (still_live g b face t));
      not_below = not_below_next (λ n. clash e (says ∙ n));
    }

    -- The box is neither, and the face is left.
    pub judging_left : {above below : Bool} → above ≡ wholly_above g b (get_or face t 0) → above ≡ false
        → below ≡ wholly_below g b (get_or face t 0) → below ≡ false → Judging g b face count (set next left (get_or face t 0)) (left + 1) (t + 1)
    judging_left says e tells n = record {
      left_le = omega arith;
      t_le = omega arith;
      long = length-set next left (get_or face t 0) ∙ j.long;
      same =
          let live = v.live in
          let long = j.long in
          rw (add-one left, take-suc-set next left (get_or face t 0) (omega arith), j.same, next_live false (sym says ∙ e));
      not_below = not_below_next (λ z. sym tells ∙ n);
    }

  -- All are judged.
  module _ (l : count ≤ t) where
    kept_done : Kept g b face count next left
    kept_done = let e : t ≡ count = omega arith in let live = v.live in record { long = j.long; few = omega arith; same = rw (← e) j.same }

    -- None is left.
    pub judging_done_above : left ≡ 0 → AboveAll g b
    judging_done_above e = record { all = lives_none (lives_kept kept_done v) e }

    -- One is left.
    pub judging_done_open : 0 < left → StillOpen g b face count next left
    judging_done_open some = record {
      some = some;
      not_below = λ point w i m. ⊎_elim (above_not_below g w i) (λ a. seen_not_below w i a (omega (arith, a.1))) (v.rest i m);
      kept = kept_done;
      lives = lives_kept kept_done v;
    }
