-- The live faces: those not yet known to be wholly above the present box. What is wholly above a box is above each of its points and
-- wholly above each box within it, so the live faces tell of all.
use Rattle.std.specs.Prelude.{◌≡◌, refl, Bool, true, false, not, ◌⊎◌, List, ℕ, ◌≤◌, ◌<◌, length, get_or, take, ℤ}
use Rattle.std.proofs.Math.Path.{sym}
use Rattle.std.proofs.Common.{ap, ◌∙◌, inl, inr, arith, get_or-take, length-take-le}
use Rattle.std.proofs.Math.Seq.{take-length}
use Rattle.std.proofs.Math.Logic.{⊎_elim}
use Rattle.terms.specs.Tests.{keep}
use Rattle.terms.specs.Box.{Box}
use Rattle.terms.specs.Region.{Region, above, inside, wholly_above}
use Rattle.theory.specs.Flags.{not_true}
use Rattle.theory.specs.AllAndAny.{each_all, one_all_false}
use Rattle.theory.specs.KeepingByPlace.{Ascending, kept_each, kept_place, keep_ascending}
use Rattle.theory.specs.Boxes.{In, Nested}
use Rattle.theory.specs.Nesting.{above_nested}
use Rattle.theory.specs.Containment.{wholly_above_point}

-- The first count entries, at most 32, are numbers of faces, in rising order.
pub record LiveFaces (h : ℕ) (face : List ℕ) (count : ℕ) : Type 0 where
  pub long : count ≤ length face
  pub few : count ≤ 32
  pub each : (t : ℕ) → t < count → get_or face t 0 < h
  pub rising : Ascending (take count face)

-- Face i is one of the first count entries.
abbrev pub Among : ℕ → List ℕ → ℕ → Type 0
Among i face count = (t : ℕ) × (t < count) × (get_or face t 0 ≡ i)

-- Every face is wholly above the box or live.
pub record Lives (g : Region) (b : Box) (face : List ℕ) (count : ℕ) : Type 0 where
  pub live : LiveFaces g.h face count
  pub rest : (i : ℕ) → i < g.h → (wholly_above g b i ≡ true) ⊎ Among i face count

-- They are live for every box of every region with h faces.
pub record AllLive (h : ℕ) (face : List ℕ) (count : ℕ) : Type 0 where
  pub lives : (g : Region) (b : Box) → g.h ≡ h → Lives g b face count

-- The answer tells whether the point is inside, wherever it lies in a box for which these faces are live.
pub record InsideByLive (g : Region) (face : List ℕ) (count : ℕ) (point : ℕ → ℤ) (answer : Bool) : Type 0 where
  pub tells : {b : Box} → Lives g b face count → In g.k b point → answer ≡ inside g point

-- "Algorithm 4's skipped corner tests may be used": what is live for a box serves every box within it.
pub lives_nested : {g : Region} {inner outer : Box} {face : List ℕ} {count : ℕ} → Nested g.k inner outer → Lives g outer face count
    → Lives g inner face count
lives_nested {g} w v = record { live = v.live; rest = λ i l. ⊎_elim (λ a. inl (above_nested g i w a)) inr (v.rest i l) }

-- The live faces lent alone: the first count entries as a list of their own.
pub lives_front : {g : Region} {b : Box} {face : List ℕ} {count : ℕ} → Lives g b face count → Lives g b (take count face) (length (take count face))
lives_front {face = face} {count} v =
    let live = v.live in
    let same : length (take count face) ≡ count = length-take-le count face live.long in
    record {
      live = record {
        long = omega arith;
        few = omega arith;
        each = λ t l. rw (get_or-take count face t 0 (omega arith)) (live.each t (omega arith));
        rising = rw (take-length (take count face)) live.rising;
      };
      rest = λ i l. ⊎_elim inl (λ a. inr (a.0, omega (arith, a.1), get_or-take count face a.0 0 a.1 ∙ a.2)) (v.rest i l);
    }

-- With none live, the box is wholly above all.
pub lives_none : {g : Region} {b : Box} {face : List ℕ} {count : ℕ} → Lives g b face count → count ≡ 0
    → (i : ℕ) → i < g.h → wholly_above g b i ≡ true
lives_none v e i l = ⊎_elim (λ a. a) (λ w. absurd (omega arith)) (v.rest i l)

-- All faces listed in order.
pub all_live : (h : ℕ) (face : List ℕ) → length face ≡ 32 → h ≤ 32 → ((t : ℕ) → t < h → get_or face t 0 ≡ t) → AllLive h face h
all_live h face long few all = record {
  lives = λ g b e. record {
    live = record { long = omega arith; few = few; each = λ t l. omega (arith, all t l); rising = rising };
    rest = λ i l. let m : i < h = omega arith in inr (i, m, all i m);
  };
}
  where
    rising : Ascending (take h face)
    rising = record {
      ascend = λ s t m l.
          let u : t < h = omega (arith, length-take-le h face (omega arith)) in
          rw (get_or-take h face s 0 (omega arith), get_or-take h face t 0 u, all s (omega arith), all t u) m;
    }

-- A point that is above every live face is inside; one that is below a live face is not.
module _ {g : Region} {face : List ℕ} {count : ℕ} {point : ℕ → ℤ} where
  pub live_inside : ((t : ℕ) → t < count → above g (get_or face t 0) point ≡ true) → InsideByLive g face count point true
  unfolding inside
  live_inside all = record {
    tells = λ v w.
        sym
        (each_all
        g.h
        (λ i. above g i point)
        (λ i l. ⊎_elim (wholly_above_point g w i) (λ a. rw (← a.2) (all a.0 a.1)) (v.rest i l)));
  }

  pub live_outside : (t : ℕ) → t < count → above g (get_or face t 0) point ≡ false → InsideByLive g face count point false
  unfolding inside
  live_outside t l e = record { tells = λ v w. sym (one_all_false g.h (λ i. above g i point) (get_or face t 0, v.live.each t l, e)) }

-- The first count live faces that a box is not wholly above.
abbrev pub still_live : Region → Box → List ℕ → ℕ → List ℕ
still_live g b face count = keep (λ i. not (wholly_above g b i)) (take count face)

-- The first left entries of the next list are those.
pub record Kept (g : Region) (b : Box) (face : List ℕ) (count : ℕ) (next : List ℕ) (left : ℕ) : Type 0 where
  pub long : length next ≡ 32
  pub few : left ≤ 32
  pub same : take left next ≡ still_live g b face count

module _ {g : Region} {b : Box} {face : List ℕ} {count : ℕ} {next : List ℕ} {left : ℕ} (w : Kept g b face count next left) where
  kept_length : length (still_live g b face count) ≡ left
  kept_length = let few = w.few in let long = w.long in ap length (sym w.same) ∙ length-take-le left next (omega arith)

  kept_at : (t : ℕ) → t < left → get_or next t 0 ≡ get_or (still_live g b face count) t 0
  kept_at t l = sym (get_or-take left next t 0 l) ∙ ap (λ (faces : List ℕ). get_or faces t 0) w.same

  -- What holds of every live face that the box is not wholly above holds of each that is left.
  kept_all : (P : ℕ → Type 0)
      → ((s : ℕ) → s < length (take count face) → not (wholly_above g b (get_or (take count face) s 0)) ≡ true → P (get_or (take count face) s 0))
      → (t : ℕ) → t < left → P (get_or next t 0)
  kept_all P h t l = rw (kept_at t l) (kept_each P (λ i. not (wholly_above g b i)) 0 (take count face) h t (omega (arith, kept_length)))

  pub kept_not_above : (t : ℕ) → t < left → wholly_above g b (get_or next t 0) ≡ false
  kept_not_above = kept_all (λ i. wholly_above g b i ≡ false) (λ s m e. not_true (wholly_above g b (get_or (take count face) s 0)) e)

  -- They are live for the box.
  module _ (v : Lives g b face count) where
    old_length : length (take count face) ≡ count
    old_length = let live = v.live in length-take-le count face (omega arith)

    each_left : (t : ℕ) → t < left → get_or next t 0 < g.h
    each_left = kept_all
        (λ i. i < g.h)
        (λ s m e. let l : s < count = omega (arith, old_length) in rw (get_or-take count face s 0 l) (v.live.each s l))

    above_or_left : (i : ℕ) → Among i face count → (wholly_above g b i ≡ true) ⊎ Among i next left
    above_or_left i (s, l, e) = go (wholly_above g b i) refl
      where
        go : (t : Bool) → wholly_above g b i ≡ t → (wholly_above g b i ≡ true) ⊎ Among i next left
        go true q = inl q
        go false q =
            let same : get_or (take count face) s 0 ≡ i = get_or-take count face s 0 l ∙ e in
            let p = kept_place (λ j. not (wholly_above g b j)) 0 (take count face) s (omega (arith, old_length)) (rw (same, q)) in
            let m : p.0 < left = omega (arith, kept_length) in
            inr (p.0, m, kept_at p.0 m ∙ p.2 ∙ same)

    pub lives_kept : Lives g b next left
    lives_kept = record {
      live = record { long = let long = w.long in let few = w.few in omega arith; few = w.few; each = each_left; rising = rw w.same (keep_ascending _ (take count face) v.live.rising) };
      rest = λ i l. ⊎_elim inl (above_or_left i) (v.rest i l);
    }
