-- Two bins that are laid side by side along a face: one has the face, the other its mirror. A point is above the mirror exactly where it is not
-- above the face, so a picture of the region that they share out is in one of the two and not in both.
use Rattle.std.specs.Prelude.{◌≡◌, refl, Bool, true, false, ◌&&◌, not, cond, List, [], ◌∷◌, ◌++◌, map, ℕ, zero, suc, ◌+◌, ◌-◌, ◌*◌, ◌≤◌, ◌<◌, length, get_or, take, ℤ, pos, neg_ℤ, ◌*ℤ◌, eqb}
use Rattle.std.proofs.Common.{sym, ap, ◌∙◌, append_assoc, mul_comm, arith, length-append, get_or-append-add, leb-true, le-leb}
use Rattle.std.proofs.lemmas.List.{length-map, get_or_at}
use Rattle.std.proofs.Math.ListN.{get_or-append, get_or-map}
use Rattle.std.proofs.Math.Seq.{take-append_seam}
use Rattle.std.specs.Int.Signed.{le_z, lt_z}
use Rattle.whole.proofs.Parts.{flags, neg_up, neg_dn}
use Rattle.whole.proofs.Sums.{neg_le_z, neg_lt_z}
use Rattle.whole.proofs.Products.{neg_mul}
use Rattle.whole.proofs.IndexedSum.{sum_same, sum_neg}
use Rattle.terms.specs.Tests.{count, every, keep, all_to}
use Rattle.terms.specs.Lent.{Stock, Order, Faces}
use Rattle.terms.specs.Points.{point_of, within}
use Rattle.terms.specs.Tree.{shelf_run}
use Rattle.terms.specs.Region.{Region, region, reach, above_at, above, inside, is_component, is_offset, is_mark}
use Rattle.terms.specs.Lists.{insides}
use Rattle.terms.specs.Mirror.{Face, mirror, with_face}
use Rattle.terms.specs.ListCall.{list_code, list_answer, list_after}
use Rattle.theory.specs.Flags.{and_true, true_and, and_no, false_not}
use Rattle.theory.specs.Counting.{Same, count_append, every_at, at_every, every_append, same_length}
use Rattle.theory.specs.Keeping.{keep_keep, keep_same, every_keep}
use Rattle.theory.specs.SameByNumber.{every_counted, count_none}
use Rattle.theory.specs.AllAndAny.{all_same}
use Rattle.theory.specs.InsideAndOutside.{count_shared}
use Rattle.theory.specs.AboveIsUpward.{above_same_face}
use Rattle.theory.specs.Tested.{coordinate_place}
use Rattle.theory.specs.RefusalsPassed.{FacesSized, FacesFit, faces_fit, fit_faces}
use Rattle.theory.specs.ListCall.{list_groups, other_faces_done}

-- The region of a bin: the faces a with one more.
abbrev pub bin : ℕ → Faces → Face → Region
bin k a f = region k (with_face a f)

-- ---- a face and its mirror
-- A face with the negated offset and the other mark asks of the negated sum of products the opposite.
above_negated : (g f : Region) (i j : ℕ) → f.offset j ≡ neg_ℤ (g.offset i) → f.marked_open j ≡ not (g.marked_open i)
    → (v : ℤ) → above_at f j (neg_ℤ v) ≡ not (above_at g i v)
unfolding above_at
above_negated g f i j e m v = rw (e, m) (go (g.marked_open i) (g.offset i))
  where
    go : (marked : Bool) (z : ℤ)
        → cond (not marked) (lt_z (neg_ℤ z) (neg_ℤ v)) (le_z (neg_ℤ z) (neg_ℤ v)) ≡ not (cond marked (lt_z z v) (le_z z v))
    go true z = neg_le_z z v
    go false z = neg_lt_z z v

-- The other mark says the opposite.
other_mark : (m : ℕ) → m ≤ 1 → eqb (1 - m) 1 ≡ not (eqb m 1)
other_mark zero l = refl
other_mark (suc zero) l = refl
other_mark (suc (suc m)) l = absurd (omega arith)

module _ (k : ℕ) (a : Faces) (sized : FacesSized k a) where
  -- The last face of a bin is the one more.
  last_component : (f : Face) (d : ℕ) → (bin k a f).component a.h d ≡ get_or f.normal d (pos 0)
  last_component f d =
      let e : a.h * k + d ≡ length a.normals + d = omega (arith, sized.normals_size, mul_comm k a.h) in
      rw e (get_or-append-add a.normals f.normal d (pos 0))

  last_offset : (f : Face) → (bin k a f).offset a.h ≡ f.offset
  last_offset f = get_or_at a.offsets f.offset [] (pos 0) a.h sized.offsets_size

  last_mark : (f : Face) → (bin k a f).marked_open a.h ≡ eqb f.mark 1
  last_mark f = ap (λ (m : ℕ). eqb m 1) (get_or_at a.marks f.mark [] 0 a.h sized.marks_size)

  mirror_component : (f : Face) (d : ℕ) → (bin k a (mirror f)).component a.h d ≡ neg_ℤ ((bin k a f).component a.h d)
  mirror_component f d = last_component (mirror f) d ∙ get_or-map neg_ℤ f.normal d (pos 0) ∙ ap neg_ℤ (sym (last_component f d))

  mirror_reach : (f : Face) (x : ℕ → ℤ) → reach (bin k a (mirror f)) a.h x ≡ neg_ℤ (reach (bin k a f) a.h x)
  mirror_reach f x =
      sum_same k _ (λ d. neg_ℤ ((bin k a f).component a.h d *ℤ x d))
      (λ d l. ap (λ (c : ℤ). c *ℤ x d) (mirror_component f d) ∙ neg_mul ((bin k a f).component a.h d) (x d))
      ∙ sum_neg k _

  -- A point is above the mirror of a face exactly where it is not above the face.
  pub mirror_above : (f : Face) → f.mark ≤ 1 → (x : ℕ → ℤ) → above (bin k a (mirror f)) a.h x ≡ not (above (bin k a f) a.h x)
  mirror_above f m x =
      ap (above_at (bin k a (mirror f)) a.h) (mirror_reach f x)
      ∙ above_negated (bin k a f) (bin k a (mirror f)) a.h a.h
      (last_offset (mirror f) ∙ ap neg_ℤ (sym (last_offset f)))
      (last_mark (mirror f) ∙ other_mark f.mark m ∙ ap not (sym (last_mark f)))
      (reach (bin k a f) a.h x)

  -- The faces before the last ask what they ask without it.
  earlier_component : (f : Face) (i d : ℕ) → i < a.h → d < k → (bin k a f).component i d ≡ (region k a).component i d
  earlier_component f i d l m =
      get_or-append a.normals f.normal (pos 0) (i * k + d) (coordinate_place k a.h a.normals sized.normals_size l m)

  earlier_above : (f : Face) (i : ℕ) → i < a.h → (x : ℕ → ℤ) → above (bin k a f) i x ≡ above (region k a) i x
  earlier_above f i l x =
      let offset = get_or-append a.offsets (f.offset ∷ []) (pos 0) i (omega (arith, sized.offsets_size)) in
      let mark = get_or-append a.marks (f.mark ∷ []) 0 i (omega (arith, sized.marks_size)) in
      above_same_face (bin k a f) (region k a) i i offset (ap (λ (m : ℕ). eqb m 1) mark) _
      ∙ ap (above_at (region k a) i) (sum_same k _ _ (λ d m. ap (λ (c : ℤ). c *ℤ x d) (earlier_component f i d l m)))

  -- A point is inside a bin where it is inside the region that is cut and above the bin's own face.
  pub inside_with_face : (f : Face) (x : ℕ → ℤ) → inside (bin k a f) x ≡ inside (region k a) x && above (bin k a f) a.h x
  unfolding inside all_to
  inside_with_face f x = rw (all_same a.h _ _ (λ i l. earlier_above f i l x))

  module _ (f : Face) (marked : f.mark ≤ 1) where
    inside_mirror : (x : ℕ → ℤ) → inside (bin k a (mirror f)) x ≡ inside (region k a) x && not (above (bin k a f) a.h x)
    inside_mirror x = inside_with_face (mirror f) x ∙ ap (λ (t : Bool). inside (region k a) x && t) (mirror_above f marked x)

    -- No point is inside both bins.
    pub not_inside_both : (x : ℕ → ℤ) → inside (bin k a f) x ≡ true → inside (bin k a (mirror f)) x ≡ false
    not_inside_both x e =
        let up = (and_true (inside (region k a) x) (sym (inside_with_face f x) ∙ e)).1 in
        inside_mirror x ∙ and_no (inside (region k a) x) (false_not up)

    -- The inside numbers of a run are those of the one bin and those of the other.
    pub insides_shared : (at : ℕ → ℕ → ℤ) (run : List ℕ)
        → Same (insides (region k a) at run) (insides (bin k a f) at run ++ insides (bin k a (mirror f)) at run)
    insides_shared at run =
        let up : ℕ → Bool = λ p. above (bin k a f) a.h (at p) in
        let mine : insides (bin k a f) at run ≡ keep up (insides (region k a) at run) =
        keep_same 0 _ _ run (λ i l. inside_with_face f (at (get_or run i 0))) ∙ sym (keep_keep up _ run) in
        let other : insides (bin k a (mirror f)) at run ≡ keep (λ p. not (up p)) (insides (region k a) at run) =
        keep_same 0 _ _ run (λ i l. inside_mirror (at (get_or run i 0))) ∙ sym (keep_keep (λ p. not (up p)) _ run) in
        record {
          counts = λ test. omega (
            arith,
            count_append test (insides (bin k a f) at run) (insides (bin k a (mirror f)) at run),
            ap (count test) mine,
            ap (count test) other,
            count_shared test up (insides (region k a) at run),
          );
        }

-- ---- the tests of a bin's faces
-- What the tests ask of one face.
record FaceFits (k : ℕ) (f : Face) : Type 0 where
  pub size : length f.normal ≡ k
  pub components : every is_component f.normal ≡ true
  pub offset_range : is_offset f.offset ≡ true
  pub mark_range : f.mark ≤ 1

-- The faces of a bin fit where the others and the one more fit, and there is room for it.
record BinFits (k : ℕ) (a : Faces) (f : Face) : Type 0 where
  pub room : a.h < 32
  pub others : FacesFit k a
  pub own : FaceFits k f

-- There and back, where the one more has k components.
bin_fits : (k : ℕ) (a : Faces) (f : Face) → length f.normal ≡ k → FacesFit k (with_face a f) → BinFits k a f
unfolding every
bin_fits k a f e w =
    let s = w.slices in
    let c = and_true (every is_component a.normals) (sym (every_append is_component a.normals f.normal) ∙ s.components) in
    let o = and_true (every is_offset a.offsets) (sym (every_append is_offset a.offsets (f.offset ∷ [])) ∙ s.offsets_range) in
    let m = and_true (every is_mark a.marks) (sym (every_append is_mark a.marks (f.mark ∷ [])) ∙ s.marks_range) in
    record {
      room = w.many;
      others = record {
        many = omega (arith, w.many);
        slices = record {
          sized = record {
            normals_size = omega (arith, s.sized.normals_size, length-append a.normals f.normal);
            offsets_size = omega (arith, s.sized.offsets_size, length-append a.offsets (f.offset ∷ []));
            marks_size = omega (arith, s.sized.marks_size, length-append a.marks (f.mark ∷ []));
          };
          components = c.0;
          offsets_range = o.0;
          marks_range = m.0;
        };
      };
      own = record {
        size = e;
        components = c.1;
        offset_range = (and_true (is_offset f.offset) o.1).0;
        mark_range = leb-true f.mark 1 (and_true (is_mark f.mark) m.1).0;
      };
    }

fits_bin : (k : ℕ) (a : Faces) (f : Face) → BinFits k a f → FacesFit k (with_face a f)
unfolding every
fits_bin k a f w =
    let s = w.others.slices in
    record {
      many = w.room;
      slices = record {
        sized = record {
          normals_size = omega (arith, s.sized.normals_size, w.own.size, length-append a.normals f.normal);
          offsets_size = omega (arith, s.sized.offsets_size, length-append a.offsets (f.offset ∷ []));
          marks_size = omega (arith, s.sized.marks_size, length-append a.marks (f.mark ∷ []));
        };
        components = every_append is_component a.normals f.normal ∙ true_and s.components w.own.components;
        offsets_range = every_append is_offset a.offsets (f.offset ∷ []) ∙ true_and s.offsets_range (true_and w.own.offset_range refl);
        marks_range = every_append is_mark a.marks (f.mark ∷ [])
            ∙ true_and s.marks_range (true_and (le-leb f.mark 1 w.own.mark_range) refl);
      };
    }

-- A range from -b to b has with each number the negated one.
within_negated : (b : ℕ) (z : ℤ) → within (neg_ℤ (pos b)) (pos b) z ≡ true → within (neg_ℤ (pos b)) (pos b) (neg_ℤ z) ≡ true
within_negated b z e =
    let p = and_true (le_z (neg_ℤ (pos b)) z) e in
    let low : le_z (neg_ℤ (pos b)) (neg_ℤ z) ≡ true = omega (flags, p.1, neg_up z, neg_dn z, neg_up (pos b), neg_dn (pos b)) in
    let high : le_z (neg_ℤ z) (pos b) ≡ true = omega (flags, p.0, neg_up z, neg_dn z, neg_up (pos b), neg_dn (pos b)) in
    true_and low high

-- So a mirror fits where its face does.
mirror_fits : (k : ℕ) (f : Face) → FaceFits k f → FaceFits k (mirror f)
mirror_fits k f w = record {
  size = length-map f.normal neg_ℤ ∙ w.size;
  components = at_every is_component (pos 0) (map neg_ℤ f.normal) (λ i l.
      rw (get_or-map neg_ℤ f.normal i (pos 0))
      (within_negated 32767 (get_or f.normal i (pos 0))
      (every_at is_component (pos 0) f.normal w.components i (rw length-map at l))));
  offset_range = within_negated 8589934592 f.offset w.offset_range;
  mark_range = omega arith;
}

-- ---- the list call on two bins
-- The inside numbers as the list call leaves them in the buffer: as many places as it answers.
abbrev pub inside_list : Stock → Order → Faces → List ℕ → List ℕ
inside_list s o f list = take (list_answer s o f list).inside (list_after s o f list)

module _ (s : Stock) (o : Order) (f : Faces) (list : List ℕ) (done : list_code s o f list ≡ 0) where
  -- A call that is done answers how many are inside, and they stand in front.
  inside_answered : (list_answer s o f list).inside ≡ length (insides (region s.k f) (point_of s) (shelf_run s o))
  unfolding list_answer
  inside_answered = rw done

  inside_listed : inside_list s o f list ≡ insides (region s.k f) (point_of s) (shelf_run s o)
  unfolding list_answer list_after
  inside_listed = rw (done, append_assoc) (take-append_seam (insides (region s.k f) (point_of s) (shelf_run s o)) _)

module _ (s : Stock) (o : Order) (a : Faces) (f : Face) (list : List ℕ) (size : length f.normal ≡ s.k)
    (done : list_code s o (with_face a f) list ≡ 0) where
  fits : BinFits s.k a f
  fits = bin_fits s.k a f size (faces_fit s.k (with_face a f) (list_groups s o (with_face a f) list done).faces)

  -- Where the call on a bin is accepted, so is the one on the region that is cut,
  pub cut_accepted : list_code s o a list ≡ 0
  cut_accepted = other_faces_done s o (with_face a f) a list done (fit_faces s.k a fits.others)

  -- and the one on the bin beyond the face.
  pub mirror_accepted : list_code s o (with_face a (mirror f)) list ≡ 0
  mirror_accepted = other_faces_done s o (with_face a f) (with_face a (mirror f)) list done
      (fit_faces s.k (with_face a (mirror f)) (fits_bin s.k a (mirror f)
      (record { room = fits.room; others = fits.others; own = mirror_fits s.k f fits.own })))

  cut_shared : Same (insides (region s.k a) (point_of s) (shelf_run s o))
      (insides (bin s.k a f) (point_of s) (shelf_run s o) ++ insides (bin s.k a (mirror f)) (point_of s) (shelf_run s o))
  cut_shared = insides_shared s.k a fits.others.slices.sized f fits.own.mark_range (point_of s) (shelf_run s o)

  -- "a picture on the shared face was sold in both bins": no number is in both,
  pub bins_share_none : (p : ℕ) → 0 < count (eqb p) (inside_list s o (with_face a f) list)
      → count (eqb p) (inside_list s o (with_face a (mirror f)) list) ≡ 0
  bins_share_none p some =
      let listed = rw (inside_listed s o (with_face a f) list done) at some in
      let here = every_counted (λ q. inside (bin s.k a f) (point_of s q)) _ p (every_keep _ (shelf_run s o)) listed in
      rw (inside_listed s o (with_face a (mirror f)) list mirror_accepted)
      (count_none (λ q. inside (bin s.k a (mirror f)) (point_of s q)) _ p (every_keep _ (shelf_run s o))
      (not_inside_both s.k a fits.others.slices.sized f fits.own.mark_range (point_of s p) here))

  -- no number of the region that is cut is lost,
  pub bins_lose_none : Same (inside_list s o a list) (inside_list s o (with_face a f) list ++ inside_list s o (with_face a (mirror f)) list)
  bins_lose_none = rw (
    inside_listed s o a list cut_accepted,
    inside_listed s o (with_face a f) list done,
    inside_listed s o (with_face a (mirror f)) list mirror_accepted,
  ) cut_shared

  -- and the inside counts add up.
  pub bins_count : (list_answer s o a list).inside ≡ (list_answer s o (with_face a f) list).inside + (list_answer s o (with_face a (mirror f)) list).inside
  bins_count = omega (
    arith,
    inside_answered s o a list cut_accepted,
    inside_answered s o (with_face a f) list done,
    inside_answered s o (with_face a (mirror f)) list mirror_accepted,
    same_length cut_shared,
    length-append (insides (bin s.k a f) (point_of s) (shelf_run s o)) (insides (bin s.k a (mirror f)) (point_of s) (shelf_run s o)),
  )
