-- The lines of all points, and of all faces, read one after the other. A line more at the end is a line more of the block; and a block that begins at
-- the same place agrees with the lines that were read, so a line that is missed is missed in every such block.
use Rattle.std.specs.Prelude.{◌≡◌, refl, Bool, true, false, not, List, [], ◌∷◌, ◌++◌, ℕ, zero, suc, ◌+◌, ◌-◌, ◌*◌, ◌≤◌, ◌<◌, length, drop, set, ℤ}
use Rattle.std.proofs.Common.{sym, ap, ◌∙◌, append_assoc, append-nil, mul-le-mul_left, arith, length-take, length-drop, length-take-le, take-append-drop, take_all, take-suc-set}
use Rattle.std.proofs.Math.Numerals.{add-one}
use Rattle.std.proofs.Math.ListN.{take, length-append, length-set}
use Rattle.std.proofs.Math.Seq.{take-add}
use Rattle.std.proofs.lemmas.List.{take-append-le, drop-append-le}
use Rattle.terms.specs.Tests.{every}
use Rattle.theory.specs.Flags.{and_true, true_and, not_true, not_false}
use Rattle.text.specs.Input.{line, point_lines, face_lines, is_signed32, is_short}
use Rattle.text.specs.OneToOne.{line_end}
use Rattle.text.specs.Ranges.{every_parts, parts_every, short_range, range_short}
use Rattle.text.specs.Reading.{Stands, stands_none, stands_then, Reads, hits, misses}
use Rattle.text.specs.Parts.{take_front}
use Rattle.text.specs.RowReading.{Row, ReadsInto}
use Rattle.text.specs.LineReading.{LineRange, ReadsLine}

-- A row taken apart.
row_parts : (k : ℕ) {m : ℕ} {ys : List ℤ} → Row m ys → k ≤ m → Row k (take k ys) × Row (m - k) (drop k ys)
row_parts k {ys = ys} r l =
    let p = every_parts is_signed32 (take k ys) (drop k ys) (rw (take-append-drop k ys) r.range) in (
      record { size = rw length-take (omega (arith, r.size)); range = p.0 },
      record { size = rw length-drop (omega (arith, r.size)); range = p.1 },
    )

-- ---- the points
points_more : (k i : ℕ) (xs row : List ℤ) → length xs ≡ k * i → length row ≡ k → point_lines k (suc i) (xs ++ row) ≡ point_lines k i xs ++ line row
unfolding point_lines
points_more k zero [] row l r = rw (take_all k row (omega arith)) (append-nil (line row))
points_more k zero (x ∷ xs) row l r = absurd (omega arith)
points_more k (suc i) xs row l r =
    let h : k ≤ length xs = omega arith in
    rw (take-append-le k xs row h, drop-append-le k xs row h)
    (ap (λ (t : List ℕ). line (take k xs) ++ t) (points_more k i (drop k xs) row (rw length-drop (omega arith)) r)
    ∙ sym (append_assoc (line (take k xs)) (point_lines k i (drop k xs)) (line row)))

-- The line behind i lines in a block of n that begins with the same bytes.
points_cut : (k i n : ℕ) (xs ys : List ℤ) {r : List ℕ} (s : List ℕ) → i < n → length xs ≡ k * i → Row (k * n) ys
    → point_lines k i xs ++ r ≡ point_lines k n ys ++ s → (row : List ℤ) × (rest : List ℕ) × Row k row × (r ≡ line row ++ rest)
unfolding point_lines
points_cut k zero zero xs ys s l h a e = absurd (omega arith)
points_cut k zero (suc n) xs ys s l h a e = (
  take k ys,
  point_lines k n (drop k ys) ++ s,
  (row_parts k a (omega arith)).0,
  e ∙ append_assoc (line (take k ys)) (point_lines k n (drop k ys)) s,
)
points_cut k (suc i) zero xs ys s l h a e = absurd (omega arith)
points_cut k (suc i) (suc n) xs ys {r} s l h a e =
    let p = row_parts k a (omega arith) in
    let m : k * suc n - k ≡ k * n = omega arith in
    let e' : line (take k xs) ++ (point_lines k i (drop k xs) ++ r) ≡ line (take k ys) ++ (point_lines k n (drop k ys) ++ s) =
    sym (append_assoc (line (take k xs)) (point_lines k i (drop k xs)) r) ∙ e
    ∙ append_assoc (line (take k ys)) (point_lines k n (drop k ys)) s in
    let q = line_end (take k xs) (take k ys) (simp length-take (omega (arith, a.size))) e' in
    points_cut k i n (drop k xs) (drop k ys) s (omega arith) (rw length-drop (omega arith)) (rw m at p.1) q.1

-- What reading the lines of n points promises.
abbrev pub ReadsPoints : List ℕ → ℕ → ℕ → ℕ → List ℤ → Bool → ℕ → Type 0
ReadsPoints text at k n after ok next = Reads (Row (k * n)) (point_lines k n) text at ok (take (k * n) after) next

-- i lines were read into the first places.
pub record PointsSoFar (text : List ℕ) (at k : ℕ) (before points : List ℤ) (i place next : ℕ) : Type 0 where
  pub size : length points ≡ length before
  pub places : place ≡ k * i
  pub row : Row place (take place points)
  pub stands : Stands text at next (point_lines k i (take place points))

pub points_none : {text : List ℕ} {at : ℕ} (k : ℕ) (points : List ℤ) → at ≤ length text → PointsSoFar text at k points points 0 0 at
unfolding point_lines every
points_none k points l = record { size = refl; places = omega arith; row = record { size = refl; range = refl }; stands = stands_none l }

module _ {text : List ℕ} {at k i place next next' : ℕ} {before points after : List ℤ} {ok : Bool} (done : PointsSoFar text at k before points i place next)
    (read : ReadsInto line text next k place points after ok next') where
  pub points_next : not ok ≡ false → length after ≡ length points → PointsSoFar text at k before after (i + 1) (place + k) next'
  points_next y l =
      let o = not_false ok y in
      let a = read.reads.allowed o in
      let e : take (place + k) after ≡ take place points ++ take k (drop place after) = take-add place k after ∙ rw (read.kept o) in record {
        size = l ∙ done.size;
        places = omega (arith, done.places);
        row = rw e (record {
          size = rw length-append (omega (arith, done.row.size, a.size));
          range = parts_every is_signed32 (take place points) (take k (drop place after)) done.row.range a.range;
        });
        stands =
            rw (e, add-one, points_more k i (take place points) (take k (drop place after)) (done.row.size ∙ done.places) a.size)
            (stands_then done.stands (read.reads.found o));
      }

  pub points_miss : {n : ℕ} → not ok ≡ true → i < n → ReadsPoints text at k n after false 0
  points_miss {n} m l = misses go
    where
      go : (ys : List ℤ) (rest : List ℕ) → Row (k * n) ys → drop at text ≡ point_lines k n ys ++ rest → ⊥
      go ys rest a b =
          let c = points_cut k i n (take place points) ys rest l (done.row.size ∙ done.places) a (sym done.stands.bytes ∙ b) in
          read.reads.missed (not_true ok m) c.0 c.1 c.2 c.3

pub points_done : {text : List ℕ} {at k n place next : ℕ} {before points : List ℤ} → PointsSoFar text at k before points n place next
    → ReadsPoints text at k n points true next
points_done done = rw (← done.places) (hits done.row done.stands)

-- The places of line i lie within those of n lines.
pub places_fit : (k : ℕ) {i n : ℕ} → i < n → k * i + k ≤ k * n
places_fit k {i} {n} l = omega (arith, mul-le-mul_left k l)

-- ---- the faces
-- The numbers that h faces may have.
pub record FaceRange (k h : ℕ) (normals offsets : List ℤ) : Type 0 where
  pub row : Row (k * h) normals
  pub size : length offsets ≡ h
  pub range : every is_short offsets ≡ true

faces_more : (k i : ℕ) (ns row os : List ℤ) (o : ℤ) → length ns ≡ k * i → length row ≡ k → length os ≡ i
    → face_lines k (suc i) (ns ++ row) (os ++ (o ∷ [])) ≡ face_lines k i ns os ++ line (row ++ (o ∷ []))
unfolding face_lines
faces_more k zero [] row [] o l r h = rw (take_all k row (omega arith)) (append-nil (line (row ++ (o ∷ []))))
faces_more k zero [] row (x ∷ os) o l r h = absurd (omega arith)
faces_more k zero (x ∷ ns) row os o l r h = absurd (omega arith)
faces_more k (suc i) ns row os o l r h =
    let f : k ≤ length ns = omega arith in
    let g : 1 ≤ length os = omega arith in
    rw (take-append-le k ns row f, drop-append-le k ns row f, take-append-le 1 os (o ∷ []) g, drop-append-le 1 os (o ∷ []) g)
    (ap (λ (t : List ℕ). line (take k ns ++ take 1 os) ++ t)
    (faces_more k i (drop k ns) row (drop 1 os) o (rw length-drop (omega arith)) r (rw length-drop (omega arith)))
    ∙ sym (append_assoc (line (take k ns ++ take 1 os)) (face_lines k i (drop k ns) (drop 1 os)) (line (row ++ (o ∷ [])))))

-- The line behind i lines in a block of h that begins with the same bytes.
faces_cut : (k i h : ℕ) (xs us ys vs : List ℤ) {r : List ℕ} (s : List ℕ) → i < h → length xs ≡ k * i → length us ≡ i → FaceRange k h ys vs
    → face_lines k i xs us ++ r ≡ face_lines k h ys vs ++ s
    → (row : List ℤ) × (o : ℤ) × (rest : List ℕ) × LineRange k 9999999999 9999999999 row o × (r ≡ line (row ++ (o ∷ [])) ++ rest)
unfolding face_lines every
faces_cut k zero zero xs us ys vs s l p q a e = absurd (omega arith)
faces_cut k (suc i) zero xs us ys vs s l p q a e = absurd (omega arith)
faces_cut k zero (suc h) xs us ys [] s l p q a e = absurd (omega (arith, a.size))
faces_cut k zero (suc h) xs us ys (v ∷ vs) s l p q a e = (
  take k ys,
  v,
  face_lines k h (drop k ys) vs ++ s,
  record { row = (row_parts k a.row (omega arith)).0; range = short_range v (and_true (is_short v) a.range).0 },
  e ∙ append_assoc (line (take k ys ++ (v ∷ []))) (face_lines k h (drop k ys) vs) s,
)
faces_cut k (suc i) (suc h) xs us ys [] s l p q a e = absurd (omega (arith, a.size))
faces_cut k (suc i) (suc h) xs us ys (v ∷ vs) {r} s l p q a e =
    let b = row_parts k a.row (omega arith) in
    let m : k * suc h - k ≡ k * h = omega arith in
    let e' : line (take k xs ++ take 1 us) ++ (face_lines k i (drop k xs) (drop 1 us) ++ r)
    ≡ line (take k ys ++ (v ∷ [])) ++ (face_lines k h (drop k ys) vs ++ s) =
    sym (append_assoc (line (take k xs ++ take 1 us)) (face_lines k i (drop k xs) (drop 1 us)) r) ∙ e
    ∙ append_assoc (line (take k ys ++ (v ∷ []))) (face_lines k h (drop k ys) vs) s in
    let c = line_end (take k xs ++ take 1 us) (take k ys ++ (v ∷ [])) (simp (length-append, length-take) (omega (arith, a.row.size))) e' in
    faces_cut k i h (drop k xs) (drop 1 us) (drop k ys) vs s (omega arith) (rw length-drop (omega arith)) (rw length-drop (omega arith))
    (record { row = rw m at b.1; size = omega (arith, a.size); range = (and_true (is_short v) a.range).1 }) c.1

-- What reading the lines of h faces promises.
abbrev pub ReadsFaces : List ℕ → ℕ → ℕ → ℕ → List ℤ → List ℤ → Bool → ℕ → Type 0
ReadsFaces text at k h normals offsets ok next =
    Reads {A = List ℤ × List ℤ}
    (λ f. FaceRange k h f.0 f.1)
    (λ f. face_lines k h f.0 f.1)
    text at ok (take (k * h) normals, take h offsets) next

-- i lines were read into the first places.
pub record FacesSoFar (text : List ℕ) (at k : ℕ) (normals₀ offsets₀ normals offsets : List ℤ) (i place next : ℕ) : Type 0 where
  pub normals_size : length normals ≡ length normals₀
  pub offsets_size : length offsets ≡ length offsets₀
  pub places : place ≡ k * i
  pub row : Row place (take place normals)
  pub size : length (take i offsets) ≡ i
  pub range : every is_short (take i offsets) ≡ true
  pub stands : Stands text at next (face_lines k i (take place normals) (take i offsets))

pub faces_none : {text : List ℕ} {at : ℕ} (k : ℕ) (normals offsets : List ℤ) → at ≤ length text
    → FacesSoFar text at k normals offsets normals offsets 0 0 at
unfolding face_lines every
faces_none k normals offsets l = record {
  normals_size = refl;
  offsets_size = refl;
  places = omega arith;
  row = record { size = refl; range = refl };
  size = refl;
  range = refl;
  stands = stands_none l;
}

module _ {text : List ℕ} {at k i place next next' : ℕ} {normals₀ offsets₀ normals offsets after : List ℤ} {ok : Bool} {o : ℤ}
    (done : FacesSoFar text at k normals₀ offsets₀ normals offsets i place next)
    (read : ReadsLine text next k 9999999999 9999999999 place normals after ok o next') where
  pub faces_next : not ok ≡ false → length after ≡ length normals → i < length offsets
      → FacesSoFar text at k normals₀ offsets₀ after (set offsets i o) (i + 1) (place + k) next'
  unfolding every
  faces_next y l h =
      let t = not_false ok y in
      let a = read.reads.allowed t in
      let e : take (place + k) after ≡ take place normals ++ take k (drop place after) = take-add place k after ∙ rw (read.kept t) in
      let f : take (i + 1) (set offsets i o) ≡ take i offsets ++ (o ∷ []) = rw add-one (take-suc-set offsets i o h) in record {
        normals_size = l ∙ done.normals_size;
        offsets_size = length-set offsets i o ∙ done.offsets_size;
        places = omega (arith, done.places);
        row = rw e (record {
          size = rw length-append (omega (arith, done.row.size, a.row.size));
          range = parts_every is_signed32 (take place normals) (take k (drop place after)) done.row.range a.row.range;
        });
        size = rw (f, length-append) (omega (arith, done.size));
        range = rw f (parts_every is_short (take i offsets) (o ∷ []) done.range (true_and (range_short o a.range) refl));
        stands =
            let m = faces_more k i (take place normals) (take k (drop place after)) (take i offsets) o (done.row.size ∙ done.places) a.row.size done.size in
            rw (e, f, add-one, m)
            (stands_then done.stands (read.reads.found t));
      }

  pub faces_miss : {h : ℕ} → not ok ≡ true → i < h → ReadsFaces text at k h after offsets false 0
  faces_miss {h} m l = misses go
    where
      go : (f : List ℤ × List ℤ) (rest : List ℕ) → FaceRange k h f.0 f.1 → drop at text ≡ face_lines k h f.0 f.1 ++ rest → ⊥
      go (ys, vs) rest a b =
          let c = faces_cut k i h (take place normals) (take i offsets) ys vs rest l (done.row.size ∙ done.places) done.size a
          (sym done.stands.bytes ∙ b) in
          read.reads.missed (not_true ok m) (c.0, c.1) c.2 c.3 c.4

pub faces_done : {text : List ℕ} {at k h place next : ℕ} {normals₀ offsets₀ normals offsets : List ℤ}
    → FacesSoFar text at k normals₀ offsets₀ normals offsets h place next → ReadsFaces text at k h normals offsets true next
faces_done {k = k} {h} {place} {normals = normals} done =
    let row : Row (k * h) (take place normals) = record { size = done.row.size ∙ done.places; range = done.row.range } in
    rw (← done.places) (hits (record { row = row; size = done.size; range = done.range }) done.stands)

-- Offsets that were read into the front of a list were read into the list.
pub faces_front : {text : List ℕ} {at k next : ℕ} {ok : Bool} (h : ℕ) (normals offsets part : List ℤ) → h ≤ length offsets
    → length part ≡ length (take h offsets) → ReadsFaces text at k (length (take h offsets)) normals part ok next
    → ReadsFaces text at k h normals (part ++ drop h offsets) ok next
faces_front h normals offsets part l p read =
    let size = length-take-le h offsets l in
    rw (take_front part (drop h offsets) (p ∙ size)) (rw (size, take_all h part (omega (arith, size, p))) at read)
