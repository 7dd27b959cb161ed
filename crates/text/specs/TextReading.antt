-- The whole text: line 1, the points, the faces, and nothing behind them. Each part that was found is that part of any numbers that the text says, so a
-- part that is missed, or a byte that is left, shows that the text says no numbers.
use Rattle.std.specs.Prelude.{◌≡◌, Bool, false, not, ℕ, ◌*◌, ◌≤◌, ◌<◌, length, take, drop, ℤ}
use Rattle.std.proofs.Math.Path.{refl}
use Rattle.std.proofs.Common.{sym, ap, ◌∙◌, arith, length-drop, drop_of_length-le}
use Rattle.std.proofs.Math.Bool.{true}
use mathlib.Core.List.{List, [], ◌++◌, append-nil}
use Rattle.theory.specs.Flags.{not_true, not_false, clash}
use Rattle.text.specs.Input.{point_lines, face_lines, input_text, Admitted, Says}
use Rattle.text.specs.OneToOne.{head_end, points_end, faces_end}
use Rattle.text.specs.Reading.{Stands, stands_then}
use Rattle.text.specs.RowReading.{Row}
use Rattle.text.specs.HeadReading.{HeadRange, ReadsHead}
use Rattle.text.specs.BlockReading.{FaceRange, ReadsPoints, ReadsFaces}

-- What reading the text promises: it says the numbers that were read, or it says none.
pub record ReadsText (text : List ℕ) (points normals offsets : List ℤ) (ok : Bool) (k n h : ℕ) : Type 0 where
  pub says : ok ≡ true → Says text k n h (take (k * n) points) (take (k * h) normals) (take h offsets)
  pub silent : ok ≡ false → (k n h : ℕ) (ps ns os : List ℤ) → Says text k n h ps ns os → ⊥

-- A text that says no numbers.
silence : {text : List ℕ} {points normals offsets : List ℤ} {k n h : ℕ} → ((k n h : ℕ) (ps ns os : List ℤ) → Says text k n h ps ns os → ⊥)
    → ReadsText text points normals offsets false k n h
silence s = record { says = λ t. clash t refl; silent = λ _. s }

admitted_head : {k n h : ℕ} {ps ns os : List ℤ} → Admitted k n h ps ns os → HeadRange k n h
admitted_head a = record { some = a.some; few = a.few; points_few = a.points_few; faces_few = a.faces_few }

admitted_points : {k n h : ℕ} {ps ns os : List ℤ} → Admitted k n h ps ns os → Row (k * n) ps
admitted_points a = record { size = a.points_size; range = a.points_range }

admitted_faces : {k n h : ℕ} {ps ns os : List ℤ} → Admitted k n h ps ns os → FaceRange k h ns os
admitted_faces a = record { row = record { size = a.normals_size; range = a.normals_range }; size = a.offsets_size; range = a.offsets_range }

pub text_long : {text : List ℕ} {points normals offsets : List ℤ} → 32768 < length text → ReadsText text points normals offsets false 0 0 0
text_long {text} l = silence (λ k n h ps ns os s. omega (arith, s.admitted.text_size, ap length s.is_written))

module _ {text : List ℕ} {k n h next : ℕ} {ok : Bool} (head : ReadsHead text ok k n h next) where
  pub head_missed : {points normals offsets : List ℤ} → not ok ≡ true → ReadsText text points normals offsets false 0 0 0
  unfolding input_text
  head_missed m = silence (λ k n h ps ns os s.
      head.missed (not_true ok m) (k, n, h) (point_lines k n ps ++ face_lines k h ns os) (admitted_head s.admitted) s.is_written)

  module _ (yes-head : not ok ≡ false) where
    -- Whatever the text says, it says it of k, n and h.
    only : {points normals offsets : List ℤ}
        → ((ps ns os : List ℤ) → Admitted k n h ps ns os → drop next text ≡ point_lines k n ps ++ face_lines k h ns os → ⊥)
        → ReadsText text points normals offsets false 0 0 0
    unfolding input_text
    only f = silence go
      where
        go : (k' n' h' : ℕ) (ps ns os : List ℤ) → Says text k' n' h' ps ns os → ⊥
        go k' n' h' ps ns os s =
            let (ek, en, eh, r) = head_end k n h k' n' h' (sym (head.found (not_false ok yes-head)).bytes ∙ s.is_written) in
            f ps ns os (rw (← ek, ← en, ← eh) at s.admitted) (rw (← ek, ← en, ← eh) at r)

    module _ (points : List ℤ) {next' : ℕ} {ok' : Bool} (front : ReadsPoints text next k n points ok' next') where
      pub points_missed : {normals offsets : List ℤ} → not ok' ≡ true → ReadsText text points normals offsets false 0 0 0
      points_missed m = only (λ ps ns os a e. front.missed (not_true ok' m) ps (face_lines k h ns os) (admitted_points a) e)

      module _ (yes-points : not ok' ≡ false) (normals offsets : List ℤ) {end : ℕ} {ok'' : Bool}
          (back : ReadsFaces text next' k h normals offsets ok'' end) where
        -- Behind the points stand the faces.
        behind_points : (ps ns os : List ℤ) → Admitted k n h ps ns os → drop next text ≡ point_lines k n ps ++ face_lines k h ns os
            → drop next' text ≡ face_lines k h ns os ++ []
        behind_points ps ns os a e =
            let o = not_false ok' yes-points in
            let p = points_end k n (take (k * n) points) ps (front.allowed o).size a.points_size (sym (front.found o).bytes ∙ e) in
            p.1 ∙ sym (append-nil (face_lines k h ns os))

        pub faces_missed : not ok'' ≡ true → ReadsText text points normals offsets false 0 0 0
        faces_missed m = only (λ ps ns os a e. back.missed (not_true ok'' m) (ns, os) [] (admitted_faces a) (behind_points ps ns os a e))

        pub bytes_left : not ok'' ≡ false → end < length text → ReadsText text points normals offsets false 0 0 0
        bytes_left y l = only go
          where
            go : (ps ns os : List ℤ) → Admitted k n h ps ns os → drop next text ≡ point_lines k n ps ++ face_lines k h ns os → ⊥
            go ps ns os a e =
                let o = not_false ok'' y in
                let r = back.allowed o in
                let f = faces_end k h (take (k * h) normals) ns (take h offsets) os r.row.size a.normals_size r.size a.offsets_size
                (sym (back.found o).bytes ∙ behind_points ps ns os a e) in
                omega (arith, length-drop end text, ap length f.2)

        pub text_said : not ok'' ≡ false → length text ≤ end → length text ≤ 32768 → ReadsText text points normals offsets true k n h
        unfolding input_text
        text_said y l few = record { says = λ _. record { admitted = admitted; is_written = written }; silent = λ t. clash refl t }
          where
            o : ok ≡ true
            o = not_false ok yes-head

            o' : ok' ≡ true
            o' = not_false ok' yes-points

            o'' : ok'' ≡ true
            o'' = not_false ok'' y

            all : Stands text 0 end (input_text k n h (take (k * n) points) (take (k * h) normals) (take h offsets))
            all = stands_then (head.found o) (stands_then (front.found o') (back.found o''))

            written : text ≡ input_text k n h (take (k * n) points) (take (k * h) normals) (take h offsets)
            written = all.bytes ∙ rw (drop_of_length-le text l) (append-nil (input_text k n h (take (k * n) points) (take (k * h) normals) (take h offsets)))

            admitted : Admitted k n h (take (k * n) points) (take (k * h) normals) (take h offsets)
            admitted = record {
              some = (head.allowed o).some;
              few = (head.allowed o).few;
              points_few = (head.allowed o).points_few;
              faces_few = (head.allowed o).faces_few;
              points_size = (front.allowed o').size;
              normals_size = (back.allowed o'').row.size;
              offsets_size = (back.allowed o'').size;
              points_range = (front.allowed o').range;
              normals_range = (back.allowed o'').row.range;
              offsets_range = (back.allowed o'').range;
              text_size = rw (← written) few;
            }
