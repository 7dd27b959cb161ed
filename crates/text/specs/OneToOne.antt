-- The writing is one to one: a text says at most one set of numbers. A number ends where its digits end, so two texts that begin with a number
-- and a byte behind it begin with the same; line by line this goes on to the whole text.
use Rattle.std.specs.Prelude.{◌≡◌, refl, List, [], ◌∷◌, ◌++◌, ℕ, zero, suc, ◌*◌, ◌≤◌, ◌<◌, length, get_or, take, drop, ℤ, pos, negsuc}
use Rattle.std.proofs.Common.{sym, ap, ◌∙◌, append_assoc, arith, length-append, length-take, length-drop, take-append-drop}
use Rattle.std.proofs.Math.Seq.{take-append_seam, drop-append_seam}
use Rattle.text.specs.Decimal.{decimal, written}
use Rattle.text.specs.DecimalLaws.{Digits, none, more, digits_stop, low_stop, decimal_all_digits, decimal_some, decimal_one_to_one}
use Rattle.text.specs.Input.{behind, numbers, line, point_lines, face_lines, input_text, Says}

-- ---- one number
digits_front : {xs : List ℕ} → Digits xs → 1 ≤ length xs → (r : List ℕ) → 48 ≤ get_or (xs ++ r) 0 0
digits_front none h r = absurd (omega arith)
digits_front (more l g d) h r = l

pub no_minus : (n : ℕ) (r s : List ℕ) → decimal n ++ r ≡ 45 ∷ s → ⊥
no_minus n r s e = omega (arith, digits_front (decimal_all_digits n) (decimal_some n) r, ap (λ (t : List ℕ). get_or t 0 0) e)

pub written_end : (x y : ℤ) {b c : ℕ} {r s : List ℕ} → b < 48 → c < 48 → written x ++ (b ∷ r) ≡ written y ++ (c ∷ s)
    → (x ≡ y) × (b ∷ r ≡ c ∷ s)
unfolding written
written_end (pos m) (pos n) hb hc e =
    let p = digits_stop (decimal_all_digits m) (decimal_all_digits n) (low_stop hb) (low_stop hc) e in
    (ap pos (decimal_one_to_one m n p.0), p.1)
written_end (pos m) (negsuc n) {b} {c} {r} {s} hb hc e = absurd (no_minus m (b ∷ r) (decimal (suc n) ++ (c ∷ s)) e)
written_end (negsuc m) (pos n) {b} {c} {r} {s} hb hc e = absurd (no_minus n (c ∷ s) (decimal (suc m) ++ (b ∷ r)) (sym e))
written_end (negsuc m) (negsuc n) {b} {c} {r} {s} hb hc e =
    let t : decimal (suc m) ++ (b ∷ r) ≡ decimal (suc n) ++ (c ∷ s) = cc in
    let p = digits_stop (decimal_all_digits (suc m)) (decimal_all_digits (suc n)) (low_stop hb) (low_stop hc) t in
    let q = decimal_one_to_one (suc m) (suc n) p.0 in
    (ap negsuc (omega arith), p.1)

-- ---- lines
behind_low : (xs : List ℤ) → behind xs < 48
behind_low [] = omega arith
behind_low (x ∷ xs) = omega arith

pub numbers_end : {stop : List ℤ → ℕ} → ((xs : List ℤ) → stop xs < 48) → (xs ys : List ℤ) {r s : List ℕ} → length xs ≡ length ys
    → numbers stop xs ++ r ≡ numbers stop ys ++ s → (xs ≡ ys) × (r ≡ s)
unfolding numbers
numbers_end low [] [] l e = (refl, e)
numbers_end low [] (y ∷ ys) l e = absurd (omega arith)
numbers_end low (x ∷ xs) [] l e = absurd (omega arith)
numbers_end {stop} low (x ∷ xs) (y ∷ ys) {r} {s} l e =
    let e' : written x ++ (stop xs ∷ (numbers stop xs ++ r)) ≡ written y ++ (stop ys ∷ (numbers stop ys ++ s)) =
    sym (append_assoc (written x) (stop xs ∷ numbers stop xs) r) ∙ e ∙ append_assoc (written y) (stop ys ∷ numbers stop ys) s in
    let p = written_end x y (low xs) (low ys) e' in
    let t : numbers stop xs ++ r ≡ numbers stop ys ++ s = let q = p.1 in cc in
    go p.0 (numbers_end low xs ys (omega arith) t)
  where
    go : x ≡ y → (xs ≡ ys) × (r ≡ s) → (x ∷ xs ≡ y ∷ ys) × (r ≡ s)
    go q (u, v) = (cc, v)

pub line_end : (xs ys : List ℤ) {r s : List ℕ} → length xs ≡ length ys → line xs ++ r ≡ line ys ++ s → (xs ≡ ys) × (r ≡ s)
line_end = numbers_end behind_low

-- Two lists with equal parts.
parts_equal : (k : ℕ) (xs ys : List ℤ) → take k xs ≡ take k ys → drop k xs ≡ drop k ys → xs ≡ ys
parts_equal k xs ys p q = sym (take-append-drop k xs) ∙ rw (p, q) (take-append-drop k ys)

front_equal : (xs ys us vs : List ℤ) → length xs ≡ length ys → xs ++ us ≡ ys ++ vs → (xs ≡ ys) × (us ≡ vs)
front_equal xs ys us vs l e = (
  sym (take-append_seam xs us) ∙ rw (l, e) (take-append_seam ys vs),
  sym (drop-append_seam xs us) ∙ rw (l, e) (drop-append_seam ys vs),
)

empty_equal : (xs ys : List ℤ) → length xs ≡ 0 → length ys ≡ 0 → xs ≡ ys
empty_equal [] [] h l = refl
empty_equal [] (y ∷ ys) h l = absurd (omega arith)
empty_equal (x ∷ xs) ys h l = absurd (omega arith)

pub points_end : (k n : ℕ) (xs ys : List ℤ) {r s : List ℕ} → length xs ≡ k * n → length ys ≡ k * n
    → point_lines k n xs ++ r ≡ point_lines k n ys ++ s → (xs ≡ ys) × (r ≡ s)
unfolding point_lines
points_end k zero xs ys h l e = (empty_equal xs ys (omega arith) (omega arith), e)
points_end k (suc n) xs ys {r} {s} h l e =
    let e' : line (take k xs) ++ (point_lines k n (drop k xs) ++ r) ≡ line (take k ys) ++ (point_lines k n (drop k ys) ++ s) =
    sym (append_assoc (line (take k xs)) (point_lines k n (drop k xs)) r) ∙ e
    ∙ append_assoc (line (take k ys)) (point_lines k n (drop k ys)) s in
    let p = line_end (take k xs) (take k ys) (simp length-take (omega arith)) e' in
    let q = points_end k n (drop k xs) (drop k ys) (simp length-drop (omega arith)) (simp length-drop (omega arith)) p.1 in
    (parts_equal k xs ys p.0 q.0, q.1)

pub faces_end : (k h : ℕ) (xs ys us vs : List ℤ) {r s : List ℕ} → length xs ≡ k * h → length ys ≡ k * h → length us ≡ h → length vs ≡ h
    → face_lines k h xs us ++ r ≡ face_lines k h ys vs ++ s → (xs ≡ ys) × (us ≡ vs) × (r ≡ s)
unfolding face_lines
faces_end k zero xs ys us vs hx hy hu hv e = (empty_equal xs ys (omega arith) (omega arith), empty_equal us vs hu hv, e)
faces_end k (suc h) xs ys us vs {r} {s} hx hy hu hv e =
    let e' : line (take k xs ++ take 1 us) ++ (face_lines k h (drop k xs) (drop 1 us) ++ r)
    ≡ line (take k ys ++ take 1 vs) ++ (face_lines k h (drop k ys) (drop 1 vs) ++ s) =
    sym (append_assoc (line (take k xs ++ take 1 us)) (face_lines k h (drop k xs) (drop 1 us)) r) ∙ e
    ∙ append_assoc (line (take k ys ++ take 1 vs)) (face_lines k h (drop k ys) (drop 1 vs)) s in
    let p = line_end (take k xs ++ take 1 us) (take k ys ++ take 1 vs) (simp (length-append, length-take) (omega arith)) e' in
    let f = front_equal (take k xs) (take k ys) (take 1 us) (take 1 vs) (simp length-take (omega arith)) p.0 in
    let q = faces_end k h (drop k xs) (drop k ys) (drop 1 us) (drop 1 vs)
    (simp length-drop (omega arith)) (simp length-drop (omega arith))
    (simp length-drop (omega arith)) (simp length-drop (omega arith)) p.1 in
    (parts_equal k xs ys f.0 q.0, parts_equal 1 us vs f.1 q.1, q.2)

-- ---- the whole text
pub head_end : (k n h k' n' h' : ℕ) {r s : List ℕ} → line (pos k ∷ pos n ∷ pos h ∷ []) ++ r ≡ line (pos k' ∷ pos n' ∷ pos h' ∷ []) ++ s
    → (k ≡ k') × (n ≡ n') × (h ≡ h') × (r ≡ s)
head_end k n h k' n' h' e =
    let p = line_end (pos k ∷ pos n ∷ pos h ∷ []) (pos k' ∷ pos n' ∷ pos h' ∷ []) refl e in
    let q = p.0 in
    (cc, cc, cc, p.1)

lists_one : {t : List ℕ} {k n h : ℕ} {ps ns os ps' ns' os' : List ℤ} → Says t k n h ps ns os → Says t k n h ps' ns' os'
    → (ps ≡ ps') × (ns ≡ ns') × (os ≡ os')
unfolding input_text
lists_one {k = k} {n} {h} {ps} {ns} {os} {ps'} {ns'} {os'} a b =
    let e = (head_end k n h k n h (sym a.is_written ∙ b.is_written)).3 in
    let p = points_end k n ps ps' a.admitted.points_size b.admitted.points_size e in
    let f = faces_end k h ns ns' os os' {r = []} {s = []} a.admitted.normals_size b.admitted.normals_size
    a.admitted.offsets_size b.admitted.offsets_size (ap (λ (t : List ℕ). t ++ []) p.1) in
    (p.0, f.0, f.1)

-- What a text says is determined.
pub says_one : {t : List ℕ} {k n h k' n' h' : ℕ} {ps ns os ps' ns' os' : List ℤ} → Says t k n h ps ns os → Says t k' n' h' ps' ns' os'
    → (k ≡ k') × (n ≡ n') × (h ≡ h') × (ps ≡ ps') × (ns ≡ ns') × (os ≡ os')
unfolding input_text
says_one {k = k} {n} {h} {k'} {n'} {h'} a b =
    let (ek, en, eh, er) = head_end k n h k' n' h' (sym a.is_written ∙ b.is_written) in
    let (p, q, r) = lists_one a (rw (← ek, ← en, ← eh) at b) in
    (ek, en, eh, p, q, r)
