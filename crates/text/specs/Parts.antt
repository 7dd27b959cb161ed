-- A part of a list, lent and put back: what stands in front of it stays, and the list keeps its size.
use Rattle.std.specs.Prelude.{◌≡◌, List, ◌++◌, ℕ, ◌+◌, ◌-◌, ◌≤◌, length, take, drop}
use Rattle.std.proofs.Common.{sym, arith, length-append, length-take, length-drop, take_all}
use Rattle.std.proofs.Math.Seq.{take-append_seam, drop-append_seam}
use borrow.Rule.Slice.PartMut.{mid_of, put_mid}

module _ {A : Type 0} where
  -- The front of a list of two parts, and what is behind it.
  pub take_front : {place : ℕ} (front back : List A) → length front ≡ place → take place (front ++ back) ≡ front
  take_front front back e = rw (← e) (take-append_seam front back)

  pub drop_front : {place : ℕ} (front back : List A) → length front ≡ place → drop place (front ++ back) ≡ back
  drop_front front back e = rw (← e) (drop-append_seam front back)

  -- What was put into the middle of a list, read back.
  pub part_back : (place count : ℕ) (front part back : List A) → length front ≡ place → length part ≡ count
      → take count (drop place (front ++ (part ++ back))) ≡ take count part
  part_back place count front part back p c =
      rw (drop_front front (part ++ back) p, take_front part back c) (sym (take_all count part (omega (arith, c))))

  -- The part of a list from a place up to another, and the list with a part of that size there.
  pub part_size : (place count : ℕ) (xs : List A) → place + count ≤ length xs → length (mid_of place (place + count - place) xs) ≡ count
  part_size place count xs l = rw length-take (omega (arith, length-drop place xs))

  pub put_size : (place count : ℕ) (xs part : List A) → place ≤ length xs → length part ≡ length (mid_of place count xs)
      → length (put_mid place count xs part) ≡ length xs
  put_size place count xs part l e =
      let size = simp (length-take, length-drop) at e in
      simp (length-append, length-take, length-drop) (omega (arith, size))
