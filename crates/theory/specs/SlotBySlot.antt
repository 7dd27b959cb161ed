-- Two lists of slot boxes, held together slot by slot.
use Rattle.std.specs.Prelude.{List, [], ◌∷◌, ◌++◌, ℕ, zero, suc, ◌<◌, length, get_or}
use Rattle.std.proofs.Common.{not-suc-le-zero, le_of_suc-le-suc}
use Rattle.terms.specs.Box.{Box}

-- Each box of the first list stands so to the box in its place of the second.
pub data SlotBySlot (R : Box → Box → Type 0) : List Box → List Box → Type 0 where
  no_more : SlotBySlot R [] []
  one_more : {b c : Box} {bs cs : List Box} → R b c → SlotBySlot R bs cs → SlotBySlot R (b ∷ bs) (c ∷ cs)

pub slots_append : {R : Box → Box → Type 0} {ps bs cs ds : List Box} → SlotBySlot R ps bs → SlotBySlot R cs ds → SlotBySlot R (ps ++ cs) (bs ++ ds)
slots_append no_more q = q
slots_append (one_more n p) q = one_more n (slots_append p q)

pub slot_at : {R : Box → Box → Type 0} {bs cs : List Box} (none : Box) → SlotBySlot R bs cs → (i : ℕ) → i < length bs → R (get_or bs i none) (get_or cs i none)
slot_at none no_more i l = absurd (not-suc-le-zero l)
slot_at none (one_more n p) zero l = n
slot_at none (one_more n p) (suc i) l = slot_at none p i (le_of_suc-le-suc l)
