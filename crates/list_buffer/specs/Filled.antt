-- The list buffer, filled from both ends: what stands in it is said by its front and its back, and two fillings in a row are one.
-- The places between the two need no word: when every slot is listed none is left.
use Rattle.std.specs.Prelude.{◌≡◌, refl, Bool, not, ℕ, suc, ◌+◌, ◌-◌, ◌≤◌, ◌<◌, length, take, drop, get_or, set}
use Rattle.std.proofs.Common.{sym, ap, ◌∙◌, add-one, arith, length-append, length-drop, take-append-drop, drop_of_length-le, take-suc, length-take-le, drop_at, drop-drop, take-take}
use mathlib.Core.List.{List, [], ◌∷◌, ◌++◌, append_assoc, append-nil, reverse, reverse_aux, reverse_aux-append}
use Rattle.std.proofs.Math.ListN.{length-reverse_aux}
use Rattle.std.proofs.lemmas.List.{set_at, set_split, take-append-le}
use Rattle.std.proofs.Math.Seq.{append_snoc, paste, take-length}
use Rattle.std.proofs.lemmas.List.Edits.{length-paste, take-paste, drop-paste}
use Rattle.terms.specs.Tests.{pick}

-- The list held the numbers of d slots, i of them in front and the others behind, and now holds those of e slots, j of them in front: after those in
-- front stand F, and B runs back from those behind.
pub record Filled (list after : List ℕ) (d i e j : ℕ) (F B : List ℕ) : Type 0 where
  pub size : length after ≡ length list
  pub slots : e ≡ d + length F + length B
  pub insides : j ≡ i + length F
  pub front : take j after ≡ take i list ++ F
  pub back : drop (length list - (e - j)) after ≡ reverse_aux B (drop (length list - (d - i)) list)

-- Nothing was written.
pub filled_none : (list : List ℕ) (d i : ℕ) → Filled list list d i d i [] []
filled_none list d i = record { size = refl; slots = omega arith; insides = omega arith; front = sym (append-nil (take i list)); back = refl }

-- Two fillings in a row.
pub filled_then : {list next last : List ℕ} {d i e j g k : ℕ} {F G B C : List ℕ}
    → Filled list next d i e j F B → Filled next last e j g k G C → Filled list last d i g k (F ++ G) (B ++ C)
filled_then {list} {d = d} {i} {F = F} {G} {B} {C} f s = record {
  size = s.size ∙ f.size;
  slots = omega (arith, length-append F G, length-append B C);
  insides = omega (arith, length-append F G);
  front = s.front ∙ ap (λ (z : List ℕ). z ++ G) f.front ∙ append_assoc (take i list) F G;
  back = rw f.size at s.back ∙ ap (reverse_aux C) f.back ∙ sym (reverse_aux-append B C (drop (length list - (d - i)) list));
}

-- The list is full.
pub filled_all : {list after : List ℕ} {j : ℕ} {F B : List ℕ} → Filled list after 0 0 (length list) j F B
    → after ≡ F ++ reverse B
filled_all {list} {after} {j} {F} {B} f =
    let few : j ≤ length list = omega arith in
    let e : length list - (length list - j) ≡ j = omega arith in
    let m : length list ≤ length list - 0 = omega arith in
    let d : drop j after ≡ reverse B = rw (e, drop_of_length-le list m) at f.back in
    sym (take-append-drop j after) ∙ rw (f.front, d) refl

-- Lists with the same end have the same shorter end.
drop_further : (xs ys : List ℕ) (a b : ℕ) → a ≤ b → drop a xs ≡ drop a ys → drop b xs ≡ drop b ys
drop_further xs ys a b h e =
    let s : a + (b - a) ≡ b = omega arith in
    rw s at (sym (drop-drop (b - a) a xs) ∙ ap (drop (b - a)) e ∙ drop-drop (b - a) a ys)

-- The list after the first t numbers of a run were written backwards from the place before e; `paste` is the same forwards.
abbrev pub paste_back : List ℕ → ℕ → List ℕ → ℕ → List ℕ
paste_back list e run t = take (e - t) list ++ reverse_aux (take t run) (drop e list)

-- One number more.
pub paste_back_more : (list : List ℕ) (e : ℕ) (run : List ℕ) (t : ℕ) → e ≤ length list → t < e → t < length run
    → set (paste_back list e run t) (e - 1 - t) (get_or run t 0) ≡ paste_back list e run (t + 1)
paste_back_more list e run t le lt l =
    let m : ℕ = e - 1 - t in
    let a : e - t ≡ suc m = omega arith in
    let b : e - (t + 1) ≡ m = omega arith in
    let behind : List ℕ = reverse_aux (take t run) (drop e list) in
    let taken : reverse_aux (take (t + 1) run) (drop e list) ≡ get_or run t 0 ∷ behind =
    rw (add-one, take-suc run t 0 l) (reverse_aux-append (take t run) (get_or run t 0 ∷ []) (drop e list)) in
    let split : take (e - t) list ++ behind ≡ take m list ++ get_or list m 0 ∷ behind =
    rw (a, take-suc list m 0 (omega arith)) (append_snoc (take m list) (get_or list m 0) behind) in
    rw (split, taken, b) (set_at (take m list) (get_or list m 0) behind (get_or run t 0) m (length-take-le m list (omega arith)))

module _ (list : List ℕ) (d i : ℕ) (run : List ℕ) (few : i ≤ d) (room : d + length run ≤ length list) where
  -- A run written after the numbers in front.
  pub filled_front : Filled list (paste list i run (length run)) d i (d + length run) (i + length run) run []
  filled_front =
      let behind : d + length run - (i + length run) ≡ d - i = omega arith in
      record {
        size = length-paste list i run (length run) (omega arith) (omega arith);
        slots = omega arith;
        insides = refl;
        front = take-paste list i run (length run) (omega arith) (omega arith) ∙ ap (λ (z : List ℕ). take i list ++ z) (take-length run);
        back =
            rw behind
            (drop_further _ _ (i + length run) (length list - (d - i)) (omega arith) (drop-paste list i run (length run) (omega arith) (omega arith)));
      }

  -- A run written backwards before the numbers behind.
  pub filled_behind : Filled list (paste_back list (length list - (d - i)) run (length run)) d i (d + length run) i [] run
  filled_behind =
      let end : ℕ = length list - (d - i) in
      let m : ℕ = end - length run in
      let e : length list - (d + length run - i) ≡ m = omega arith in
      let l : length (take m list) ≡ m = length-take-le m list (omega arith) in
      let w : take (length run) run ≡ run = take-length run in
      record {
        size = rw w (omega (
          arith,
          length-append (take m list) (reverse_aux run (drop end list)),
          length-reverse_aux run (drop end list),
          length-drop end list,
        ));
        slots = omega arith;
        insides = omega arith;
        front = take-append-le i (take m list) _ (omega arith) ∙ take-take i m list (omega arith) ∙ sym (append-nil (take i list));
        back = rw (e, w) (drop_at (take m list) (reverse_aux run (drop end list)) m l);
      }

-- One number, in front or behind, is a run of one.
module _ (list : List ℕ) (d i x : ℕ) (few : i ≤ d) (room : d < length list) where
  pub filled_in : Filled list (set list i x) d i (d + 1) (i + 1) (x ∷ []) []
  filled_in =
      let e : set list i x ≡ paste list i (x ∷ []) 1 =
      set_split list i x (omega arith) ∙ rw add-one (sym (append_snoc (take i list) x (drop (suc i) list))) in
      rw e (filled_front list d i (x ∷ []) few (omega arith))

  pub filled_out : Filled list (set list (length list - (d - i) - 1) x) d i (d + 1) i [] (x ∷ [])
  filled_out =
      let end : ℕ = length list - (d - i) in
      let m : suc (end - 1) ≡ end = omega arith in
      let e : set list (end - 1) x ≡ paste_back list end (x ∷ []) 1 = rw m at (set_split list (end - 1) x (omega arith)) in
      rw e (filled_behind list d i (x ∷ []) few (omega arith))

-- One number goes to the list that its test says.
pub record Placed (list after : List ℕ) (p : ℕ) (test : Bool) (d i j : ℕ) : Type 0 where
  pub filled : Filled list after d i (d + 1) j (pick test p []) (pick (not test) p [])
