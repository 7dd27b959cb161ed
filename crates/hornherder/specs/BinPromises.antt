-- Two bins that are laid side by side along a face, read off the contracts of three list calls: on the faces that both have, on these with the face,
-- and on these with its mirror.
use Rattle.std.specs.Prelude.{◌≡◌, List, ◌++◌, ℕ, ◌+◌, ◌<◌, eqb, length, take}
use Rattle.std.proofs.Common.{sym, ◌∙◌}
use Rattle.terms.specs.declared.Listing.{Listing}
use Rattle.terms.specs.Tests.{count}
use Rattle.terms.specs.Lent.{Stock, Order, Faces}
use Rattle.terms.specs.ListCall.{list_code, ListedAs}
use Rattle.terms.specs.Mirror.{Face, mirror, with_face}
use Rattle.theory.specs.Counting.{Same}
use Rattle.theory.specs.ListCall.{listed_code}
use Rattle.theory.specs.MirroredFaces.{cut_accepted, mirror_accepted, bins_share_none, bins_lose_none, bins_count}

module _ (s : Stock) (o : Order) (both : Faces) (f : Face) (list : List ℕ) (size : length f.normal ≡ s.k)
    {whole here beyond : Listing} {whole-list here-list beyond-list : List ℕ}
    (w : ListedAs s o both list whole whole-list)
    (h : ListedAs s o (with_face both f) list here here-list)
    (b : ListedAs s o (with_face both (mirror f)) list beyond beyond-list)
    (done : here.code ≡ 0) where
  passed : list_code s o (with_face both f) list ≡ 0
  passed = sym (listed_code s o (with_face both f) list h) ∙ done

  -- Where the call on one bin is accepted, so are the other two.
  pub all_bins_accepted : (whole.code ≡ 0) × (beyond.code ≡ 0)
  all_bins_accepted = (
    listed_code s o both list w ∙ cut_accepted s o both f list size passed,
    listed_code s o (with_face both (mirror f)) list b ∙ mirror_accepted s o both f list size passed,
  )

  -- "A picture on the shared face was sold in both bins": now no number is inside both,
  pub no_number_in_both_bins : (p : ℕ) → 0 < count (eqb p) (take here.inside here-list) → count (eqb p) (take beyond.inside beyond-list) ≡ 0
  no_number_in_both_bins = rw (h.answered, h.written, b.answered, b.written) (bins_share_none s o both f list size passed)

  -- and together they have every number that is inside the faces that both have.
  pub no_number_lost_between_bins : Same (take whole.inside whole-list) (take here.inside here-list ++ take beyond.inside beyond-list)
  no_number_lost_between_bins =
      rw (w.answered, w.written, h.answered, h.written, b.answered, b.written) (bins_lose_none s o both f list size passed)

  pub bins_inside_counts_add_up : whole.inside ≡ here.inside + beyond.inside
  bins_inside_counts_add_up = rw (w.answered, h.answered, b.answered) (bins_count s o both f list size passed)
