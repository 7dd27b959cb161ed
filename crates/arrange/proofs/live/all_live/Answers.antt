use Rattle.std.proofs.Common.{◌≡◌, refl, ap, ◌∙◌, Bool, List, ℕ, [], ◌∷◌, ◌&&◌, rules, length}
use Rattle.std.specs.List.{list_all}
use Rattle.std.proofs.lemmas.Iterator.{YieldsList-from_slice}
use Rattle.std.proofs.lemmas.Iterator.Search.{all_from_yields_List}
use Rattle.terms.specs.Tests.{every}
use Rattle.terms.specs.Live.{is_live}
use Rattle.arrange.proofs.live.all_live.Goals as goal

-- The library's word for it.
all_is_every : (test : ℕ → Bool) (xs : List ℕ) → list_all test xs ≡ every test xs
unfolding every
all_is_every test [] = refl
all_is_every test (x ∷ xs) = ap (λ (t : Bool). test x && t) (all_is_every test xs)

pub returns : goal.returns
returns c =
    let test : ℕ → Bool = is_live (length c.args.live.now) c.args.live.now in
    all_from_yields_List test _ _ _ c.all.ensures.ran (YieldsList-from_slice c.args.order.now cc) (λ x b q k. search rules)
    ∙ all_is_every test c.args.order.now
