-- `corner` meets its contract: place by place the coordinate that the component's sign chooses.
use Rattle.std.proofs.Common.{◌≡◌, ◌∙◌, ℕ, zero, suc, ◌<◌, [], ◌∷◌, ℤ, arith}
use borrow.Author.Rules.{rules}
use Rattle.terms.specs.Points.{lone}
use Rattle.terms.specs.Region.{by_sign}
use Rattle.theory.specs.PointsAlike.{SamePoint}
use Rattle.region.proofs.Signed.{back32}
use Rattle.region.proofs.boxes.corner.Goals as goal

-- Four places that are each what they are to be.
places : {a b c d : ℤ} {value : ℕ → ℤ} → a ≡ value 0 → b ≡ value 1 → c ≡ value 2 → d ≡ value 3 → SamePoint 4 (lone (a ∷ b ∷ c ∷ d ∷ [])) value
places {a} {b} {c} {d} {value} p q r s = record { same = go }
  where
    go : (e : ℕ) → e < 4 → lone (a ∷ b ∷ c ∷ d ∷ []) e ≡ value e
    go zero l = p
    go (suc zero) l = q
    go (suc (suc zero)) l = r
    go (suc (suc (suc zero))) l = s
    go (suc (suc (suc (suc e)))) l = absurd (omega arith)

pub returns : goal.returns
returns c =
    let chosen = λ (d : ℕ). by_sign (lone c.args.row d) (lone c.args.first d) (lone c.args.second d) in
    let first : c.by_sign.result ≡ chosen 0 = search rules in
    let second : c.by_sign-2.result ≡ chosen 1 = search rules in
    let third : c.by_sign-3.result ≡ chosen 2 = search rules in
    let fourth : c.by_sign-4.result ≡ chosen 3 = search rules in
    places
    (back32 c.by_sign.type_inv ∙ first)
    (back32 c.by_sign-2.type_inv ∙ second)
    (back32 c.by_sign-3.type_inv ∙ third)
    (back32 c.by_sign-4.type_inv ∙ fourth)
