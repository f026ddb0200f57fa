use Rattle.std.proofs.Common.{◌≡◌, ◌∙◌, refl, ap, map, get_or, rules}
use Rattle.seam_view.specs.ByNumber.{nowhere}
use Rattle.seam_view.specs.contracts.numbered.fn.renumber.retain_mut as closure
use Rattle.seam_view.proofs.Closed.{renumbered, is_place}
use Rattle.seam_view.proofs.numbered.renumber.Goals as goal

pub returns-clause-places : goal.returns-clause-places
returns-clause-places c =
    renumbered _ (λ i. get_or (map (λ s. s.to) c.args.slots.now) i nowhere) (λ f. (closure.captures f).slots.now ≡ c.args.slots.now)
    (λ f x b g y same call. let s : (y ≡ get_or (map (λ s. s.to) (closure.captures f).slots.now) x nowhere) × (b ≡ is_place y) ×
    ((closure.captures g).slots.now ≡ (closure.captures f).slots.now) = search rules in
    (s.0 ∙ ap (λ ss. get_or (map (λ s. s.to) ss) x nowhere) same, s.1, s.2 ∙ same)) _ refl c.args.by_number.now.items _
    c.retain_mut.ensures.filtered
