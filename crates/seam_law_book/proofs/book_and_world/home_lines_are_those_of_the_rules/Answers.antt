use Rattle.seam_law_book.proofs.Prelude.{◌≡◌, sym, ap, ◌∙◌, inl, inr, cases_eq, Place, RealView, real_at}
use Rattle.seam_law_book.proofs.book_and_world.home_lines_are_those_of_the_rules.Goals as goal

pub returns : goal.returns
returns c h b tree v t goes rows there x k q at lives between =
    let held = goes.live x.entity x lives in
    let same : held.real ≡ q = elim (cases_eq held.cell k) [
      | inl is ↦ (let z = sym held.here ∙ (ap (λ j. real_at x.entity v j) is ∙ at) in cc)
      | inr other ↦ absurd (let z = sym ((between.settled x.entity k q at).others held.cell other) ∙ held.here in cc)
    ] in
    let type : q.ty ≡ x.ty = sym (ap (λ (y : RealView). y.ty) same) ∙ held.type in
    let row = rows x.entity k q x at lives in
    let cell : k ≡ (t.places x.entity).home = sym (ap (λ (p : Place). p.home) (there x.entity k q at)) in
    λ i. record { entity = x.entity; ty = type i; cell = cell i; version = row.version i; state = row.state i }
