use Rattle.seam_law_book.proofs.Prelude.{◌≡◌, sym, ap, ◌∙◌, PartView}
use Rattle.seam_law_book.proofs.book_and_world.base_lines_are_those_of_the_rules.Goals as goal

pub returns : goal.returns
returns c h b tree v t goes rows x p at lives =
    let held = goes.live x.entity x lives in
    let same : held.base ≡ p = (let z = sym held.base_here ∙ at in cc) in
    let type : p.ty ≡ x.ty = sym (ap (λ (y : PartView). y.ty) same) ∙ held.base_type in
    let row = rows x.entity p x at lives in
    λ i. record { entity = x.entity; ty = type i; version = row.version i; props = row.props i }
