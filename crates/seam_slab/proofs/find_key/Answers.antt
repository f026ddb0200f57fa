use Rattle.std.proofs.Common.{option_map, sym, ap, ◌∙◌}
use Rattle.std.proofs.lemmas.Option.{slice_get-map}
use Rattle.seam_table.proofs.TableLemmas.{number_found}
use Rattle.seam_slab.proofs.find_key.Goals as goal

pub returns-in-Some-get_full-clause-place : goal.returns-in-Some-get_full-clause-place
returns-in-Some-get_full-clause-place c =
    let es = c.args.keys.now.entries in
    let i = c.in-Some-get_full.place in
    let at = c.in-Some-get_full.ensures.entry in
    let number =
    sym (slice_get-map (λ e. e.0) es i ∙ ap (option_map (λ e. e.0)) at)
    ∙ number_found c.args.n _ i (sym c.in-Some-get_full.ensures.index) in
    at ∙ ap (option_map (λ k. (k, c.in-Some-get_full.key.now))) number
