use Rattle.std.proofs.Common.{◌≡◌, ℕ, List, None, sym, ap, ◌∙◌, subst}
use Rattle.std.specs.List.{filter_map}
use Rattle.seam_node_steps.specs.Prelude.{Create, Batch}
use Rattle.seam_rule_rounds.specs.Prelude.{created_as, live_as, has_client, is_shown}
use Rattle.seam_law_book.specs.Prelude.{as_begun, IsUntouched}
use Rattle.seam_accept.specs.Batches.{joined}
use Rattle.seam_world_text.specs.Residents.{AreResidents, present_as, Adds, Joins}
use Rattle.seam_world_text.specs.declared.residents.Resident.{Resident}
use Rattle.seam_world_text.proofs.Listing.{from_list, to_list}
use Rattle.seam_world_text.proofs.Keeping.{live_named, present_named, present}
use Rattle.seam_world_text.proofs.Entries.{joined_among, makes_new}
use Rattle.seam_world_text.proofs.residents.Residents.begin.Goals as goal

pub returns : goal.returns
returns c h b legal lines is was =
    let R = c.lines_bring_what_fits.ensures.brings h b legal lines in
    let untouched : (e : ℕ) → created_as (as_begun b) e ≡ None → IsUntouched (as_begun b) e =
    λ e none. c.uncreated_numbers_are_untouched.ensures h (as_begun b) legal (c.lines_bring_what_fits.ensures.begun h b lines) e none in
    let old = c.self.inside.by_number in
    let mid = c.add_all.new.residents in
    let new = c.join_all.new.residents in
    let creates = c.as_slice.ensures ∙ ap (λ (x : Batch). x.creates) is in
    let clients = c.as_slice-2.ensures ∙ ap (λ (x : Batch). x.clients) is in
    let had = from_list (live_as (as_begun b)) (has_client (as_begun b)) (live_named (as_begun b)) old c.self.invariant
    (subst (λ (rs : List Resident). AreResidents (as_begun b) rs) (sym c.self.view_is) was) in
    to_list (present_as b) (is_shown b) (present_named b) new c.join_all.ensures.named
    (present b (makes_new h b R untouched) (filter_map joined b.current) (λ e. joined_among e b.current) old mid new had
    (subst (λ (cs : List Create). Adds cs old mid) creates c.in_ok-add_all.ensures.adds)
    (subst (λ (es : List ℕ). Joins es mid new) clients c.join_all.ensures.joins))
