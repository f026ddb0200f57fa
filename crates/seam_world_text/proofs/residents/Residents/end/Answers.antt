use Rattle.std.proofs.Common.{ℕ, List, sym, subst}
use Rattle.std.specs.List.{filter_map}
use Rattle.seam_rule_lines.specs.Book.{live_as, has_client, is_shown, with_round_ended}
use Rattle.seam_accept.specs.Batches.{destroyed}
use Rattle.seam_world_text.specs.Residents.{ArePresent, present_as, Removes}
use Rattle.seam_world_text.specs.declared.residents.Resident.{Resident}
use Rattle.seam_world_text.proofs.Listing.{from_list, to_list}
use Rattle.seam_world_text.proofs.Keeping.{live_named, present_named, left}
use Rattle.seam_world_text.proofs.Entries.{destroyed_among}
use Rattle.seam_world_text.proofs.residents.Residents.end.Goals as goal

pub returns : goal.returns
returns c h b is was =
    let old = c.self.inside.by_number in
    let new = c.remove_all.new.residents in
    let had = from_list (present_as b) (is_shown b) (present_named b) old c.self.invariant
    (subst (λ (rs : List Resident). ArePresent b rs) (sym c.self.view_is) was) in
    to_list (live_as (with_round_ended b)) (has_client (with_round_ended b)) (live_named (with_round_ended b)) new
    c.remove_all.ensures.named
    (left b (filter_map destroyed b.current) (λ e. destroyed_among e b.current) old new had
    (subst (λ (es : List ℕ). Removes es old new) is c.remove_all.ensures.removes))
