use Rattle.std.proofs.Common.{◌∙◌, ap, map, ◌&&◌}
use Rattle.std.specs.List.{list_any}
use Rattle.seam_rule_lines.specs.Book.{joins}
use Rattle.seam_judge_data.specs.Standings.{standing_of}
use Rattle.seam_judge_looks.proofs.Bases.{versions_are}
use Rattle.seam_judge_looks.proofs.base.base_versions.Goals as goal

pub returns : goal.returns
returns c =
    versions_are c.args.header.now (standing_of c.args.before.now) (standing_of c.args.after.now) c.args.create c.as_slice-began.result.now
    c.deref-2.result.now c.both.result c.new-versions.result.items c.add_version.new.versions.items c.in_ok-changes.changes.items
    c.append.new.self.items (ap (map (λ x. x.now)) c.as_slice-began.ensures.value ∙ c.in_ok-former.ensures)
    (ap (map (λ x. x.now)) c.deref-2.ensures.value ∙ c.in_ok-order.ensures)
    (c.both.ensures
    ∙ (λ i. (c.has_joined-joined.ensures ∙ ap (list_any (joins c.args.create.entity)) c.deref.ensures.value) i && c.in_ok-shows.ensures i))
    c.new-versions.ensures.items c.in_ok-add_version.ensures
    c.in_ok-changes.ensures c.in_ok-append.ensures.items
