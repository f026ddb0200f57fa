use Rattle.std.proofs.Common.{◌++◌, map, ap, sym, ◌∙◌, List}
use Rattle.std.specs.List.{filter}
use Rattle.std.proofs.lemmas.List.{append-nil}
use Rattle.seam_view.specs.declared.Seen.{Seen}
use Rattle.seam_cell_seen.specs.Merging.{seen_at_location, is_other, merged}
use Rattle.seam_cell_seen.proofs.SeenLemmas.{merged_more}
use Rattle.seam_cell_seen.proofs.merging.merged.Goals as goal

pub loop-next-init : goal.loop-next-init
loop-next-init c =
    ap (λ (l : List Seen). l ++ map seen_at_location (filter (is_other c.args.own) (merged c.args.reals.now c.args.copies.now)))
    c.in_ok-seen.ensures.items

pub loop-next-preserved : goal.loop-next-preserved
loop-next-preserved c =
    merged_more c.args.own (c.in-Some.next.entity, c.in-Some.next.location)
    (merged c.in-Some.next.first.now c.in-Some.next.second.now)
    (merged c.loop-next.first.now c.loop-next.second.now) c.loop-next.seen.items c.see.new.seen.items c.seen_at.result c.seen_at.ensures
    c.in-Some.ensures.some c.in_ok-see.ensures
    ∙ c.loop-next.invariant

pub returns : goal.returns
returns c =
    sym (append-nil c.loop-next.seen.items)
    ∙ (ap (λ l. c.loop-next.seen.items ++ map seen_at_location (filter (is_other c.args.own) l)) (sym c.in_default.ensures.none)
    ∙ c.loop-next.invariant)
