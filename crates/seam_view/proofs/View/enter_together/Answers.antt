use Rattle.std.proofs.Common.{◌≤◌, ◌++◌, ◌∙◌, ap, sym, subst, eqb, arith}
use Rattle.std.specs.List.{list_any}
use Rattle.std.specs.FinMap as versions
use Rattle.seam_view.specs.Replica.{after_looks, SetsAreIn, leaves_in}
use Rattle.seam_view.proofs.Shown.{view_of_lists}
use Rattle.seam_view.proofs.View.enter_together.Goals as goal

pub invariant_of-self : goal.invariant_of-self
invariant_of-self c =
    view_of_lists c.self.inside.radius c.self.inside.hysteresis c.show_rising.new.self.entries c.self.inside.left.entries
    c.show_rising.ensures.kept.once

pub returns-clause-same_after : goal.returns-clause-same_after
returns-clause-same_after c =
    let es = c.self.inside.view.entries in
    let left = c.self.inside.left.entries in
    c.show_rising.ensures.kept.same (record {
      radius = c.self.inside.radius;
      hysteresis = c.self.inside.hysteresis;
      entries = es;
      shown = versions.from_entries (es ++ left);
    }) left
    ∙ ap (λ w. after_looks c.args.known.now w.core c.args.looks.now) c.self.view_is

pub returns-clause-room : goal.returns-clause-room
returns-clause-room c =
    let looks = c.args.looks.now in
    let kept = c.show_rising.ensures.kept in
    let same = kept.leaves in
    let leaves = subst (λ w. leaves_in looks ≤ w.leaves) (sym c.self.view_is) c.requires.room.leaves in
    let sets = subst (λ w. SetsAreIn (λ q. list_any (λ p. eqb q p.0) w.core.entries) looks) (sym c.self.view_is) c.requires.room.sets in
    record { enters = c.show_rising.ensures.room; leaves = omega (arith, same, leaves); sets = kept.sets sets }
