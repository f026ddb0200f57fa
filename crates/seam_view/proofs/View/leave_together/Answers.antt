use Rattle.std.proofs.Common.{◌≤◌, ◌++◌, ◌∙◌, ap, sym, subst, eqb, arith}
use Rattle.std.specs.List.{IsDistinct, list_any}
use Rattle.std.specs.Map.{keys_of, lookup}
use Rattle.std.specs.Option.{option_or}
use Rattle.std.specs.FinMap as versions
use Rattle.seam_view.specs.Replica.{after_looks, SetsAreIn, enters_in, leaves_in}
use Rattle.seam_view.specs.Together.{looks_past_all}
use Rattle.seam_view.proofs.Room.{enters_past_all, sets_past_all}
use Rattle.seam_view.proofs.Shown.{sought, same_shown, view_of_lists}
use Rattle.seam_view.proofs.Together.{same_together, shown_together}
use Rattle.seam_view.proofs.OnceKept.{once_kept}
use Rattle.seam_view.proofs.View.leave_together.Goals as goal

pub returns-clause-same_after : goal.returns-clause-same_after
returns-clause-same_after c = λ known.
    let es = c.self.inside.view.entries in
    let ls = c.self.inside.left.entries in
    let new = c.take_out.new.self.entries in
    let left = c.take_out.new.left.entries in
    let looks = c.args.looks.now in
    let once = c.self.invariant.once in
    let kept = c.take_out.ensures.kept in
    let shown =
    same_shown (es ++ ls) (new ++ left) (λ q. sought q new left
    ∙ ((λ i. option_or (lookup (eqb q) (kept i)) (c.take_out.ensures.left q i))
    ∙ (shown_together q looks es (λ x. lookup (eqb x) ls) once ∙ sym (sought q es ls)))) in
    (λ i. after_looks known (record {
      radius = c.self.inside.radius;
      hysteresis = c.self.inside.hysteresis;
      entries = kept i;
      shown = shown i;
    }) (c.take_out.ensures.rest i))
    ∙ (same_together known (record {
      radius = c.self.inside.radius;
      hysteresis = c.self.inside.hysteresis;
      entries = es;
      shown = versions.from_entries (es ++ ls);
    }) es looks once
    ∙ ap (λ w. after_looks known w.core looks) c.self.view_is)

pub returns-clause-room : goal.returns-clause-room
returns-clause-room c =
    let es = c.self.inside.view.entries in
    let new = c.take_out.new.self.entries in
    let looks = c.args.looks.now in
    let kept = c.take_out.ensures.kept in
    let rest = c.take_out.ensures.rest in
    let sets = subst (λ w. SetsAreIn (λ q. list_any (λ p. eqb q p.0) w.core.entries) looks) (sym c.self.view_is) c.requires.room.sets in
    let enters : enters_in looks ≤ c.self.inside.view.room =
    subst (λ w. enters_in looks ≤ w.enters) (sym c.self.view_is) c.requires.room.enters in
    let same = ap enters_in rest ∙ enters_past_all looks es in
    let places = c.take_out.ensures.room in
    let used = c.take_out.ensures.room_left in
    let leaves = subst (λ w. leaves_in looks ≤ w.leaves) (sym c.self.view_is) c.requires.room.leaves in
    record {
      enters = omega (arith, enters, same, places);
      leaves = omega (arith, used, leaves);
      sets =
          subst (λ l. SetsAreIn (λ q. list_any (λ p. eqb q p.0) new) l) (sym rest)
          (subst (λ ks. SetsAreIn (λ q. list_any (λ p. eqb q p.0) ks) (looks_past_all looks es)) (sym kept)
          (sets_past_all es looks sets));
    }

pub invariant_of-self : goal.invariant_of-self
invariant_of-self c =
    view_of_lists c.self.inside.radius c.self.inside.hysteresis c.take_out.new.self.entries c.take_out.new.left.entries
    (subst (λ xs. IsDistinct eqb (keys_of xs)) (sym c.take_out.ensures.kept)
    (once_kept c.args.looks.now c.self.inside.view.entries c.self.invariant.once))
