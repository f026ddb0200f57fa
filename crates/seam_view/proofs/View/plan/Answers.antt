use Rattle.std.proofs.Common.{◌≡◌, ◌≤◌, ◌++◌, ◌∙◌, [], ap, sym, map, length, subst, arith}
use Rattle.std.specs.List.{IsDistinct}
use Rattle.std.specs.Map.{keys_of}
use Rattle.std.specs.Prelude.{nat_eq}
use Rattle.seam_view.specs.declared.Look.TheVariants.{Leave, Set}
use Rattle.seam_view.specs.ViewLooks.{leaving, entering}
use Rattle.seam_view.specs.Notes.{is_leave, is_change, noted}
use Rattle.seam_view.specs.Replica.{HasRoom}
use Rattle.seam_view.proofs.Noted.{leaves_noted, changes_noted}
use Rattle.seam_view.proofs.Room.{room_for_one_look}
use Rattle.seam_view.proofs.View.plan.Goals as goal

pub returns-clause-looks : goal.returns-clause-looks
returns-clause-looks c =
    let r = c.args.self.now.core in
    let known = c.args.known.now in
    let notes = c.deref.ensures.value ∙ c.in_ok-notes.ensures.notes in
    let none : c.new-looks.result.items ≡ [] = c.new-looks.ensures.items in
    let no_set : c.new-sets.result.items ≡ [] = c.new-sets.ensures.items in
    let left =
    c.in_ok-push_noted.ensures.leaves ∙ ((λ i. none i ++ map (λ e. Leave e) (noted is_leave (notes i) (keys_of r.entries)))
    ∙ leaves_noted r c.args.own known r.entries) in
    let set =
    c.in_ok-push_noted.ensures.sets ∙ ((λ i. no_set i ++ map (λ e. Set e) (noted is_change (notes i) (keys_of r.entries)))
    ∙ changes_noted r c.args.own known r.entries) in
    let first = c.in_ok-append.ensures.items ∙ (λ i. left i ++ set i) in
    c.in_ok-append-2.ensures.items ∙ (λ i. first i ++ c.in_ok-notes.ensures.enters i)

pub returns-clause-room : goal.returns-clause-room
returns-clause-room c =
    let r = c.args.self.now.core in
    let known = c.args.known.now in
    let notes = c.deref.ensures.value ∙ c.in_ok-notes.ensures.notes in
    let none : c.new-looks.result.items ≡ [] = c.new-looks.ensures.items in
    let no_set : c.new-sets.result.items ≡ [] = c.new-sets.ensures.items in
    let left =
    c.in_ok-push_noted.ensures.leaves ∙ ((λ i. none i ++ map (λ e. Leave e) (noted is_leave (notes i) (keys_of r.entries)))
    ∙ leaves_noted r c.args.own known r.entries) in
    let set =
    c.in_ok-push_noted.ensures.sets ∙ ((λ i. no_set i ++ map (λ e. Set e) (noted is_change (notes i) (keys_of r.entries)))
    ∙ changes_noted r c.args.own known r.entries) in
    let first = c.in_ok-append.ensures.items ∙ (λ i. left i ++ set i) in
    let looks = c.in_ok-append-2.ensures.items ∙ (λ i. first i ++ c.in_ok-notes.ensures.enters i) in
    let once = subst (λ v. IsDistinct nat_eq (keys_of v.core.entries)) c.self.view_is c.self.invariant.once in
    let entered = ap length c.in_ok-notes.ensures.enters in
    let gone = ap length left in
    let some = c.len.ensures in
    let others = c.len-2.ensures in
    let many = c.in_ok-notes.enters.ok.0 in
    let few = c.push_noted.new.looks.ok.0 in
    let to_enter = c.in_ok-reserve.ensures.enters in
    let to_leave = c.in_ok-reserve.ensures.leaves in
    let enters : length (entering r c.args.own known) ≤ c.reserve.new.self.enters = omega (arith, to_enter, some, many, entered) in
    let leaves : length (leaving r c.args.own known r.entries) ≤ c.reserve.new.self.leaves = omega (arith, to_leave, others, few, gone) in
    subst (HasRoom c.reserve.new.self) (sym looks)
    (room_for_one_look r c.args.own known c.reserve.new.self c.in_ok-reserve.ensures.same once enters leaves)
