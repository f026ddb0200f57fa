use Rattle.std.proofs.Common.{◌++◌, ◌∷◌, [], sym, subst, ap, ◌∙◌}
use Rattle.std.proofs.lemmas.Result.{on_ok_weaker}
use Rattle.seam_report.specs.Spelled.{SpellingsView, GoesBy, IsOf, enter_text, copy_text}
use Rattle.seam_report.proofs.Spelled.{appended}
use Rattle.seam_report.proofs.spellings.Spellings.push_enter.Goals as goal

pub returns-in-Some-clause-text : goal.returns-in-Some-clause-text
returns-in-Some-clause-text c vs go known =
    let same = sym c.go_to-place.ensures in
    let e = c.args.entity in
    let k = c.args.copy.now in
    let is = c.in-Some.ensures.text vs (subst (GoesBy vs) same go) known in
    on_ok_weaker c.extend_from_slice.result
    (λ pushed.
    pushed
    ∙ ap (λ l. c.args.out.now.items ++ l)
    (c.deref.ensures.value ∙ is.text ∙ ap (λ (s : SpellingsView). enter_text s.defs e k ++ copy_text s.defs k ++ 10 ∷ [])
    c.go_to-place.ensures))
    (appended c.extend_from_slice.result c.extend_from_slice.new.self.items (c.args.out.now.items ++ c.deref.result.now)
    c.args.out.now.items
    c.extend_from_slice.ensures.items)

pub returns-clause-kept : goal.returns-clause-kept
returns-clause-kept c vs go known =
    let same = sym c.go_to-place.ensures in
    c.keep.ensures.kept vs (subst (GoesBy vs) same go)
    (subst (IsOf vs c.args.entity) (sym c.in_ok-spelling.ensures.copy) known)
