use Rattle.std.proofs.Common.{◌≡◌, ℕ, List, [], ◌∷◌, ◌++◌, sym, subst, ap, ◌∙◌, append_assoc}
use Rattle.std.specs.Prelude.{codes}
use Rattle.std.proofs.lemmas.Result.{on_ok_weaker}
use Rattle.seam_rule_rounds.specs.Prelude.{decimal_of, type_of, TypeDef, GhostCopy, Enter, Set, field, state_text}
use Rattle.seam_defs.specs.declared.flags.Group.TheVariants as group
use Rattle.seam_call.specs.declared.shown.ClientText.TheVariants as client
use Rattle.seam_rule_rounds.specs.RoundTexts.{shown_text, told_text}
use Rattle.seam_report.specs.Spelled.{ShowsOf, IsOf, enter_text, copy_text}
use Rattle.seam_report.proofs.Spelled.{glue, ended}
use Rattle.seam_report.proofs.told.push_shown.Goals as goal

module _ (defs : List TypeDef) (ty e : ℕ) (k : GhostCopy) where
  entered : enter_text defs e k ++ copy_text defs k ≡ shown_text defs ty (Enter e k)
  entered = sym (append_assoc (enter_text defs e k) (field k.version) (state_text (type_of defs k.ty) group.Other k.state))

  was_set : (codes " set" ++ field e) ++ copy_text defs k ≡ shown_text defs ty (Set e k)
  was_set = sym (append_assoc (codes " set" ++ field e) (field k.version) (state_text (type_of defs k.ty) group.Other k.state))

pub returns-in_ok-push_head-in-Enter-clause-text : goal.returns-in_ok-push_head-in-Enter-clause-text
returns-in_ok-push_head-in-Enter-clause-text c vs go known =
    let o = c.args.out.now.items in
    let defs = c.args.spellings.now.defs in
    let q = c.in-Enter.other in
    let k = c.in-Enter.copy in
    let h = (codes "to " ++ decimal_of c.args.entity) ++ field c.args.number in
    let text_is = ap client.Shown c.in-Enter.is in
    let got = c.get-in-Enter.ensures in
    let head = c.in_ok-push_head-in-Enter.ensures
    ∙ glue o (codes "to ") (decimal_of c.args.entity) (field c.args.number) in
    on_ok_weaker c.push_enter.result
    (λ pushed.
    pushed
    ∙ ((λ i. head i ++ (enter_text defs q (got i) ++ copy_text defs (got i) ++ 10 ∷ []))
    ∙ (ended o h (enter_text defs q k ++ copy_text defs k)
    ∙ ap (λ t. o ++ (h ++ t ++ 10 ∷ [])) (entered defs c.args.ty q k ∙ ap (told_text defs c.args.ty) (sym text_is)))))
    (c.push_enter.ensures.text vs go (subst (IsOf vs q) (sym got) (subst (ShowsOf vs) text_is known)))

pub returns-in_ok-push_set-in-Set-clause-text : goal.returns-in_ok-push_set-in-Set-clause-text
returns-in_ok-push_set-in-Set-clause-text c vs go known =
    let o = c.args.out.now.items in
    let defs = c.args.spellings.now.defs in
    let q = c.in-Set.other in
    let k = c.in-Set.copy in
    let h = (codes "to " ++ decimal_of c.args.entity) ++ field c.args.number in
    let s = codes " set" in
    let text_is = ap client.Shown c.in-Set.is in
    let got = c.get-in-Set.ensures in
    let head = c.in_ok-push_set-in-Set.ensures
    ∙ (ap (λ l. (l ++ s) ++ field q) (glue o (codes "to ") (decimal_of c.args.entity) (field c.args.number)) ∙ glue o h s (field q)) in
    on_ok_weaker c.push.result
    (λ pushed.
    pushed
    ∙ ((λ i. head i ++ (copy_text defs (got i) ++ 10 ∷ []))
    ∙ (ended o ((h ++ s) ++ field q) (copy_text defs k)
    ∙ ap (λ t. o ++ (t ++ 10 ∷ []))
    (glue h s (field q) (copy_text defs k)
    ∙ ap (λ l. h ++ l) (was_set defs c.args.ty q k ∙ ap (told_text defs c.args.ty) (sym text_is))))))
    (c.push.ensures.text vs go (subst (IsOf vs q) (sym got) (subst (ShowsOf vs) text_is known)))
