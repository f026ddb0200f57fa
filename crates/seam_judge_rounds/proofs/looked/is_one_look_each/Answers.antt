use Rattle.std.proofs.Common.{◌≡◌, ◌++◌, ◌∙◌, sym, subst, map, ℕ, List}
use Rattle.seam_call.specs.declared.shown.ClientText.TheVariants as text
use Rattle.seam_rule_rounds.specs.Prelude.{Row, one_look, replica_of, texts_to, base_texts}
use Rattle.seam_judge_data.specs.Standings.{standing_of}
use Rattle.seam_judge_expected.proofs.ListedLemmas.{if_ok}
use Rattle.seam_judge_rounds.proofs.ClientLists.{each_number}
use Rattle.seam_judge_rounds.proofs.looked.is_one_look_each.Goals as goal

pub returns : goal.returns
returns c =
    let rows_are = c.deref.ensures.value ∙ c.in_ok-rows.ensures in
    let Looks : List Row → ℕ → Type 0 = λ rows e. texts_to c.args.case.now.round.now e ≡ base_texts c.args.case.now.round.now e
    ++ map text.Shown (one_look (replica_of c.args.case.now.header.now (standing_of c.args.case.now.before.now) e) e rows) in
    if_ok c.are_shown_one_look.result
    (λ r is.
    let each = each_number (standing_of c.args.case.now.before.now).book c.args.clients.now c.requires (Looks c.deref.result.now) in (
      (λ so e shown. subst (λ (x : List Row). Looks x e) rows_are (each.0 (is.0 so) e shown)),
      (λ all. is.1 (each.1 (λ e shown. subst (λ (x : List Row). Looks x e) (sym rows_are) (all e shown)))),
    ))
    c.are_shown_one_look.ensures
