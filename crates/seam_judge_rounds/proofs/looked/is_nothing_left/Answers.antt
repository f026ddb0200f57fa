use Rattle.std.proofs.Common.{◌≡◌, [], ◌∙◌, sym, subst, ℕ, List}
use Rattle.seam_rule_rounds.specs.Prelude.{Row, one_look, replica_of}
use Rattle.seam_judge_data.specs.Standings.{standing_of}
use Rattle.seam_judge_expected.proofs.ListedLemmas.{if_ok}
use Rattle.seam_judge_rounds.proofs.ClientLists.{each_number}
use Rattle.seam_judge_rounds.proofs.looked.is_nothing_left.Goals as goal

pub returns : goal.returns
returns c =
    let rows_are = c.deref.ensures.value ∙ c.in_ok-rows.ensures in
    if_ok c.show_nothing.result
    (λ r is. let each = each_number (standing_of c.args.case.now.before.now).book c.args.clients.now c.requires
    (λ (e : ℕ). one_look (replica_of c.args.case.now.header.now (standing_of c.args.case.now.after.now) e) e c.deref.result.now ≡ []) in (
      (λ so e shown. subst (λ (x : List Row).
          one_look (replica_of c.args.case.now.header.now (standing_of c.args.case.now.after.now) e) e x ≡ []) rows_are
          (each.0 (is.0 so) e shown)),
      (λ none. is.1 (each.1 (λ e shown. subst (λ (x : List Row).
          one_look (replica_of c.args.case.now.header.now (standing_of c.args.case.now.after.now) e) e x ≡ []) (sym rows_are)
          (none e shown)))),
    ))
    c.show_nothing.ensures
