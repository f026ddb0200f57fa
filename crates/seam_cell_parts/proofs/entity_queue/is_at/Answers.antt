use Rattle.std.proofs.Common.{◌≡◌, true, eqb, ap, sym, ltb-true, ltb-false, ◌∙◌, arith}
use Rattle.std.proofs.lemmas.Bool.{true≢false}
use Rattle.std.proofs.lemmas.Bool.Decides.{nat_tests}
use Rattle.std.proofs.lemmas.List.{get_or_read}
use Rattle.seam_cell_parts.proofs.QueueLemmas.{same_entity}
use Rattle.seam_cell_parts.proofs.entity_queue.is_at.Goals as goal

pub returns-in_default-clause-no : goal.returns-in_default-clause-no
returns-in_default-clause-no c f d lt = absurd (let past = ltb-false _ _ (sym c.in_default.ensures.lookup.0) in omega (arith, past, lt))

pub returns-clause-yes : goal.returns-clause-yes
returns-clause-yes c same =
    let d = c.in-Some.entry.now in
    let within = ltb-true _ _ (sym c.in-Some.ensures.lookup.0) in
    record {
      within = within;
      entity = λ b.
          ap (λ w. w.entity) (sym (get_or_read c.args.entries.now c.args.at d within c.in-Some.ensures.lookup.1 b))
          ∙ same_entity d.entity c.args.e same;
    }

pub returns-clause-no : goal.returns-clause-no
returns-clause-no c other b lt same =
    let d = c.in-Some.entry.now in
    let read = get_or_read c.args.entries.now c.args.at d lt c.in-Some.ensures.lookup.1 b in
    let is : d.entity ≡ c.args.e = ap (λ w. w.entity) read ∙ same in
    let equal : eqb d.entity c.args.e ≡ true = grind (arith, nat_tests, is) in
    absurd (true≢false (sym equal ∙ other))
