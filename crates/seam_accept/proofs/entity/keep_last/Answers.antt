use Rattle.std.proofs.Common.{◌∙◌, ap, subst}
use Rattle.std.proofs.lemmas.Result.{on_err_weaker, on_ok_weaker}
use Rattle.seam_accept.specs.Entities.{Remembers}
use Rattle.seam_accept.specs.declared.entity.Entity.{Entity}
use Rattle.indexmap.specs.IndexMap.{set_value_at}
use Rattle.seam_accept.proofs.NamedEntities.{lent_at_place, back_at_place, changed_at_place}
use Rattle.seam_accept.proofs.entity.keep_last.Goals as goal

pub returns-clause-kept : goal.returns-clause-kept
returns-clause-kept c =
    let call = c.args.call.now in
    let lent = lent_at_place c.args.entities.now.entries call.entity c.args.place c.in-Some.called.now c.requires c.in-Some.ensures.value in
    on_ok_weaker c.keep_last.result
    (λ remembers. changed_at_place c.args.entities.now call.entity c.args.place c.keep_last.new.self
    (Remembers call.part call.sender call.number) c.requires c.in-Some.ensures.unique
    (subst (λ (v : Entity). Remembers call.part call.sender call.number v c.keep_last.new.self) lent remembers))
    c.keep_last.ensures.kept

pub returns-clause-unchanged : goal.returns-clause-unchanged
returns-clause-unchanged c =
    let entities = c.args.entities.now.entries in
    let lent = lent_at_place entities c.args.call.now.entity c.args.place c.in-Some.called.now c.requires c.in-Some.ensures.value in
    on_err_weaker c.keep_last.result
    (λ same. ap (λ (v : Entity). set_value_at entities c.args.place v) (same ∙ lent)
    ∙ back_at_place entities c.args.place c.args.call.now.entity c.requires.entity c.requires.at)
    c.keep_last.ensures.unchanged
