use Rattle.std.proofs.Common.{◌≡◌, ◌++◌, take, get_or, false, subst, sym, ap, ◌∙◌, append-nil}
use Rattle.std.specs.List.{flat_map}
use Rattle.std.proofs.lemmas.List.{take_all}
use Rattle.seam_report.specs.Spelled.{SpellingsView, GoesBy}
use Rattle.seam_world_text.specs.RoundParts.{shown_of}
use Rattle.seam_world_text.specs.declared.residents.Resident.{Resident}
use Rattle.seam_world_text.proofs.Joining.{one_more}
use Rattle.seam_world_text.proofs.ends.push_clients.Goals as goal

pub loop-resident-init : goal.loop-resident-init
loop-resident-init c =
    let new = c.new-spellings.ensures in
    record {
      types = ap (λ (s : SpellingsView). s.defs) new;
      told = λ vs all. (subst (GoesBy vs) (sym new) tt, sym (append-nil c.args.out.now.items));
    }

pub loop-resident-preserved : goal.loop-resident-preserved
loop-resident-preserved c =
    let i = c.loop-resident.resident-index in
    let rs = c.args.residents.now in
    let w = c.args.world.now in
    let kept = c.args.kept.now in
    let none : Resident = record { made = record { entity = 0; ty = 0; pos = record { x = 0; z = 0 } }; client = false } in
    let r = get_or rs i none in
    let lt = c.loop-resident-test.true in
    let pushed = c.in_ok-push_client_of.ensures in
    record {
      types = pushed.defs ∙ c.loop-resident.invariant.types;
      told = λ vs all.
          let before = c.loop-resident.invariant.told vs all in (
            pushed.kept vs before.0 (all i none lt),
            one_more (shown_of c.args.defs.now kept w) c.args.out.now.items c.loop-resident.out.items c.push_client_of.new.out.items
                rs i none lt before.1
                (pushed.shown vs before.0 (all i none lt)
                ∙ ap (λ ds. c.loop-resident.out.items ++ shown_of ds kept w r) c.loop-resident.invariant.types),
          );
    }

pub returns : goal.returns
returns c = λ vs all.
    (c.loop-resident.invariant.told vs all).1
    ∙ ap (λ l. c.args.out.now.items ++ flat_map (shown_of c.args.defs.now c.args.kept.now c.args.world.now) l)
    (take_all c.loop-resident.resident-index c.args.residents.now c.loop-resident-test.false)
