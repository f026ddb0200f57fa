use Rattle.std.specs.Prelude.{codes}
use Rattle.seam_defs.specs.declared.flags.Part.TheVariants as part
use Rattle.seam_world_text.specs.RoundParts.{done_of}
use Rattle.seam_world_text.proofs.Joining.{one_more}
use Rattle.seam_world_text.proofs.calls.push_did.Goals as goal

pub loop-resident-preserved : goal.loop-resident-preserved
loop-resident-preserved c = λ routes.
    one_more (done_of (codes "did ") c.args.defs.now part.Cell c.args.world.now) c.args.out.now.items c.loop-resident.out.items
    c.push_did_of.new.out.items c.args.residents.now c.loop-resident.resident-index _ c.loop-resident-test.true
    (c.loop-resident.invariant routes) (c.in_ok-near.ensures routes)
