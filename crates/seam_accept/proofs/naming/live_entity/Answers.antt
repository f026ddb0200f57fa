use Rattle.std.proofs.Common.{sym}
use Rattle.seam_accept.proofs.NamedEntities.{found_lives, place_found}
use Rattle.seam_accept.proofs.naming.live_entity.Goals as goal

pub returns-in-Some : goal.returns-in-Some
returns-in-Some c = record {
  live = λ b dead was.
      found_lives b c.args.entities.now.entries dead c.args.entity was c.in-Some.found (sym c.in-Some.ensures.value);
  place = place_found c.args.entities.now.entries c.args.entity c.in-Some.place c.in-Some.field-0-1.now c.in-Some.found.now
      c.in-Some.ensures.key c.in-Some.ensures.entry;
}
