-- The round that is printed.
use Rattle.std.specs.Prelude.{◌≡◌, ◌+◌}
use Rattle.seam_rule_rounds.specs.Prelude.{Header, Standing}
use Rattle.seam_world_text.specs.Residents.{ArePresent}
use Rattle.seam_world_text.specs.declared.round.PrintedRound.{PrintedRound}

-- It is the open round of the standing: the next one, after the header's definitions, with the entities that are there in it.
pub record IsOpenRound (h : Header) (s : Standing) (r : PrintedRound) : Type 0 where
  pub number : r.number ≡ s.rounds + 1
  pub defs : r.defs.now ≡ h.defs
  pub present : ArePresent s.book r.present.now
