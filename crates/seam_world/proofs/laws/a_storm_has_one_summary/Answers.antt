use Rattle.std.proofs.Common.{sym, ◌∙◌}
use Rattle.seam_world.proofs.laws.a_storm_has_one_summary.Goals as goal

pub returns : goal.returns
returns c = λ lines text other steps others s o.
    s.4 ∙ c.storm_has_one_summary.ensures lines s.0 o.0 s.1 o.1 s.2 o.2 ∙ sym o.4
