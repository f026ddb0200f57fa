use Rattle.seam_law_rounds.proofs.EachWay.{round_ways, reaps_ways, looks_ways}
use Rattle.seam_law_rounds.proofs.rounds.each_call_finds_its_way.Goals as goal

pub returns-clause-round : goal.returns-clause-round
returns-clause-round c = round_ways

pub returns-clause-reaps : goal.returns-clause-reaps
returns-clause-reaps c = reaps_ways

pub returns-clause-looks : goal.returns-clause-looks
returns-clause-looks c = looks_ways
