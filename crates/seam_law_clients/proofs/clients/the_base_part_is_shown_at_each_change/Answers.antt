use Rattle.seam_law_clients.proofs.BaseLines.{shows_its_part}
use Rattle.seam_law_clients.proofs.FirstLines.{loaded_lines, round_shows, all_called}
use Rattle.seam_law_clients.proofs.clients.the_base_part_is_shown_at_each_change.Goals as goal

pub returns-clause-along : goal.returns-clause-along
returns-clause-along c = λ f e w v es frame spared run. shows_its_part f e w v es frame spared run

pub returns-clause-load : goal.returns-clause-load
returns-clause-load c = loaded_lines

pub returns-clause-round : goal.returns-clause-round
returns-clause-round c = λ f w b may e k r here v es run p x there has. round_shows f w b may e k r here v es run p x there has

pub returns-clause-all : goal.returns-clause-all
returns-clause-all c = λ f w b may e k r here v es run p x there has quiet h s.
    all_called f w b may e k r here v es run p x there has quiet h s
