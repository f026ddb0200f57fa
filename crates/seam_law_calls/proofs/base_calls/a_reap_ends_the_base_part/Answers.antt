use Rattle.seam_law_calls.proofs.Prelude.{ap, stray_base_call, here_at}
use Rattle.seam_law_calls.proofs.BaseQuiet.{no_call_left}
use Rattle.seam_law_calls.proofs.Reaped.{reap_ends_part, part_stays_gone, no_call_comes, reaps_without_calls}
use Rattle.seam_law_calls.proofs.base_calls.a_reap_ends_the_base_part.Goals as goal

pub returns-clause-ends : goal.returns-clause-ends
returns-clause-ends c = λ b e os at routed. reap_ends_part b e os at routed

pub returns-clause-gone : goal.returns-clause-gone
returns-clause-gone c = λ f e w v es q gone run. part_stays_gone f e w v es q gone run

pub returns-clause-stray : goal.returns-clause-stray
returns-clause-stray c = λ f e k d w gone. ap (stray_base_call (here_at f k) d) (gone k)

pub returns-clause-silent : goal.returns-clause-silent
returns-clause-silent c = λ f e xs w v es q quiet framed run.
    no_call_comes f e (_) v es framed (reaps_without_calls e xs w (no_call_left f e w q quiet)) run
