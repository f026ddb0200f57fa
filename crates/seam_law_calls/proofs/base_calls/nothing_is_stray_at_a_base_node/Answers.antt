use Rattle.seam_law_calls.proofs.NoStray.{nothing_is_stray}
use Rattle.seam_law_calls.proofs.NodeStray.{none_is_stray}
use Rattle.seam_law_calls.proofs.StrayRuns.{alone_without_stray, client_without_stray}
use Rattle.seam_law_calls.proofs.base_calls.nothing_is_stray_at_a_base_node.Goals as goal

pub returns-clause-now : goal.returns-clause-now
returns-clause-now c = λ f e ty first batch update n w h routes room. nothing_is_stray f e ty first batch update n w h routes room

pub returns-clause-alone : goal.returns-clause-alone
returns-clause-alone c = λ f e ty first batch w v es frame known one h routes alone run.
    alone_without_stray f e ty first batch w v es h routes run frame known one alone

pub returns-clause-client : goal.returns-clause-client
returns-clause-client c = λ f e ty first batch update n w v es h routes client room run most.
    client_without_stray f e ty first batch w v es h routes run update n client room most

pub returns-clause-node : goal.returns-clause-node
returns-clause-node c = λ f e w q nothing k b is. none_is_stray f e w q nothing k b is
