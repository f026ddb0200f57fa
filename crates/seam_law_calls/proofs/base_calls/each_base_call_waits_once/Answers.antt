use Rattle.seam_law_calls.proofs.AloneRuns.{alone_leads}
use Rattle.seam_law_calls.proofs.ClientLeads.{both_leads}
use Rattle.seam_law_calls.proofs.NoLooks.{looks_lead}
use Rattle.seam_law_calls.proofs.base_calls.each_base_call_waits_once.Goals as goal

pub returns-clause-alone : goal.returns-clause-alone
returns-clause-alone c = λ f e ty first batch w v es h alone run.
    let k = alone_leads f e ty first batch w v es (record { calls = h; alone = alone }) run in
    (k.calls, k.alone)

pub returns-clause-client : goal.returns-clause-client
returns-clause-client c = λ f e ty first batch update n w v es h client room run most.
    let k = both_leads f e ty first batch update n w v es (record { calls = h; client = client }) room run most in
    (k.calls, k.client)

pub returns-clause-before_looks : goal.returns-clause-before_looks
returns-clause-before_looks c = λ f e ty first batch update n w v es h client told room looks run.
    let k =
    both_leads f e ty first batch update n w v es (record { calls = h; client = client }) room run
    (looks_lead f e n w v es (record { frame = h.part.frame; looks = looks; told = told }) run).told in
    (k.calls, k.client)
