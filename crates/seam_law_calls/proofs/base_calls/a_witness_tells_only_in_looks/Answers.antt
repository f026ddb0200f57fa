use Rattle.seam_law_calls.proofs.NoLooks.{looks_lead}
use Rattle.seam_law_calls.proofs.base_calls.a_witness_tells_only_in_looks.Goals as goal

pub returns : goal.returns
returns c = λ f e n w v es q looks told run.
    let h = looks_lead f e n w v es (record { frame = q; looks = looks; told = told }) run in (h.looks, h.told)
