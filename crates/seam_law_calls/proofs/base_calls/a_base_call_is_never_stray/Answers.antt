use Rattle.seam_law_calls.proofs.NoStray.{call_finds}
use Rattle.seam_law_calls.proofs.base_calls.a_base_call_is_never_stray.Goals as goal

pub returns : goal.returns
returns c = λ f e ty first batch update n w h room a k d ms at. call_finds f e ty first batch update n w h room a k d ms at
