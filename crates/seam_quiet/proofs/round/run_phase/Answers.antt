use Rattle.std.proofs.Common.{◌≡◌, true, false, sym, ap, ◌∙◌}
use Rattle.std.specs.Prelude.{Result, Ok, Err, IfOk, OnErr}
use Rattle.seam_node_steps.specs.Prelude.{enabled, IsQuiet, node_has_work}
use Rattle.seam_quiet.proofs.round.run_phase.Goals as goal
use Rattle.seam_quiet.proofs.round.run_phase.Goals.{Else-is_quiet}

all_ok : {T E : Type 0} {P : T → Type 0} (r : Result T E) → ((x : T) → P x) → IfOk r P
all_ok (Ok x) f = f x
all_ok (Err e) f = tt

all_err : {T E P : Type 0} (r : Result T E) → P → OnErr r P
all_err (Ok x) p = tt
all_err (Err e) p = p

-- an event is enabled
not_quiet : (g : _) (c : Else-is_quiet g) → IsQuiet node_has_work c.args.world → ⊥
not_quiet g c quiet =
    let e = c.is_quiet.ensures.not_quiet c.if-is_quiet.false in
    let contrary : true ≡ false = sym e.1 ∙ ap (λ w. enabled node_has_work w e.0) c.net.ensures ∙ quiet e.0 in
    cc

pub returns-clause-idle : goal.returns-clause-idle
returns-clause-idle g c =
    all_ok c.bring_to_rest.result (λ r quiet. absurd (not_quiet g ((goal.at.returns-clause-idle g c).Else-is_quiet) quiet))

pub returns-clause-still : goal.returns-clause-still
returns-clause-still g c = all_err c.bring_to_rest.result (not_quiet g ((goal.at.returns-clause-still g c).Else-is_quiet))
