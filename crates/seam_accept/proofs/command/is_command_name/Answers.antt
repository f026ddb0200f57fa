use Rattle.std.proofs.Common.{[], ◌∷◌}
use Rattle.std.specs.Prelude.{codes}
use Rattle.seam_accept.proofs.CommandLemmas.{one_of_others}
use Rattle.seam_accept.proofs.command.is_command_name.Goals as goal

pub returns-else-is_create_call_move_or_sync : goal.returns-else-is_create_call_move_or_sync
returns-else-is_create_call_move_or_sync c =
    one_of_others (codes "create" ∷ codes "call" ∷ codes "move" ∷ codes "sync" ∷ [])
    (codes "client" ∷ codes "tick" ∷ codes "cut" ∷ codes "shift" ∷ codes "balance" ∷ codes "destroy" ∷ []) c.args.word.now
    c.is_create_call_move_or_sync.result c.is_other_name.result c.if-is_create_call_move_or_sync.false
    c.is_create_call_move_or_sync.ensures c.is_other_name.ensures
