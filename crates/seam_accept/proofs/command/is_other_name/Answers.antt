use Rattle.std.proofs.Common.{[], ◌∷◌}
use Rattle.std.specs.Prelude.{codes}
use Rattle.seam_accept.proofs.CommandLemmas.{one_of_others}
use Rattle.seam_accept.proofs.command.is_other_name.Goals as goal

pub returns-else-is_client_tick_or_cut : goal.returns-else-is_client_tick_or_cut
returns-else-is_client_tick_or_cut c =
    one_of_others (codes "client" ∷ codes "tick" ∷ codes "cut" ∷ []) (codes "shift" ∷ codes "balance" ∷ codes "destroy" ∷ [])
    c.args.word.now c.is_client_tick_or_cut.result c.is_shift_balance_or_destroy.result c.if-is_client_tick_or_cut.false
    c.is_client_tick_or_cut.ensures c.is_shift_balance_or_destroy.ensures
