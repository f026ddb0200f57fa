use Rattle.std.proofs.Common.{rules, option_map}
use Rattle.std.proofs.lemmas.Map.Made.{map_same_pairs}
use Rattle.seam_table.proofs.ChangeLemmas.{keys_retained}
use Rattle.seam_table.proofs.change_entries.Goals as goal

pub returns-clause-after : goal.returns-clause-after
returns-clause-after g c f leaves =
    map_same_pairs _ (option_map f) _ (λ k v b w f' t. search (rules, leaves)) _ _ c.retain.ensures.filtered

pub returns-clause-keys : goal.returns-clause-keys
returns-clause-keys g c = keys_retained _ (λ f k v b w f' t. search rules) _ _ _ c.retain.ensures.filtered
