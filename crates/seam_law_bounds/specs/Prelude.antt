-- What the crates above cite of this one and of those below it, gathered, so that one import names it.
pub use Rattle.seam_law_bounds.specs.Events.{AllCan, BaseCan, NodeCan, all_passes, cell_passes, is_left, is_pass, node_passes, passes_by}
pub use Rattle.seam_law_bounds.specs.Looking.{AllAmong, Always, ClientsKeepRoom, EachSeenIsHeld, LooksAmong, LooksFit, is_among}
pub use Rattle.seam_law_bounds.specs.Most.{AreAmong, AreAtMost}
pub use Rattle.seam_law_bounds.specs.Passes.{brings_call, hand_overs, hands_over, is_numbered, passes, passes_on, was_left}
pub use Rattle.seam_law_bounds.specs.Phases.{HoldsNothing, all_witnesses, base_orders, cell_orders, entities, events_of_looks}
pub use Rattle.seam_law_bounds.specs.Phases.{events_of_round, one_if_cell, one_if_tick, reals_at, tick_orders, witnesses_at}
pub use Rattle.seam_law_bounds.specs.Ranks.{AreRanked, Climbs, ComesTo, has_hand_from, is_hand_from, is_handed_over, rank_of}
pub use Rattle.seam_law_bounds.specs.Records.{IsBounded}
pub use Rattle.seam_law_bounds.specs.Weights.{Sizes, letter_weight, look_weight, node_weight, order_weight, part_weight, proxy_weight}
pub use Rattle.seam_law_bounds.specs.Weights.{left_weight, moving_cell_weight, moving_letter_weight, moving_node_weight}
pub use Rattle.seam_law_bounds.specs.Weights.{moving_real_weight, moving_weight}
pub use Rattle.seam_law_bounds.specs.Weights.{real_weight, settle_weight, settling, tick_weight, world_weight}
