-- At stray input nothing changes but the list that a task's entry is taken from.
use Rattle.std.proofs.Common.{◌≡◌, ℕ, true, List, ◌∷◌, ap}
use Rattle.seam_node_steps.specs.Prelude.{Boundaries, From, Order, Msg, Here, Slot, rests, unless_stray, BaseView}
use Rattle.seam_node_steps.specs.CellCases
use Rattle.seam_node_steps.specs.BaseCases

pub stray_rests : (h : Here) (b : Boundaries) (s : Slot) (m : Msg) → CellCases.is_stray h b.tree s m ≡ true →
    CellCases.slot_steps h b s m ≡ rests
stray_rests h b s m is = ap (λ d. unless_stray d (CellCases.case_of h b s m)) is

pub stray_at_base_rests : (b : BaseView) (a : ℕ) (m : Msg) → BaseCases.is_stray b m ≡ true → BaseCases.base_steps b (From a m)
    ≡ BaseCases.sends_none b
stray_at_base_rests b a m is = ap (λ d. BaseCases.unless_stray d b (BaseCases.sends_none (BaseCases.case_of b m))) is

pub stray_order_rests : (b : BaseView) (o : Order) (os : List Order) → BaseCases.stray_order b o ≡ true → BaseCases.base_task b (o ∷ os)
    ≡ BaseCases.sends_none b
stray_order_rests b o os is = ap (λ d. BaseCases.unless_stray d b (BaseCases.order_of_node (record b { orders = os }) o)) is

pub ruleset stray_laws = (stray_rests, stray_at_base_rests, stray_order_rests)
