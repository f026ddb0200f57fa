-- A calm entity: its real stays where it is until its Reap comes, and no one calls it.
use Rattle.seam_law_rounds.proofs.Prelude.{◌≡◌, ℕ, ◌+◌, ◌<◌, ◌≤◌, Bool, cond, Option, None, Some, true, AllByRecursion, total, Order}
use Rattle.seam_law_rounds.proofs.Prelude.{RealView, WitnessView, Msg, GhostDrop, Tick, Reap, Update, cell_count, NodeView, World, cells_of}
use Rattle.seam_law_rounds.proofs.Prelude.{Frame, IsInFrame, Has, mine, has_of, entity_flow, real_in, real_at, weight_or, weight}
use Rattle.seam_call.specs.declared.order.Order.TheVariants as order

-- the real q is r but for its witness
abbrev pub IsSame : RealView → RealView → Type 0
IsSame r q = (x : Option WitnessView) × (record r { witness = x } ≡ q)

abbrev pub IsCalmOrder : ℕ → Order → Type 0
IsCalmOrder e order.Tick = Unit {0}
IsCalmOrder e (order.Reap x) = x ≡ e
IsCalmOrder e _ = ⊥

-- what node k has of the entity, whose real was r in cell `home` of world u
pub record IsCalmAt (e home : ℕ) (r : RealView) (u : World) (k : ℕ) (h : Has) : Type 0 where
  pub survey : h.cell.survey ≡ 0
  pub real : (q : RealView) → real_in h ≡ Some q → (k ≡ home) × IsSame r q
  pub orders : AllByRecursion (IsCalmOrder e) h.base.orders
  pub route : h.base.route ≡ ((entity_flow e u).slot k).base.route

-- what is on its way to node k
abbrev pub IsCalmTo : Bool → ℕ → RealView → ℕ → Msg → Type 0
IsCalmTo told home r k (GhostDrop e n) = (told ≡ true) × (n ≤ r.beat + 1) × (k < cell_count)
IsCalmTo told home r k Tick = k < cell_count
IsCalmTo told home r k (Reap e) = k ≡ home
IsCalmTo told home r k (Update u) = cell_count ≤ k
IsCalmTo told home r k _ = ⊥

-- ---- how many reaps of it wait

abbrev pub order_reaps : Order → ℕ
order_reaps (order.Reap e) = 1
order_reaps _ = 0

abbrev pub letter_reaps : Msg → ℕ
letter_reaps (Reap e) = 1
letter_reaps _ = 0

abbrev pub has_reaps : Has → ℕ
has_reaps h = total order_reaps h.base.orders

abbrev pub node_reaps : ℕ → NodeView → ℕ
node_reaps e s = has_reaps (has_of e s)

abbrev pub mine_reaps : ℕ → ℕ → Msg → ℕ
mine_reaps e k m = weight_or letter_reaps (mine e m)

abbrev pub reaps_of : ℕ → World → ℕ
reaps_of e w = weight (node_reaps e) (mine_reaps e) w

abbrev pub one_if : Option RealView → ℕ
one_if None = 0
one_if (Some r) = 1

-- a world in which the entity is calm; its Reap waits as long as its real is there, where it was told to be reaped
pub record IsCalm (f : Frame) (e home : ℕ) (r : RealView) (u : World) (is_told : Bool) (w : World) : Type 0 where
  pub frame : IsInFrame f w
  pub cells : cells_of f.tree ≤ cell_count
  pub nodes : (k : ℕ) → IsCalmAt e home r u k ((entity_flow e w).slot k)
  pub mail : (a k : ℕ) → AllByRecursion (IsCalmTo is_told home r k) ((entity_flow e w).mail a k)
  pub reaps : reaps_of e w ≡ cond is_told (one_if (real_at e w home)) 0
