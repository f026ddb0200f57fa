-- What contracts see of a real.
use Rattle.std.specs.Prelude.{ℕ, List, Option}
use Rattle.std.specs.Ordering.{nat_cmp}
use Rattle.std.specs.FinSet as set
use Rattle.seam_tree.specs.Cells.{Cells}
use Rattle.seam_view.specs.Replica.{Replica}
use Rattle.seam_defs.specs.declared.states.State.{State}
use Rattle.seam_call.specs.declared.call.Call.{Call}
use Rattle.seam_entity.specs.Orders.{Orders}

-- a witness: what its client was shown of others, the version of the last own state if one was told, and the number of the last update
pub record WitnessView : Type 0 where
  pub view : Replica
  pub told : Option ℕ
  pub sent : ℕ

-- an entity's real. Its version counts the calls that it executed, its public version is that of the last change that others
-- may see; `done` are the calls executed in this round; the beat numbers what its ghosts are told, the generation its hand-overs
pub record RealView : Type 0 where
  pub entity : ℕ
  pub ty : ℕ
  pub state : State
  pub version : ℕ
  pub public : ℕ
  pub orders : Orders
  pub done : List Call
  pub haunts : Cells
  pub beat : ℕ
  pub generation : ℕ
  pub witness : Option WitnessView

-- a real, and beside it for how many more calls there is room in `done`, and the places of the senders whose order has room
pub record RoomyReal : Type 0 where
  pub core : RealView
  pub spare : ℕ
  pub senders : set.FinSet nat_cmp
