-- Lines of a round, as data; of whom they are; and the executed calls among them.
use Rattle.std.specs.Prelude.{◌≡◌, ◌↔◌, ℕ, List, ◌++◌, map, Option, Some, Contains}
use Rattle.std.specs.List.{flat_map}
use Rattle.std.specs.List.Sorted.{IsStrictlyIncreasing}
use Rattle.seam_value.specs.declared.values.Value.{Value}
use Rattle.seam_defs.specs.declared.flags.Part.{Part}
use Rattle.seam_defs.specs.declared.states.State.{State}
use Rattle.seam_call.specs.declared.call.Call.{Call}
use Rattle.seam_call.specs.declared.create.Create.{Create}
use Rattle.seam_rule_lines.specs.Book.{Book, created_as, accepted}
use Rattle.seam_rule_lines.specs.Orders.{IsFull}

-- ---- what a round prints, as data

-- an executed call, `did` or `dob`: the type of its entity, and the call
pub record DoneLine : Type 0 where
  pub ty : ℕ
  pub call : Call

-- a live entity: its type, its cell, its version, and the state of its real
pub record HomeLine : Type 0 where
  pub entity : ℕ
  pub ty : ℕ
  pub cell : ℕ
  pub version : ℕ
  pub state : State

-- its base part: the version, and what it holds
pub record BaseLine : Type 0 where
  pub entity : ℕ
  pub ty : ℕ
  pub version : ℕ
  pub props : List Value

-- ---- what it prints of whom

-- the list has exactly these entities, in rising number
pub record Lists (entities : ℕ → Option Create) (list : List Create) : Type 0 where
  pub rising : IsStrictlyIncreasing (map (λ c. c.entity) list)
  pub exact : (c : Create) → Contains list c ↔ (entities c.entity ≡ Some c)

-- the lines of the calls that entities executed
abbrev pub done_lines : (ℕ → List Call) → List Create → List DoneLine
done_lines done made = flat_map (λ c. map (λ x. record { ty = c.ty; call = x }) (done c.entity)) made

-- The lines are, for each entity that was created, what its part executed after `before`, with which it executed all that was
-- accepted for it, and so `after`.
pub record ExtendsOrders (b : Book) (p : Part) (before after : ℕ → List Call) (lines : List DoneLine) : Type 0 where
  pub made : List Create
  pub listed : Lists (created_as b) made
  pub done : ℕ → List Call
  pub are : lines ≡ done_lines done made
  pub further : (e : ℕ) → after e ≡ before e ++ done e
  pub full : (e : ℕ) → IsFull (accepted b p e) (after e)
