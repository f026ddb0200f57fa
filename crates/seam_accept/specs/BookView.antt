-- What contracts see of a book in code.
use Rattle.std.specs.Prelude.{ℕ, ◌+◌, Bool, List}
use Rattle.seam_tree.specs.Division.{Division}
use Rattle.seam_call.specs.declared.create.Create.{Create}
use Rattle.seam_call.specs.declared.order.Order.{Order}
use Rattle.seam_toml.specs.declared.header.Header.{Header}
use Rattle.seam_accept.specs.declared.entity.Entity.{Entity}

-- The header, the tree of the cells, what is kept of each live entity, the numbers of the dead, and which live ones have a client; of the
-- open round how many lines were kept, and what it brings: creates, entities that get a client, orders, entities that die, and whether the
-- boundaries are balanced.
pub record BookView : Type 0 where
  pub header : Header
  pub tree : Division
  pub entities : List (ℕ × Entity)
  pub dead : List ℕ
  pub clients : List ℕ
  pub count : ℕ
  pub creates : List Create
  pub joined : List ℕ
  pub orders : List (ℕ × Order)
  pub destroyed : List ℕ
  pub balance : Bool

-- one more line of the open round was kept
abbrev pub counted : BookView → BookView
counted v = record v { count = v.count + 1 }
