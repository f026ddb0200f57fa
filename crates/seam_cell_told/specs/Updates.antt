-- What a look tells, as updates.
use Rattle.std.specs.Prelude.{ℕ, List, [], ◌∷◌, ◌++◌}
use Rattle.seam_node_steps.specs.Prelude.{Shown, Here, base_of, RealView, Msg}
use Rattle.seam_entity.specs.declared.message.Msg.TheVariants as msg

-- updates of an entity that go to a node, numbered after those that were sent, and what they show
pub record UpdatesView : Type 0 where
  pub to : ℕ
  pub entity : ℕ
  pub sent : ℕ
  pub shown : List Shown

-- what the updates among the messages show
abbrev pub shown_in : List (ℕ × Msg) → List Shown
shown_in [] = []
shown_in ((k, msg.Update u) ∷ ms) = u.shown ∷ shown_in ms
shown_in (_ ∷ ms) = shown_in ms

-- with these shown after the others
abbrev pub with_shown : UpdatesView → List Shown → UpdatesView
with_shown u ss = record u { shown = u.shown ++ ss }

-- the updates of a real that show these, after so many that were sent
abbrev pub updates_of : Here → RealView → ℕ → List Shown → UpdatesView
updates_of h r sent ss = record { to = base_of h r.entity; entity = r.entity; sent = sent; shown = ss }
