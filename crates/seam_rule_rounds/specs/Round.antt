-- A legal round: its points, each a field over the data that it prints, and what it leaves.
use Rattle.std.specs.Prelude.{◌≡◌, ◌+◌, MatchBool, List, length, map, Option, Some, None}
use Rattle.std.specs.List.{All, flat_map}
use Rattle.seam_tree.specs.Division.{Division}
use Rattle.seam_balance.specs.Balance.{IsBalanced}
use Rattle.seam_defs.specs.declared.flags.Part.TheVariants as part
use Rattle.seam_call.specs.declared.create.Create.{Create}
use Rattle.seam_toml.specs.declared.header.Header.{Header}
use Rattle.seam_rule_lines.specs.FlatTable.{flat}
use Rattle.seam_rule_lines.specs.Round.{HomeLine, BaseLine, Lists, ExtendsOrders}
use Rattle.seam_rule_lines.specs.Book.{Book, live_as, tree_of, has_balance, with_round_ended, with_tree}
use Rattle.seam_rule_rounds.specs.FlatTable.{public_at}
use Rattle.seam_rule_rounds.specs.Standing.{Standing}
use Rattle.seam_rule_rounds.specs.RoundPlaces.{HasPlace, ghost_cells}
use Rattle.seam_rule_rounds.specs.Lines.{GhostLine, RoundData}
use Rattle.seam_rule_rounds.specs.ClientLines.{HasShown, HasLooked}

-- the home line of an entity: its cell is its home, and the state is that after all calls
abbrev pub home_line : Header → Standing → Create → HomeLine
home_line h t c =
    let order = t.orders part.Cell c.entity in
    record {
      entity = c.entity;
      ty = c.ty;
      cell = (t.places c.entity).home;
      version = length order;
      state = flat h part.Cell c order (length order);
    }

-- the base line of an entity
abbrev pub base_line : Header → Standing → Create → BaseLine
base_line h t c =
    let order = t.orders part.Base c.entity in
    record { entity = c.entity; ty = c.ty; version = length order; props = (flat h part.Base c order (length order)).props }

-- the ghost lines of an entity, one for each cell with a ghost, at its public version
abbrev pub ghost_lines : Header → Division → Standing → Create → List GhostLine
ghost_lines h tree t c =
    let order = t.orders part.Cell c.entity in
    map (λ cell. record { entity = c.entity; cell = cell; version = public_at h c order (length order) })
    (ghost_cells tree (t.places c.entity))

-- the book of the next round, with another tree where there are bounds
abbrev pub with_bounds : Book → Option Division → Book
with_bounds b None = b
with_bounds b (Some tree) = with_tree b tree

-- a round in which a `balance` was accepted has bounds: the tree balanced by where the homes are, with which the next round begins; any
-- other round keeps its tree
abbrev pub HasBounds : Header → Standing → RoundData → Standing → Type 0
HasBounds h s r t =
    MatchBool (has_balance s.book)
    ((next : Division) × IsBalanced (map (λ l. l.state.pos) r.homes) h.settings.balance_shift (tree_of s.book) next
    × (r.bounds ≡ Some next) × (t.book ≡ with_tree (with_round_ended s.book) next))
    ((r.bounds ≡ None) × (t.book ≡ with_round_ended s.book))

-- The data is legal for the round that ends at the standing `s`, whose book has all lines of the round; `t` is the standing after it.
pub record IsRound (h : Header) (s : Standing) (r : RoundData) (t : Standing) : Type 0 where
  pub number : r.number ≡ s.rounds + 1
  -- each part executed what was accepted for it
  pub did : ExtendsOrders s.book part.Cell (s.orders part.Cell) (t.orders part.Cell) r.did
  pub dob : ExtendsOrders s.book part.Base (s.orders part.Base) (t.orders part.Base) r.dob
  -- the live entities, and what is held of them where
  pub live : List Create
  pub listed : Lists (live_as s.book) live
  pub places : All (HasPlace h s t) live
  pub homes : r.homes ≡ map (home_line h t) live
  pub bases : r.bases ≡ map (base_line h t) live
  pub ghosts : r.ghosts ≡ flat_map (ghost_lines h (tree_of s.book) t) live
  -- what clients are shown
  pub shown : HasShown h s r t
  pub looked : HasLooked h s r t live
  -- the tree of the next round
  pub bounds : HasBounds h s r t
  -- the round is counted
  pub lines : t.lines ≡ s.lines
  pub rounds : t.rounds ≡ s.rounds + 1
