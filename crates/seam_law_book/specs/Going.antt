-- A book goes with a quiet world: what the book says of entities is what the world has of them.
use Rattle.std.specs.Prelude.{◌≡◌, ℕ, ◌+◌, ◌%◌, ◌^◌, ◌<◌, ◌≤◌, is_some, [], length, None, Some}
use Rattle.seam_node_steps.specs.Prelude.{Division, cells_of, Create, cell_count, RealView, PartView, World}
use Rattle.seam_rule_rounds.specs.Prelude.{Header, Book, entries, open_lines, created_as, live_as, has_client, tree_of, MOST_LINES}
use Rattle.seam_law_calls.specs.Prelude.{Frame, entity_flow, real_at}
use Rattle.seam_law_rounds.specs.Prelude.{next_from, numbers_of, IsNew, NeverShown, next_to, lines_of}
use Rattle.seam_defs.specs.declared.flags.Part.TheVariants as part
use Rattle.seam_law_book.specs.Bringing.{last_number}

-- what the nodes of a world of the header go by, with this tree alone
abbrev pub frame_of : Header → Division → Frame
frame_of h t = record { defs = h.defs; settings = h.settings; tree = t; later = [] }

-- the base node of an entity
abbrev pub base_node : Header → ℕ → ℕ
base_node h e = cell_count + (e % h.settings.bases)

-- what the world has of entity e, which lives in the book and was made so
pub record IsHeld (h : Header) (b : Book) (w : World) (e : ℕ) (made : Create) : Type 0 where
  -- its real, in a cell
  pub cell : ℕ
  pub real : RealView
  pub here : real_at e w cell ≡ Some real
  -- of its type
  pub type : real.ty ≡ made.ty
  -- with a witness exactly where it has a client
  pub client : is_some real.witness ≡ has_client b e
  -- and its base part, of that type
  pub base : PartView
  pub base_here : ((entity_flow e w).slot (base_node h e)).base.part ≡ Some base
  pub base_type : base.ty ≡ made.ty
  -- the next call of each sender, by its place in the order of senders, follows the last one that was accepted
  pub cell_calls : (s : ℕ) → next_from s real ≡ last_number b part.Cell e s + 1
  pub base_calls : (s : ℕ) → next_to s base ≡ last_number b part.Base e s + 1

abbrev pub Lives : Book → ℕ → Type 0
Lives b e = (made : Create) × (live_as b e ≡ Some made)

-- A book whose open round has no line goes with a quiet world, whose nodes have the tree t.
pub record GoesWith (h : Header) (b : Book) (t : Division) (w : World) : Type 0 where
  -- each cell of that tree is one of the book's tree
  pub cells : cells_of t ≤ cells_of (tree_of b)
  -- no node has anything of a number that was not created
  pub known : (e : ℕ) → created_as b e ≡ None → IsNew w e
  -- nor was any client shown one
  pub unshown : (e : ℕ) → created_as b e ≡ None → NeverShown w e
  -- each entity that lives in the book is there
  pub live : (e : ℕ) (made : Create) → live_as b e ≡ Some made → IsHeld h b w e made
  -- and no other has a real or a base part
  pub reals : (e k : ℕ) (r : RealView) → real_at e w k ≡ Some r → Lives b e
  pub parts : (e k : ℕ) (p : PartView) → ((entity_flow e w).slot k).base.part ≡ Some p → Lives b e

-- The open round has no more lines than a round may have, and the book so few entries that calls have numbers.
pub record HasRoomForCalls (b : Book) : Type 0 where
  pub lines : open_lines b ≤ MOST_LINES
  pub entries_ : length (entries b) < 2 ^ 61

-- The numbers of the world have room for a round: those of each real, and those of its client.
pub record HasRoomForRound (h : Header) (w : World) : Type 0 where
  pub reals : (e k : ℕ) (r : RealView) → real_at e w k ≡ Some r → numbers_of r < 2 ^ 61
  pub clients : (e k : ℕ) (r : RealView) → real_at e w k ≡ Some r → (p : PartView) →
      ((entity_flow e w).slot (base_node h e)).base.part ≡ Some p → lines_of r p < 2 ^ 61
