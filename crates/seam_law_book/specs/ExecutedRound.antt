-- What a round executed, read off the world in which its calls left the nodes quiet, and the flat table after it.
use Rattle.std.specs.Prelude.{◌≡◌, ℕ, length, List, [], ◌++◌, slice_get, Option, None, Some}
use Rattle.std.specs.List.{flat_map}
use Rattle.seam_node_steps.specs.Prelude.{part_of_deed, Part, TypeDef, Call, Create, cell_numbers, RealView, PartView, World}
use Rattle.seam_rule_rounds.specs.Prelude.{Header, Book, live_as, flat, Orders, public_at}
use Rattle.seam_law_calls.specs.Prelude.{entity_flow, real_at}
use Rattle.seam_defs.specs.declared.flags.Part.TheVariants as part
use Rattle.seam_law_book.specs.Going.{base_node}
use Rattle.seam_law_book.specs.LookUps.{real_here, part_here}

-- the calls that a real, and a base part, executed in the round
abbrev pub done_by_real : Option RealView → List Call
done_by_real None = []
done_by_real (Some r) = r.done

abbrev pub done_by_part : Option PartView → List Call
done_by_part None = []
done_by_part (Some p) = p.done

-- what each part of each entity executed: its cell part in whichever cell the real is, its base part at the entity's base node
abbrev pub done_in : Header → World → Orders
done_in h w part.Cell e = flat_map (λ k. done_by_real (real_here e (slice_get w.nodes k))) cell_numbers
done_in h w part.Base e = done_by_part (part_here e (slice_get w.nodes (base_node h e)))

-- the orders of all rounds once these were executed too
abbrev pub with_done : Orders → Orders → Orders
with_done orders done p e = orders p e ++ done p e

-- a call that is done on this part of a type
abbrev pub IsDoneOn : Part → TypeDef → Call → Type 0
IsDoneOn p t x = p ≡ part_of_deed t x.deed

-- ---- the flat table

-- the real is what the flat table has of the entity, which was made so, after these calls of its cell part
pub record IsInTable (h : Header) (made : Create) (order : List Call) (r : RealView) : Type 0 where
  pub version : r.version ≡ length order
  pub state : r.state ≡ flat h part.Cell made order (length order)
  pub public : r.public ≡ public_at h made order (length order)

-- the base part is; the position of its state means nothing
pub record IsPartInTable (h : Header) (made : Create) (order : List Call) (p : PartView) : Type 0 where
  pub version : p.version ≡ length order
  pub props : p.state.props ≡ (flat h part.Base made order (length order)).props

-- each real of an entity that lives in the book is that, by these orders
abbrev pub AreInTable : Header → Book → Orders → World → Type 0
AreInTable h b orders w =
    (e k : ℕ) (r : RealView) (made : Create) → real_at e w k ≡ Some r → live_as b e ≡ Some made →
    IsInTable h made (orders part.Cell e) r

-- and so is each base part
abbrev pub ArePartsInTable : Header → Book → Orders → World → Type 0
ArePartsInTable h b orders w =
    (e : ℕ) (p : PartView) (made : Create) → ((entity_flow e w).slot (base_node h e)).base.part ≡ Some p → live_as b e ≡ Some made →
    IsPartInTable h made (orders part.Base e) p

-- ---- as a batch is loaded

-- the real of an entity that was made so: it is what the flat table has after the rounds before, and executed nothing in this one
pub record BeginsReal (h : Header) (made : Create) (order : List Call) (r : RealView) : Type 0 where
  pub type : r.ty ≡ made.ty
  pub idle : r.done ≡ []
  pub row : IsInTable h made order r

-- and so is its base part
pub record BeginsPart (h : Header) (made : Create) (order : List Call) (p : PartView) : Type 0 where
  pub type : p.ty ≡ made.ty
  pub idle : p.done ≡ []
  pub row : IsPartInTable h made order p
