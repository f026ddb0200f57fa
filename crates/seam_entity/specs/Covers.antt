-- What is known of all held calls at once.
use Rattle.std.specs.Prelude.{◌≡◌, ℕ, ◌<◌, Bool, true, false, ◌&&◌, ◌==◌, nat_le, List, length, Option, None, Some, IfSome, box_value}
use Rattle.std.specs.Prelude.{Result, Ok, Err}
use Rattle.std.specs.List.{list_any}
use Rattle.std.specs.declared.boxed.Box.{Box}
use Rattle.seam_geo.specs.declared.pos.Pos.{Pos}
use Rattle.seam_value.specs.declared.values.Value.{Value}
use Rattle.seam_defs.specs.declared.flags.Part.TheVariants as part
use Rattle.seam_defs.specs.declared.types.Method.{Method}
use Rattle.seam_defs.specs.declared.types.TypeDef.{TypeDef}
use Rattle.seam_defs.specs.declared.states.Deed.{Deed}
use Rattle.seam_defs.specs.declared.states.Deed.TheVariants as deed
use Rattle.seam_defs.specs.Types.{method_of}
use Rattle.seam_defs.specs.Tests.{fit_values}
use Rattle.seam_order.specs.declared.Offer.{Offer}
use Rattle.seam_order.specs.declared.Offer.TheVariants.{Next, Held, Stale}
use Rattle.seam_call.specs.declared.call.Call.{Call}
use Rattle.seam_call.specs.Calls.{is_for}
use Rattle.seam_entity.specs.Orders.{Orders}
use Rattle.seam_entity.specs.ReadyCalls.{all_held}

-- a cover of calls: the entity that they are for, a position that no move goes beyond in either direction, and methods, with their
-- numbers, that take the arguments of each call of one
pub record CoverView : Type 0 where
  pub entity : ℕ
  pub far : Pos
  pub methods : List (ℕ × Method)

-- the method has this number, and takes the arguments
abbrev pub takes : ℕ → List Value → ℕ × Method → Bool
takes m args e = (e.0 == m) && fit_values e.1.args args

abbrev pub covers_deed : CoverView → Deed → Bool
covers_deed k (deed.Move p) = nat_le p.x k.far.x && nat_le p.z k.far.z
covers_deed k (deed.Method m args) = list_any (takes m args) k.methods

-- the call is one that the cover speaks of
abbrev pub covers : CoverView → Call → Bool
covers k c = is_for part.Cell k.entity c && covers_deed k c.deed

-- the type has the method of this number, at its cell part and with these types of arguments
pub record IsCellMethod (t : TypeDef) (e : ℕ × Method) : Type 0 where
  pub number : e.0 < length t.methods
  pub part : (method_of t e.0).part ≡ part.Cell
  pub args : (method_of t e.0).args ≡ e.1.args

-- where there is a cover, it covers the call
abbrev pub is_covered : {Z : Type 0} → Option (Box CoverView Z) → Call → Bool
is_covered None c = true
is_covered (Some b) c = covers (box_value b) c

-- where there is a cover, it covers each held call
abbrev pub AreCovered : {Z : Type 0} → Option (Box CoverView Z) → Orders → Type 0
AreCovered cover os = IfSome cover (λ b. all_held (covers (box_value b)) os ≡ true)

-- the offered call is not held
abbrev pub is_not_held : {E : Type 0} → Result (Offer Call) E → Bool
is_not_held (Ok (Next c)) = true
is_not_held (Ok Held) = false
is_not_held (Ok (Stale c)) = true
is_not_held (Err e) = true
