-- The states of the flat table: their values are those of their group, and their positions are inside the space.
use Rattle.std.proofs.Common.{◌≡◌, ℕ, ◌<◌, List, [], ◌∷◌, length, fold, take, All, refl, sym, subst, arith}
use Rattle.std.proofs.lemmas.List.Elements.{All-head, All-tail, All-take}
use Rattle.seam_geo.specs.declared.pos.Pos.{Pos}
use Rattle.seam_node_steps.specs.Prelude.{AreDefs, AreLegal, FitsDeed, part_of_deed, type_of, method_of, after, IsOfGroup, Part, TypeDef}
use Rattle.seam_node_steps.specs.Prelude.{State}
use Rattle.seam_node_steps.specs.Prelude.{Deed, Move, Method, Call, Create}
use Rattle.seam_rule_rounds.specs.Prelude.{Header, first_state, flat, properties}
use Rattle.seam_defs.specs.declared.flags.Part.TheVariants as part
use Rattle.seam_defs.specs.declared.flags.Group.TheVariants as group
use Rattle.seam_defs.specs.declared.flags.Flag.TheVariants as flag
use Rattle.seam_defs.specs.Groups.{held_by, IsWithin}
use Rattle.seam_defs.specs.Deeds.{own_of, other_of, client_of}
use Rattle.seam_defs.proofs.Numbers.{type_of-is}
use Rattle.seam_defs.proofs.Keeping.{method-keeps}
use Rattle.seam_defs.proofs.Starts.{start_of_group}
use Rattle.seam_defs.proofs.GroupsOfGroups.{projected_of_group}
use Rattle.seam_law_book.specs.Prelude.{IsInside, StaysInside}
use Rattle.seam_law_texts.specs.Forms.{HasState, IsPosition}

-- a call that a part of a type may execute
pub record FitsOn (h : Header) (t : TypeDef) (p : Part) (x : Call) : Type 0 where
  pub deed : FitsDeed t x.deed
  pub part : p ≡ part_of_deed t x.deed
  pub inside : StaysInside h x.deed

-- a position of the space has numbers of 32 bits
pub is_place : (h : Header) (p : Pos) → AreLegal h.settings → IsInside h p → IsPosition p
is_place h p legal inside =
    let most = legal.in_range.size in
    let x = inside.x in
    let z = inside.z in
    (omega (arith, most, x), omega (arith, most, z))

module _ (h : Header) (defs : AreDefs h.defs) (p : Part) (c : Create) where
  abbrev its : TypeDef
  its = type_of h.defs c.ty

  -- a state that the part may hold
  pub record IsHeldState (s : State) : Type 0 where
    pub values : IsOfGroup its.properties (held_by p) s.props
    pub inside : IsInside h s.pos

  after_deed : (s : State) (d : Deed) → FitsDeed its d → p ≡ part_of_deed its d → StaysInside h d → IsHeldState s →
      IsHeldState (after its s d)
  after_deed s (Move to) fits is inside held = record { values = held.values; inside = inside }
  after_deed s (Method m args) fits is inside held =
      let within : m < length its.methods = fits.0 in
      let method = method_of its m in
      let values : IsOfGroup its.properties (held_by method.part) s.props =
      subst (λ (q : Part). IsOfGroup its.properties (held_by q) s.props) is held.values in
      record {
        values = subst (λ (q : Part). IsOfGroup its.properties (held_by q) (after its s (Method m args)).props) (sym is)
            (method-keeps its.properties method args fits.1 ((type_of-is h.defs defs c.ty).bodies m _ within) s.props values);
        inside = held.inside;
      }

  after_calls : (s : State) (xs : List Call) → All (FitsOn h its p) xs → IsHeldState s →
      IsHeldState (fold (λ (u : State) (x : Call). after its u x.deed) s xs)
  after_calls s [] all held = held
  after_calls s (x ∷ xs) all held =
      let fits = All-head (FitsOn h its p) x xs all in
      after_calls (after its s x.deed) xs (All-tail (FitsOn h its p) x xs all)
      (after_deed s x.deed fits.deed fits.part fits.inside held)

  starts : IsInside h c.pos → IsHeldState (first_state h p c)
  starts inside = record {
    values = start_of_group its.properties (held_by p) (type_of-is h.defs defs c.ty).defaults;
    inside = inside;
  }

  pub flat_is : IsInside h c.pos → (order : List Call) → All (FitsOn h its p) order → (v : ℕ) → IsHeldState (flat h p c order v)
  flat_is inside order all v = after_calls (first_state h p c) (take v order) (All-take (FitsOn h its p) v order all) (starts inside)

-- ---- what is shown of a state

own_within : IsWithin group.Own group.Real
own_within flag.CellPublicAndOwn is = refl
own_within flag.OwnClient is = refl
own_within flag.AllClients is = refl
own_within flag.Base is = cc
own_within flag.BaseAndClient is = cc
own_within flag.CellPrivate is = cc
own_within flag.CellPublic is = cc
own_within flag.OtherClients is = cc

other_within : IsWithin group.Other group.Real
other_within flag.OtherClients is = refl
other_within flag.AllClients is = refl
other_within flag.Base is = cc
other_within flag.BaseAndClient is = cc
other_within flag.CellPrivate is = cc
other_within flag.CellPublic is = cc
other_within flag.CellPublicAndOwn is = cc
other_within flag.OwnClient is = cc

client_within : IsWithin group.BaseClient group.Base
client_within flag.BaseAndClient is = refl
client_within flag.Base is = cc
client_within flag.CellPrivate is = cc
client_within flag.CellPublic is = cc
client_within flag.CellPublicAndOwn is = cc
client_within flag.OwnClient is = cc
client_within flag.OtherClients is = cc
client_within flag.AllClients is = cc

module _ (h : Header) (legal : AreLegal h.settings) (defs : AreDefs h.defs) (c : Create) (s : State) where
  pub has_real : IsHeldState h defs part.Cell c s → HasState (type_of h.defs c.ty) group.Real s
  has_real held = record { place = is_place h s.pos legal held.inside; values = held.values }

  pub has_own : IsHeldState h defs part.Cell c s → HasState (type_of h.defs c.ty) group.Own (own_of (properties h c) s)
  has_own held = record {
    place = is_place h s.pos legal held.inside;
    values = projected_of_group group.Real group.Own own_within (properties h c) s.props held.values;
  }

  pub has_other : IsHeldState h defs part.Cell c s → HasState (type_of h.defs c.ty) group.Other (other_of (properties h c) s)
  has_other held = record {
    place = is_place h s.pos legal held.inside;
    values = projected_of_group group.Real group.Other other_within (properties h c) s.props held.values;
  }

  pub has_client : IsHeldState h defs part.Base c s →
      IsOfGroup (type_of h.defs c.ty).properties group.BaseClient (client_of (properties h c) s)
  has_client held = projected_of_group group.Base group.BaseClient client_within (properties h c) s.props held.values
