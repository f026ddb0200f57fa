-- What was true of an entity in some world of a round's calls is what the rules say that its client, and others, may be shown.
use Rattle.seam_law_transcript.proofs.Prelude.{◌≡◌, ℕ, ◌-◌, ◌≤◌, List, [], ◌∷◌, ◌++◌, length, sym, ap, ◌∙◌, subst, arith, length-append}
use Rattle.seam_law_transcript.proofs.Prelude.{append_assoc, take, drop, AllByRecursion, own_of, other_of, ghost_of, projected, type_of}
use Rattle.seam_law_transcript.proofs.Prelude.{State, Property, TypeDef, Call as CallData, Create, GhostCopy, Division, RealView, Header}
use Rattle.seam_law_transcript.proofs.Prelude.{flat, properties, public_at, other_at, here_at, Account, account_of, after_calls, IsTrueCopy}
use Rattle.seam_law_transcript.proofs.Prelude.{frame_of, IsDoneOn, BeginsReal, other_of_copy, Agrees, agrees_after, flat_before}
use Rattle.seam_law_transcript.proofs.Prelude.{public_before}
use Rattle.std.proofs.Common.{take-append-drop}
use Rattle.seam_defs.specs.declared.flags.Group.TheVariants as group
use Rattle.seam_defs.specs.declared.flags.Part.TheVariants as part
use Rattle.seam_law_ghosts.specs.Truths as copies
use Rattle.seam_law_book.proofs.Rows.{ghost_is_public}

all_first : {X : Type 0} (P : X → Type 0) (xs ys : List X) → AllByRecursion P (xs ++ ys) → AllByRecursion P xs
all_first P [] ys all = tt
all_first P (x ∷ xs) ys all = (all.0, all_first P xs ys all.1)

-- the first calls of those that the entity executed in the round
module _ (h : Header) (c : Create) (order done : List CallData) (first : RealView) (begins : BeginsReal h c order first)
    (deeds : AllByRecursion (IsDoneOn part.Cell (type_of h.defs c.ty)) done) (ks rest : List CallData) (split : done ≡ ks ++ rest) where
  abbrev its : TypeDef
  its = type_of h.defs c.ty

  abbrev now : Account
  now = after_calls its (account_of first) ks

  abbrev version : ℕ
  version = length (order ++ ks)

  so : Agrees h c (order ++ ks) now
  so =
      agrees_after h c order (account_of first) ks
      (all_first (IsDoneOn part.Cell its) ks rest (subst (AllByRecursion (IsDoneOn part.Cell its)) split deeds))
      (record { version = begins.row.version; state = begins.row.state; public = begins.row.public })

  all_is : (order ++ ks) ++ rest ≡ order ++ done
  all_is = append_assoc order ks rest ∙ ap (λ l. order ++ l) (sym split)

  pub version_now : now.version ≡ version
  version_now = so.version

  pub state_now : now.state ≡ flat h part.Cell c (order ++ done) version
  state_now =
      so.state ∙ sym (flat_before h c (order ++ ks) rest version (omega arith)) ∙ ap (λ l. flat h part.Cell c l version) all_is

  pub public_now : now.public ≡ public_at h c (order ++ done) version
  public_now =
      so.public ∙ sym (public_before h c (order ++ ks) rest version (omega arith)) ∙ ap (λ l. public_at h c l version) all_is

  pub from_start : length order ≤ version
  from_start = let l = length-append order ks in omega (arith, l)

  pub up_to_end : version ≤ length (order ++ done)
  up_to_end = let l = ap length all_is in let m = length-append (order ++ ks) rest in omega (arith, l, m)

  -- the own state of a real that executed these calls
  pub own_now_is : (r : RealView) → r.ty ≡ first.ty → account_of r ≡ after_calls (type_of h.defs first.ty) (account_of first) ks →
      (r.version ≡ version)
      × (own_of (type_of h.defs r.ty).properties r.state ≡ own_of (properties h c) (flat h part.Cell c (order ++ done) version))
  own_now_is r type account =
      let is : account_of r ≡ now = account ∙ ap (λ y. after_calls (type_of h.defs y) (account_of first) ks) begins.type in (
        ap (λ a. a.version) is ∙ version_now,
        ap (λ y. own_of (type_of h.defs y).properties r.state) (type ∙ begins.type)
            ∙ ap (own_of (properties h c)) (ap (λ a. a.state) is ∙ state_now),
      )

-- a true copy of it, as others are shown it
module _ (ghosts : (ps : List Property) (s t : State) → ghost_of ps s ≡ ghost_of ps t → other_of ps s ≡ other_of ps t)
    (by_ghost : (ps : List Property) (s : State) → projected ps group.Ghost group.Other (ghost_of ps s).props ≡ (other_of ps s).props)
    (h : Header) (tree : Division) (c : Create) (order done : List CallData) (first : RealView) (begins : BeginsReal h c order first)
    (deeds : AllByRecursion (IsDoneOn part.Cell (type_of h.defs c.ty)) done) (further rest : List CallData)
    (split : done ≡ further ++ rest) (copy : GhostCopy) (true_ : IsTrueCopy (frame_of h tree) first further copy) where
  abbrev n : ℕ
  n = copy.version - first.version

  abbrev ks : List CallData
  ks = take n further

  abbrev later : List CallData
  later = drop n further ++ rest

  split_there : done ≡ ks ++ later
  split_there = split ∙ ap (λ l. l ++ rest) (sym (take-append-drop n further)) ∙ append_assoc ks (drop n further) rest

  abbrev pub at : ℕ
  at = length (order ++ ks)

  same_type : after_calls (type_of h.defs first.ty) (account_of first) ks ≡ after_calls (type_of h.defs c.ty) (account_of first) ks
  same_type = ap (λ y. after_calls (type_of h.defs y) (account_of first) ks) begins.type

  public_is : copy.version ≡ public_at h c (order ++ done) at
  public_is =
      sym true_.public ∙ ap (λ a. a.public) same_type ∙ public_now h c order done first begins deeds ks later split_there

  state_is : copy.state ≡ ghost_of (properties h c) (flat h part.Cell c (order ++ done) at)
  state_is =
      ap (λ (k : GhostCopy). k.state) true_.is
      ∙ ap (λ y. ghost_of (type_of h.defs y).properties (copies.state_at (frame_of h tree) first further copy.version)) begins.type
      ∙ ap (ghost_of (properties h c)) (ap (λ a. a.state) same_type ∙ state_now h c order done first begins deeds ks later split_there)

  -- it is the copy of the rules, at a version that the entity had in the round
  pub other_is : other_of_copy (here_at (frame_of h tree) 0) copy ≡ other_at h c (order ++ done) (public_at h c (order ++ done) at)
  other_is =
      let ps = properties h c in
      let state = flat h part.Cell c (order ++ done) at in
      let past = flat h part.Cell c (order ++ done) (public_at h c (order ++ done) at) in
      let type : copy.ty ≡ c.ty = ap (λ (k : GhostCopy). k.ty) true_.is ∙ begins.type in
      let others : other_of ps state ≡ other_of ps past = ghosts ps state past (ghost_is_public h c (order ++ done) at) in
      let props : projected (type_of h.defs copy.ty).properties group.Ghost group.Other copy.state.props ≡ (other_of ps state).props =
      ap (λ y. projected (type_of h.defs y).properties group.Ghost group.Other copy.state.props) type
      ∙ ap (λ (s : State). projected ps group.Ghost group.Other s.props) state_is ∙ by_ghost ps state in
      let shown : record {
        pos = copy.state.pos;
        props = projected (type_of h.defs copy.ty).properties group.Ghost group.Other copy.state.props;
      }
      ≡ other_of ps state = (λ i. record { pos = ap (λ (s : State). s.pos) state_is i; props = props i }) in
      λ i. record { ty = type i; version = public_is i; state = (shown ∙ others) i }

  pub not_before : length order ≤ at
  not_before = from_start h c order done first begins deeds ks later split_there

  pub not_after : at ≤ length (order ++ done)
  not_after = up_to_end h c order done first begins deeds ks later split_there
