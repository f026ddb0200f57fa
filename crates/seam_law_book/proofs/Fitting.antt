-- What the open round of a book brings may be given to a world that goes with the book as the round began.
use Rattle.seam_law_book.proofs.Prelude.{◌≡◌, ℕ, ◌+◌, true, false, cond, List, [], ◌∷◌, ◌++◌, length, Option, Some, None, refl, sym, ap}
use Rattle.seam_law_book.proofs.Prelude.{◌∙◌, subst, inl, inr, ◌&&◌, nat_lt, is_some, AllByRecursion, nat_cmp, cases_eq, eq-eqb, none-some}
use Rattle.seam_law_book.proofs.Prelude.{Division, Pos, FitsDeed, part_of_deed, method_of, fits_deed, fit_values, Part, TypeDef, Deed}
use Rattle.seam_law_book.proofs.Prelude.{same_part, Create, order_or, RealView, is_inside, stays_inside, can_do, PartView, World, Header}
use Rattle.seam_law_book.proofs.Prelude.{Book, creates_of, created_as, live_as, has_client, entity_flow, real_at, next_from}
use Rattle.seam_law_book.proofs.Prelude.{IsBetweenRounds, MayBeMade, next_to, as_begun, made_among, IsPresent, IsInside, IsNewEntity}
use Rattle.seam_law_book.proofs.Prelude.{StaysInside, last_number, HasFitRound, IsUntouched, frame_of, base_node, IsHeld, GoesWith}
use Rattle.seam_law_book.proofs.Prelude.{fit-Decides, live_is_created, differ, AreOthers, middle}
use Rattle.std.specs.FinMap as table
use Rattle.seam_defs.specs.declared.flags.Part.TheVariants as part
use Rattle.seam_defs.specs.declared.states.Deed.TheVariants as deed
use Rattle.seam_law_book.proofs.Origins.{IsCreate, RealFrom, was, made, PartFrom, had, comes}
use Rattle.seam_law_calls.proofs.Holds.{below_is, all_two}

-- ---- tests

pub inside_test : (h : Header) (p : Pos) → IsInside h p → is_inside h.settings.size p ≡ true
inside_test h p i =
    all_two (nat_lt p.x h.settings.size) (nat_lt p.z h.settings.size) (below_is p.x h.settings.size i.x)
    (below_is p.z h.settings.size i.z)

pub same_self : (p : Part) → same_part p p ≡ true
same_self part.Cell = refl
same_self part.Base = refl

deed_test : (t : TypeDef) (d : Deed) → FitsDeed t d → fits_deed t d ≡ true
deed_test t (deed.Move p) fits = refl
deed_test t (deed.Method m args) fits =
    all_two (nat_lt m (length t.methods)) (fit_values (method_of t m).args args) (below_is m (length t.methods) fits.0)
    ((fit-Decides (method_of t m).args args).1 fits.1)

stays_test : (h : Header) (d : Deed) → StaysInside h d → stays_inside h.settings.size d ≡ true
stays_test h (deed.Move p) i = inside_test h p i
stays_test h (deed.Method m args) i = refl

pub can_test : (h : Header) (t : TypeDef) (p : Part) (d : Deed) → FitsDeed t d → p ≡ part_of_deed t d → StaysInside h d →
    can_do h.settings.size t p d ≡ true
can_test h t p d fits is inside =
    all_two (same_part (part_of_deed t d) p) (fits_deed t d && stays_inside h.settings.size d)
    (ap (same_part (part_of_deed t d)) is ∙ same_self (part_of_deed t d))
    (all_two (fits_deed t d) (stays_inside h.settings.size d) (deed_test t d fits) (stays_test h d inside))

-- ---- who is made

-- no other is made so
pub others_none : (e : ℕ) (cs : List Create) → AreOthers e cs → made_among cs e ≡ None
others_none e [] h = refl
others_none e (c ∷ cs) h =
    ap (λ x. cond x (Some c) (made_among cs e)) (differ c.entity e h.0) ∙ others_none e cs h.1

pub found_by : (e : ℕ) (x : Create) (first later : List Create) → AreOthers e first → x.entity ≡ e →
    made_among (first ++ x ∷ later) e ≡ Some x
found_by e x [] later h is = ap (λ t. cond t (Some x) (made_among later e)) (eq-eqb x.entity e is)
found_by e x (c ∷ first) later h is =
    ap (λ t. cond t (Some c) (made_among (first ++ x ∷ later) e)) (differ c.entity e h.0) ∙ found_by e x first later h.1 is

pub made_is : (e : ℕ) (cs : List Create) (x c : Create) → IsCreate e cs x → made_among cs e ≡ Some c → x ≡ c
made_is e cs x c i is =
    let found = ap (λ l. made_among l e) i.is ∙ found_by e x i.before i.later i.first i.entity in
    let z = sym found ∙ is in
    cc

module _ (h : Header) (b : Book) (t : Division) (w : World) (between : IsBetweenRounds (frame_of h t) w)
    (goes : GoesWith h (as_begun b) t w)
    (R : HasFitRound h b) (untouched : (e : ℕ) → created_as (as_begun b) e ≡ None → IsUntouched (as_begun b) e) where
  pub may_be_made : (x : Create) → IsNewEntity h b x → MayBeMade (frame_of h t) w x
  may_be_made x n = record {
    new = goes.known x.entity n.new;
    unshown = goes.unshown x.entity n.new;
    type = n.type;
    inside = inside_test h x.pos n.inside;
  }

  -- a create of the round is of a new number
  pub new_number : (e : ℕ) (x : Create) → IsCreate e (creates_of b.current) x → created_as (as_begun b) e ≡ None
  new_number e x i =
      subst (λ d. created_as (as_begun b) d ≡ None) i.entity
      (middle (IsNewEntity h b) i.before x i.later (subst (AllByRecursion (IsNewEntity h b)) i.is R.creates)).new

  not_lived : (e : ℕ) (x c : Create) → IsCreate e (creates_of b.current) x → live_as (as_begun b) e ≡ Some c → ⊥
  not_lived e x c i lives = none-some c (sym (new_number e x i) ∙ live_is_created (as_begun b) e c lives)

  -- ---- reals

  -- the real that the world holds of a live entity is the one that is there
  module _ (e k : ℕ) (q : RealView) (at : real_at e w k ≡ Some q) (c : Create) (lives : live_as (as_begun b) e ≡ Some c) where
    pub held : IsHeld h (as_begun b) w e c
    held = goes.live e c lives

    pub held_is : held.real ≡ q
    held_is = elim (cases_eq held.cell k) [
      | inl same ↦ (let z = sym held.here ∙ (ap (λ j. real_at e w j) same ∙ at) in cc)
      | inr other ↦ absurd (let z = sym ((between.settled e k q at).others held.cell other) ∙ held.here in cc)
    ]

  abbrev xs : List Create
  xs = creates_of b.current

  pub type_by : (e k : ℕ) (r : RealView) → RealFrom w xs e k r → (c : Create) → IsPresent b e c → r.ty ≡ c.ty
  type_by e k r (was others q x at is) c (inl lives) =
      sym (ap (λ (y : RealView). y.ty) is) ∙ sym (ap (λ (y : RealView). y.ty) (held_is e k q at c lives)) ∙ (held e k q at c lives).type
  type_by e k r (was others q x at is) c (inr now) = absurd (none-some c (sym (others_none e xs others) ∙ now))
  type_by e k r (made x i ty orders) c (inl lives) = absurd (not_lived e x c i lives)
  type_by e k r (made x i ty orders) c (inr now) = ty ∙ ap (λ (y : Create). y.ty) (made_is e xs x c i now)

  no_last : (p : Part) (e s : ℕ) → created_as (as_begun b) e ≡ None → last_number (as_begun b) p e s ≡ 0
  no_last p e s none = ap length ((untouched e none).calls p s)

  pub next_by : (e k : ℕ) (r : RealView) → RealFrom w xs e k r → (s : ℕ) → next_from s r ≡ last_number (as_begun b) part.Cell e s + 1
  next_by e k r (was others q x at is) s =
      let l = goes.reals e k q at in
      sym (ap (next_from s) is) ∙ sym (ap (next_from s) (held_is e k q at l.0 l.1)) ∙ (held e k q at l.0 l.1).cell_calls s
  next_by e k r (made x i ty orders) s =
      ap (λ os. (order_or (table.get os s)).next) orders ∙ ap (λ o. (order_or o).next) (table.get-empty nat_cmp s)
      ∙ ap (λ n. n + 1) (sym (no_last part.Cell e s (new_number e x i)))

  -- ---- base parts

  abbrev home : ℕ → ℕ
  home e = base_node h e

  module _ (e : ℕ) (q : PartView) (at : ((entity_flow e w).slot (home e)).base.part ≡ Some q) (c : Create)
      (lives : live_as (as_begun b) e ≡ Some c) where
    pub held_with : IsHeld h (as_begun b) w e c
    held_with = goes.live e c lives

    pub part_is : held_with.base ≡ q
    part_is = let z = sym held_with.base_here ∙ at in cc

  pub part_type_by : (e : ℕ) (p : PartView) → PartFrom (frame_of h t) w xs e (home e) p → (c : Create) → IsPresent b e c → p.ty ≡ c.ty
  part_type_by e p (had others q x at is) c (inl lives) =
      sym (ap (λ (y : PartView). y.ty) is) ∙ sym (ap (λ (y : PartView). y.ty) (part_is e q at c lives))
      ∙ (held_with e q at c lives).base_type
  part_type_by e p (had others q x at is) c (inr now) = absurd (none-some c (sym (others_none e xs others) ∙ now))
  part_type_by e p (comes x i y is) c (inl lives) = absurd (not_lived e x c i lives)
  part_type_by e p (comes x i y is) c (inr now) =
      sym (ap (λ (z : PartView). z.ty) is) ∙ ap (λ (z : Create). z.ty) (made_is e xs x c i now)

  pub next_to_by : (e : ℕ) (p : PartView) → PartFrom (frame_of h t) w xs e (home e) p → (s : ℕ) →
      next_to s p ≡ last_number (as_begun b) part.Base e s + 1
  next_to_by e p (had others q x at is) s =
      let l = goes.parts e (home e) q at in
      sym (ap (next_to s) is) ∙ sym (ap (next_to s) (part_is e q at l.0 l.1))
      ∙ (held_with e q at l.0 l.1).base_calls s
  next_to_by e p (comes x i y is) s =
      sym (ap (next_to s) is) ∙ ap (λ o. (order_or o).next) (table.get-empty nat_cmp s)
      ∙ ap (λ n. n + 1) (sym (no_last part.Base e s (new_number e x i)))

  -- ---- clients

  no_witness : {X : Type 0} (o : Option X) → is_some o ≡ false → o ≡ None
  no_witness None is = refl
  no_witness (Some x) is = absurd (let z = is in cc)

  pub unseen_by : (e : ℕ) → has_client (as_begun b) e ≡ false → (k : ℕ) (r : RealView) → real_at e w k ≡ Some r → r.witness ≡ None
  unseen_by e clientless k r at =
      let l = goes.reals e k r at in
      no_witness r.witness (sym (ap (λ (y : RealView). is_some y.witness) (held_is e k r at l.0 l.1)) ∙ (held e k r at l.0 l.1).client
      ∙ clientless)
