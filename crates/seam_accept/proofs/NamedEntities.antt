-- What is kept of entities by their names.
use Rattle.std.proofs.Common.{◌≡◌, ◌≢◌, ℕ, zero, suc, Bool, true, false, cond, List, [], ◌∷◌, map, slice_get, refl, sym, ◌∙◌, ap, subst}
use Rattle.std.proofs.Common.{Option, Some, None, arith, eqb-true}
use Rattle.std.specs.Prelude.{IfSome, ◌&&◌, ◌||◌, is_some, IsSome, eqb}
use Rattle.std.specs.Option.{option_map}
use Rattle.std.specs.Map.{lookup_key}
use Rattle.std.specs.Cmp.{nat_eq_equiv}
use Rattle.std.proofs.lemmas.Map.Made.{lookup_key_passes}
use Rattle.std.proofs.lemmas.Map.Entries.{hash_map_get_place}
use Rattle.std.proofs.lemmas.Option.{slice_get-map, none-some}
use Rattle.std.specs.Ordering.{nat_cmp}
use Rattle.std.specs.BTreeMap.{is_at}
use Rattle.indexmap.specs.IndexMap.{IndexMap, set_value_at, IsUnique}
use Rattle.indexmap.proofs.CallerLemmas.{index_map_len-with_value_at, updates-with_value_at}
use Rattle.std.proofs.lemmas.Bool.Decides.{nat_tests}
use Rattle.seam_value.specs.NumberWords.{IsWhole}
use Rattle.std.specs.List.{list_any}
use Rattle.std.specs.Borrow.{Bor}
use Rattle.std.proofs.lemmas.Bool.{false≢true}
use Rattle.seam_call.specs.declared.create.Create.{Create}
use Rattle.seam_rule_lines.specs.Book.{Book, entries, created_as, live_as, destroys, joins, has_client, with_entry}
use Rattle.seam_rule_lines.specs.declared.verdict.Entry.TheVariants as entry
use Rattle.seam_rule_lines.proofs.BookEntries.{same}
use Rattle.seam_accept.proofs.Books.{any_with, created_with, or_false, or_none, both}
use Rattle.seam_accept.specs.Entities.{EntitiesRefine, EntityRefines, IsUnknown, IsGone, IsKept, IsLive, IsIndexOf, LivesWithoutClient}
use Rattle.seam_accept.specs.Entities.{ChangesOne, entity_at, is_in}
use Rattle.seam_accept.specs.declared.entity.Entity.{Entity}

-- another number is not the one that is asked for
pub apart : (e other : ℕ) → other ≢ e → eqb e other ≡ false
apart e other ne = grind (arith, nat_tests)

-- nor is it at the query of that one in a set
pub apart_in_set : (e other : ℕ) → other ≢ e → is_at (nat_cmp e) other ≡ false
apart_in_set e other ne = grind (arith, nat_tests)

or_true : (x : Bool) → (x || true) ≡ true
or_true true = refl
or_true false = refl

-- the number is one of the new set or is not, and the others stay
pub record SetsNumber (old new : List ℕ) (e : ℕ) (is : Bool) : Type 0 where
  pub here : is_in new e ≡ is
  pub others : (d : ℕ) → d ≢ e → is_in new d ≡ is_in old d

-- ---- what is kept of a number

pub live_is : (b : Book) (e : ℕ) (v : Entity) (was : EntityRefines b e v) → live_as b e ≡ Some was.made
live_is b e v was = ap (λ (x : Bool). cond x None (created_as b e)) was.undestroyed ∙ was.is

module _ (b : Book) (e : ℕ) (was : IsUnknown b e) where
  none_lives : live_as b e ≡ None
  none_lives = ap (λ (x : Bool). cond x None (created_as b e)) was.undestroyed ∙ was.uncreated

  pub no_client_there : has_client b e ≡ false
  no_client_there = ap (λ (o : Option Create). is_some o && list_any (joins e) (entries b)) none_lives

-- a live entity is kept so
pub kept_live : (b : Book) (e : ℕ) (o : Option Entity) (dead : Bool) (v : Entity) → o ≡ Some v → dead ≡ false → EntityRefines b e v →
    IsKept b e o dead
kept_live b e o dead v found undead is =
    subst (IsKept b e o) (sym undead) (subst (λ (p : Option Entity). IsKept b e p false) (sym found) is)

module _ (b : Book) (entities : List (ℕ × Entity)) (dead : List ℕ) (e : ℕ) (was : EntitiesRefine b entities dead) where
  -- what is there is a live entity
  pub entity_found : (v : Entity) → entity_at entities e ≡ Some v → EntityRefines b e v
  entity_found v found = by (is_in dead e) (subst (λ (o : Option Entity). IsKept b e o (is_in dead e)) found (was.each e))
    where
      by : (d : Bool) → IsKept b e (Some v) d → EntityRefines b e v
      by false here = here
      by true never = absurd never

  -- and is none of the dead
  pub found_is_undead : (v : Entity) → entity_at entities e ≡ Some v → is_in dead e ≡ false
  found_is_undead v found = by (is_in dead e) refl (subst (λ (o : Option Entity). IsKept b e o (is_in dead e)) found (was.each e))
    where
      by : (d : Bool) → is_in dead e ≡ d → IsKept b e (Some v) d → is_in dead e ≡ false
      by false is here = is
      by true is never = absurd never

  pub found_lives : (v : Bor Entity) → entity_at entities e ≡ Some v.now → IsLive b e v
  found_lives v found =
      let here = entity_found v.now found in
      record { refines = here; lives = live_is b e v.now here }

  -- what is not there does not live
  pub absent_is_dead : entity_at entities e ≡ None → live_as b e ≡ None
  absent_is_dead none = by (is_in dead e) (subst (λ (o : Option Entity). IsKept b e o (is_in dead e)) none (was.each e))
    where
      by : (d : Bool) → IsKept b e None d → live_as b e ≡ None
      by false unknown = none_lives b e unknown
      by true gone = ap (λ (x : Bool). cond x None (created_as b e)) gone.destroyed

  -- a number is used where it has an entity or is one of the dead
  pub used_is_kept : (is_some (entity_at entities e) || is_in dead e) ≡ is_some (created_as b e)
  used_is_kept = by (entity_at entities e) (is_in dead e) (was.each e)
    where
      by : (o : Option Entity) (d : Bool) → IsKept b e o d → (is_some o || d) ≡ is_some (created_as b e)
      by None false unknown = sym (ap is_some unknown.uncreated)
      by None true gone = sym (ap is_some gone.is)
      by (Some v) false here = sym (ap is_some here.is)
      by (Some v) true never = absurd never

  -- what was never created is kept nowhere
  pub unused_is_nowhere : created_as b e ≡ None → (entity_at entities e ≡ None) × (is_in dead e ≡ false) × IsUnknown b e
  unused_is_nowhere new = by (entity_at entities e) (is_in dead e) refl refl (was.each e)
    where
      by : (o : Option Entity) (d : Bool) → entity_at entities e ≡ o → is_in dead e ≡ d → IsKept b e o d →
          (entity_at entities e ≡ None) × (is_in dead e ≡ false) × IsUnknown b e
      by None false found undead unknown = (found, undead, unknown)
      by None true found undead gone = absurd (none-some gone.made (sym new ∙ gone.is))
      by (Some v) false found undead here = absurd (none-some here.made (sym new ∙ here.is))
      by (Some v) true found undead never = absurd never

  -- a live entity is there
  pub live_is_there : IsSome (live_as b e) → (v : Entity) × (entity_at entities e ≡ Some v)
  live_is_there lives = by (entity_at entities e) refl
    where
      by : (o : Option Entity) → entity_at entities e ≡ o → (v : Entity) × (entity_at entities e ≡ Some v)
      by None found = absurd (false≢true (sym (ap is_some (absent_is_dead found)) ∙ lives))
      by (Some v) found = (v, found)

  -- an entity with a client has a number that 32 bits hold
  pub client_is_whole : has_client b e ≡ true → IsWhole e
  client_is_whole has =
      let there = live_is_there (both (is_some (live_as b e)) (list_any (joins e) (entries b)) has).0 in
      (entity_found there.0 there.1).whole

-- ---- writing to one of them

-- what `get_full` found
pub place_found : (entities : List (ℕ × Entity)) (e place key : ℕ) (v : Entity) → Some key ≡ lookup_key (eqb e) entities →
    slice_get entities place ≡ Some (key, v) → IsIndexOf entities e place
place_found entities e place key v keyed at =
    let same : e ≡ key = eqb-true e key (lookup_key_passes (eqb e) entities key (sym keyed)) in
    record { entity = v; at = at ∙ ap (λ (k : ℕ). Some (k, v)) (sym same) }

-- what `get_index_mut` lends at the place of an entity is the entity
pub lent_at_place : (entities : List (ℕ × Entity)) (e place : ℕ) (v : Entity) (is : IsIndexOf entities e place) →
    Some v ≡ slice_get (map (λ p. p.1) entities) place → v ≡ is.entity
lent_at_place entities e place v is lent =
    let same : Some v ≡ Some is.entity =
    lent ∙ slice_get-map (λ p. p.1) entities place ∙ ap (option_map (λ (p : ℕ × Entity). p.1)) is.at in
    cc

-- it was given back as it was
pub back_at_place : (entities : List (ℕ × Entity)) (place e : ℕ) (v : Entity) → slice_get entities place ≡ Some (e, v) →
    set_value_at entities place v ≡ entities
back_at_place [] place e v at = refl
back_at_place (x ∷ xs) zero e v at =
    let same : x ≡ (e, v) = cc in
    ap (λ (w : Entity). (x.0, w) ∷ xs) (sym (ap (λ (y : ℕ × Entity). y.1) same))
back_at_place (x ∷ xs) (suc place) e v at = ap (λ (ys : List (ℕ × Entity)). x ∷ ys) (back_at_place xs place e v at)

-- or was changed
pub changed_at_place : {S : Type 0} (m : IndexMap ℕ Entity S) (e place : ℕ) (w : Entity) (Changes : Entity → Entity → Type 0)
    (is : IsIndexOf m.entries e place) → IsUnique eqb m → Changes is.entity w →
    ChangesOne m.entries (set_value_at m.entries place w) e Changes
changed_at_place m e place w Changes is unique changes =
    let found = hash_map_get_place nat_eq_equiv m place e is.entity unique is.at in
    let updates = updates-with_value_at m place w nat_eq_equiv unique e is.entity is.at in
    record {
      count = index_map_len-with_value_at m place w;
      here = subst (λ (o : Option Entity).
          IfSome o (λ v. (x : Entity) × (entity_at (set_value_at m.entries place w) e ≡ Some x) × Changes v x))
          (sym found) (w, updates.1, changes);
      others = λ other ne. updates.2 other (apart e other ne);
    }

-- ---- a client, and a death

-- an entity that was given a client has one now
pub client_now : (b : Book) (e : ℕ) → LivesWithoutClient b e → has_client (with_entry b (entry.Joined e)) e ≡ true
client_now b e clientless =
    (λ i. is_some (cond (dead i) None (made i)) && joined i) ∙ ap (λ (x : Bool). x && true) clientless.lives
  where
    dead : list_any (destroys e) (entries (with_entry b (entry.Joined e))) ≡ list_any (destroys e) (entries b)
    dead = any_with (destroys e) b (entry.Joined e) ∙ or_false (list_any (destroys e) (entries b))

    made : created_as (with_entry b (entry.Joined e)) e ≡ created_as b e
    made = created_with b (entry.Joined e) e ∙ or_none (created_as b e)

    joined : list_any (joins e) (entries (with_entry b (entry.Joined e))) ≡ true
    joined = any_with (joins e) b (entry.Joined e) ∙ ap (λ (y : Bool). list_any (joins e) (entries b) || y) (same e)
        ∙ or_true (list_any (joins e) (entries b))

-- one that was destroyed is so now
pub destroyed_now : (b : Book) (e : ℕ) → list_any (destroys e) (entries (with_entry b (entry.Destroyed e))) ≡ true
destroyed_now b e =
    any_with (destroys e) b (entry.Destroyed e) ∙ ap (λ (y : Bool). list_any (destroys e) (entries b) || y) (same e)
    ∙ or_true (list_any (destroys e) (entries b))

-- and has no client
pub none_now : (b : Book) (e : ℕ) → has_client (with_entry b (entry.Destroyed e)) e ≡ false
none_now b e =
    ap (λ (x : Bool). is_some (cond x None (created_as (with_entry b (entry.Destroyed e)) e))
    && list_any (joins e) (entries (with_entry b (entry.Destroyed e)))) (destroyed_now b e)

-- of its number alone is kept that it was made
pub gone_now : (b : Book) (e : ℕ) (v : Entity) → EntityRefines b e v → IsGone (with_entry b (entry.Destroyed e)) e
gone_now b e v was = record {
  made = was.made;
  is = created_with b (entry.Destroyed e) e ∙ or_none (created_as b e) ∙ was.is;
  destroyed = destroyed_now b e;
}
