-- What a book in code holds after it kept a line.
use Rattle.std.proofs.Common.{◌≡◌, ◌≢◌, ◌+◌, ℕ, Bool, true, false, List, [], ◌∷◌, ◌++◌, length, map, refl, sym}
use Rattle.std.proofs.Common.{◌∙◌, ap, subst, arith, inl, inr, Option, Some, None, append-nil, length-append}
use Rattle.std.specs.Prelude.{IfSome, IsSome, ◌==◌, ◌&&◌, ◌||◌, not, find, filter, cond, eqb, is_some, fold}
use Rattle.std.specs.List.{AllByRecursion, IsDistinct, list_any, filter_map, cons_option, count_by}
use Rattle.std.proofs.lemmas.List.Elements.{filter_map-append}
use Rattle.std.proofs.lemmas.List.Folds.{list_any-append}
use Rattle.std.proofs.lemmas.Option.{none-some}
use Rattle.std.proofs.lemmas.Bool.Decides.{eqb_tells}
use Rattle.seam_value.specs.NumberWords.{IsWhole}
use Rattle.seam_tree.specs.Division.{Division}
use Rattle.seam_defs.specs.declared.flags.Part.{Part}
use Rattle.seam_defs.specs.declared.flags.Part.TheVariants as part
use Rattle.seam_call.specs.Calls.{is_from, same_part}
use Rattle.seam_call.specs.Senders.{IsSender, same_sender}
use Rattle.seam_call.specs.declared.sender.Sender.{Sender}
use Rattle.seam_call.specs.declared.call.Call.{Call}
use Rattle.seam_call.specs.declared.create.Create.{Create}
use Rattle.seam_toml.specs.declared.header.Header.{Header}
use Rattle.seam_rule_lines.specs.Book.{Book, entries, created, creates_of, calls_of, created_as, live_as, destroys, joins, has_client}
use Rattle.seam_rule_lines.specs.Book.{empty_book, one_cell, count_of_clients, accepted, with_entry, with_round_ended, with_tree, divided}
use Rattle.seam_rule_lines.specs.Book.{is_balance}
use Rattle.seam_rule_lines.specs.declared.verdict.Entry.{Entry}
use Rattle.seam_rule_lines.specs.declared.verdict.Entry.TheVariants as entry
use Rattle.seam_rule_lines.proofs.BookEntries.{same, differ, created_here, created_with_call, creates_with_entry}
use Rattle.seam_rule_lines.proofs.InOrderLemmas.{entries_after_round}
use Rattle.seam_rule_lines.proofs.OneSender.{same_sender_is}
use Rattle.seam_accept.specs.Last.{number_of}
use Rattle.seam_accept.specs.Entities.{last_of, Remembers, EntitiesRefine, EntityRefines, IsKept, IsUnknown, IsNextCall, KeepsLast}
use Rattle.seam_accept.specs.Entities.{LivesWithoutClient, entity_at, is_in, ClientsRefine}
use Rattle.seam_accept.specs.Batches.{ordered, joined, destroyed}
use Rattle.seam_accept.specs.BookView.{BookView, counted}
use Rattle.seam_accept.specs.Refines.{Refines}
use Rattle.seam_accept.specs.declared.entity.Entity.{Entity}
use Rattle.seam_accept.proofs.NamedEntities.{SetsNumber, kept_live, entity_found, found_is_undead, unused_is_nowhere, live_is_there}
use Rattle.seam_accept.proofs.NamedEntities.{client_now, none_now, gone_now}
use Rattle.seam_accept.proofs.ClientCounts.{clients_stay, clients_with_new, clients_with_one, clients_without_one}
use Rattle.seam_accept.proofs.Books.{Spares, created_same, destroyed_same, joined_same, accepted_same, accepted_with_entry, any_with}
use Rattle.seam_accept.proofs.Books.{created_with, or_none, or_false, tree_with, spares_create, spares_call, spares_joined}
use Rattle.seam_accept.proofs.Books.{spares_destroyed, same_part_is, both}
use Rattle.seam_accept.proofs.Books.{count_with_create, count_without_create}

-- ---- entities that an entry is not about

pub spared : (b : Book) (x : Entry) (e : ℕ) (o : Option Entity) (dead : Bool) → Spares x e → IsKept b e o dead →
    IsKept (with_entry b x) e o dead
spared b x e None false spares was = record {
  uncreated = created_same b x e spares ∙ was.uncreated;
  undestroyed = destroyed_same b x e spares ∙ was.undestroyed;
  unjoined = joined_same b x e spares ∙ was.unjoined;
  uncalled = λ p s. accepted_same b x e spares p s ∙ was.uncalled p s;
}
spared b x e None true spares was = record {
  made = was.made;
  is = created_same b x e spares ∙ was.is;
  destroyed = destroyed_same b x e spares ∙ was.destroyed;
}
spared b x e (Some v) false spares was = record {
  made = was.made;
  is = created_same b x e spares ∙ was.is;
  undestroyed = destroyed_same b x e spares ∙ was.undestroyed;
  whole = was.whole;
  ty = was.ty;
  last = λ p s is. was.last p s is ∙ ap length (sym (accepted_same b x e spares p s));
}
spared b x e (Some v) true spares was = was

-- each entity is created once
abbrev pub AreOnce : Book → Type 0
AreOnce b = IsDistinct eqb (map (λ c. c.entity) (creates_of (entries b)))

once_stays : (b : Book) (x : Entry) → creates_of (x ∷ []) ≡ [] → AreOnce b → AreOnce (with_entry b x)
once_stays b x none was =
    subst (λ (cs : List Create). IsDistinct eqb (map (λ c. c.entity) cs))
    (sym (creates_with_entry b x ∙ ap (λ (cs : List Create). creates_of (entries b) ++ cs) none ∙ append-nil (creates_of (entries b)))) was

-- one more number that none of them has
one_more_once : (xs : List Create) (c : Create) → find (λ d. d.entity == c.entity) xs ≡ None →
    IsDistinct eqb (map (λ d. d.entity) xs) → IsDistinct eqb (map (λ d. d.entity) (xs ++ c ∷ []))
unfolding IsDistinct
one_more_once [] c none was = (tt, tt)
one_more_once (x ∷ xs) c none (apart_, was) = elim (eqb_tells x.entity c.entity) [
  | inl is ↦ (let at : (x.entity == c.entity) ≡ true = grind (arith, is.1) in
      absurd (none-some x (sym none
      ∙ ap (λ (y : Bool). cond y (Some x) (find (λ (d : Create). d.entity == c.entity) xs)) at)))
  | inr ne ↦ (
    all_more x.entity xs c apart_ (differ x.entity c.entity ne.1),
    one_more_once xs c (sym (ap (λ (y : Bool). cond y (Some x) (find (λ (d : Create). d.entity == c.entity) xs))
        (differ x.entity c.entity ne.1)) ∙ none) was,
  )
]
  where
    all_more : (e : ℕ) (ys : List Create) (d : Create) → AllByRecursion (λ y. eqb e y ≡ false) (map (λ z. z.entity) ys) →
        eqb e d.entity ≡ false → AllByRecursion (λ y. eqb e y ≡ false) (map (λ z. z.entity) (ys ++ d ∷ []))
    all_more e [] d all one = (one, tt)
    all_more e (y ∷ ys) d (first, all) one = (first, all_more e ys d all one)

-- the entities, and the dead, after an entry about one number: it is kept as it should be, and the others stay
module _ (b : Book) (x : Entry) (old new : List (ℕ × Entity)) (dead now : List ℕ) (e : ℕ) (was : EntitiesRefine b old dead) where
  entities_with : length new + length now ≡ length (creates_of (entries (with_entry b x))) →
      IsKept (with_entry b x) e (entity_at new e) (is_in now e) →
      ((other : ℕ) → other ≢ e → entity_at new other ≡ entity_at old other) →
      ((other : ℕ) → other ≢ e → is_in now other ≡ is_in dead other) →
      ((other : ℕ) → e ≢ other → Spares x other) → AreOnce (with_entry b x) → EntitiesRefine (with_entry b x) new now
  entities_with count here others others_dead spares once = record {
    count = count;
    once = once;
    each = λ other. elim (eqb_tells e other) [
      | inl is ↦ subst (λ (y : ℕ). IsKept (with_entry b x) y (entity_at new y) (is_in now y)) is.1 here
      | inr not ↦ (let apart : other ≢ e = λ s. not.1 (sym s) in
          subst (IsKept (with_entry b x) other (entity_at new other)) (sym (others_dead other apart))
          (subst (λ (o : Option Entity). IsKept (with_entry b x) other o (is_in dead other)) (sym (others other apart))
          (spared b x other (entity_at old other) (is_in dead other) (spares other not.1) (was.each other))))
    ];
  }

-- no number is concerned
entities_stay : (b : Book) (x : Entry) (entities : List (ℕ × Entity)) (dead : List ℕ) → EntitiesRefine b entities dead →
    creates_of (x ∷ []) ≡ [] → ((e : ℕ) → Spares x e) → EntitiesRefine (with_entry b x) entities dead
entities_stay b x entities dead was none spares = record {
  count = was.count ∙ sym (count_without_create b x none);
  each = λ e. spared b x e (entity_at entities e) (is_in dead e) (spares e) (was.each e);
  once = once_stays b x none was.once;
}

-- ---- a create

-- an entity of this number was put, and the others stayed
pub record IsPut (old new : List (ℕ × Entity)) (e : ℕ) (v : Entity) : Type 0 where
  pub count : length new ≡ length old + 1
  pub here : entity_at new e ≡ Some v
  pub others : (other : ℕ) → other ≢ e → entity_at new other ≡ entity_at old other

-- an entity of this type that no call was accepted for
pub record IsFresh (c : Create) (v : Entity) : Type 0 where
  pub ty : v.ty ≡ c.ty
  pub last : (p : Part) (s : Sender) → IsSender s → number_of (last_of p v) s ≡ 0

module _ (b : Book) (c : Create) (whole : IsWhole c.entity) (unknown : IsUnknown b c.entity) where
  entity_made : (v : Entity) → IsFresh c v → EntityRefines (with_entry b (entry.Created c)) c.entity v
  entity_made v fresh = record {
    made = c;
    is = created_here b c unknown.uncreated;
    undestroyed = any_with (destroys c.entity) b (entry.Created c) ∙ ap (λ (y : Bool). y || false) unknown.undestroyed;
    whole = whole;
    ty = fresh.ty;
    last = λ p s is. fresh.last p s is
        ∙ ap length (sym (accepted_with_entry b (entry.Created c) p c.entity s ∙ append-nil (accepted b p c.entity s)
        ∙ unknown.uncalled p s));
  }

  -- the entities after one more was made
  pub entities_with_create : (old new : List (ℕ × Entity)) (dead : List ℕ) (v : Entity) → EntitiesRefine b old dead →
      is_in dead c.entity ≡ false → IsFresh c v → IsPut old new c.entity v → EntitiesRefine (with_entry b (entry.Created c)) new dead
  entities_with_create old new dead v was undead fresh put =
      let before = was.count in
      let more = put.count in
      let made = count_with_create b c in
      entities_with b (entry.Created c) old new dead dead c.entity was (omega (arith, before, more, made))
      (kept_live (with_entry b (entry.Created c)) c.entity (entity_at new c.entity) (is_in dead c.entity) v put.here undead
      (entity_made v fresh))
      put.others (λ other ne. refl) (λ other ne. spares_create c other ne)
      (subst (λ (cs : List Create). IsDistinct eqb (map (λ d. d.entity) cs)) (sym (creates_with_entry b (entry.Created c)))
      (one_more_once (creates_of (entries b)) c unknown.uncreated was.once))

-- ---- a call

-- which calls the call adds to those of a sender to a part of its entity
added : (call : Call) (p : Part) (s : Sender) →
    is_from p call.entity s call ≡ (same_part call.part p && same_sender call.sender s)
added call p s =
    ap (λ (x : Bool). (x && same_part call.part p) && same_sender call.sender s) (same call.entity)

entity_called : (b : Book) (call : Call) (v w : Entity) → IsNextCall b call → Remembers call.part call.sender call.number v w →
    EntityRefines b call.entity v → EntityRefines (with_entry b (entry.Called call)) call.entity w
entity_called b call v w next kept was = record {
  made = was.made;
  is = created_as_before;
  undestroyed = any_with (destroys call.entity) b (entry.Called call) ∙ or_false (list_any (destroys call.entity) (entries b))
      ∙ was.undestroyed;
  whole = was.whole;
  ty = kept.ty ∙ was.ty;
  last = λ p s is. kept.last p s is ∙ by p s is (same_part call.part p && same_sender call.sender s) refl;
}
  where
    created_as_before : created_as (with_entry b (entry.Called call)) call.entity ≡ Some was.made
    created_as_before = created_with_call b call call.entity ∙ was.is

    grows : (p : Part) (s : Sender) (y : Bool) → (same_part call.part p && same_sender call.sender s) ≡ y →
        accepted (with_entry b (entry.Called call)) p call.entity s ≡ accepted b p call.entity s ++ cond y (call ∷ []) []
    grows p s y is =
        accepted_with_entry b (entry.Called call) p call.entity s
        ∙ ap (λ (x : Bool). accepted b p call.entity s ++ cond x (call ∷ []) []) (added call p s ∙ is)

    by : (p : Part) (s : Sender) → IsSender s → (y : Bool) → (same_part call.part p && same_sender call.sender s) ≡ y →
        cond y call.number (number_of (last_of p v) s) ≡ length (accepted (with_entry b (entry.Called call)) p call.entity s)
    by p s sender true is =
        let tests = both (same_part call.part p) (same_sender call.sender s) is in
        let of_part : call.part ≡ p = same_part_is call.part p tests.0 in
        let of_sender : call.sender ≡ s = same_sender_is call.sender s tests.1 in
        next.next ∙ (λ i. length (accepted b (of_part i) call.entity (of_sender i)) + 1)
        ∙ sym (ap length (grows p s true is) ∙ length-append (accepted b p call.entity s) (call ∷ []))
    by p s sender false is =
        was.last p s sender ∙ sym (ap length (grows p s false is ∙ append-nil (accepted b p call.entity s)))

-- the entities after a call was kept
pub entities_with_call : (b : Book) (old new : List (ℕ × Entity)) (dead : List ℕ) (call : Call) → EntitiesRefine b old dead →
    IsNextCall b call → KeepsLast old new call → EntitiesRefine (with_entry b (entry.Called call)) new dead
entities_with_call b old new dead call was next kept =
    let x : Entry = entry.Called call in
    let there = live_is_there b old dead call.entity was next.lives in
    let at : (w : Entity) × (entity_at new call.entity ≡ Some w) × Remembers call.part call.sender call.number there.0 w =
    subst (λ (o : Option Entity). IfSome o (λ u.
    (w : Entity) × (entity_at new call.entity ≡ Some w) × Remembers call.part call.sender call.number u w)) there.1 kept.here in
    entities_with b x old new dead dead call.entity was
    (ap (λ (n : ℕ). n + length dead) kept.count ∙ was.count ∙ sym (count_without_create b x refl))
    (kept_live (with_entry b x) call.entity (entity_at new call.entity) (is_in dead call.entity) at.0 at.1
    (found_is_undead b old dead call.entity was there.0 there.1)
    (entity_called b call there.0 at.0 next at.2 (entity_found b old dead call.entity was there.0 there.1)))
    kept.others (λ other ne. refl) (λ other ne. spares_call call other ne) (once_stays b x refl was.once)

-- ---- clients and deaths

entity_joined : (b : Book) (e : ℕ) (v : Entity) → EntityRefines b e v → EntityRefines (with_entry b (entry.Joined e)) e v
entity_joined b e v was = record {
  made = was.made;
  is = created_with b (entry.Joined e) e ∙ or_none (created_as b e) ∙ was.is;
  undestroyed = any_with (destroys e) b (entry.Joined e) ∙ or_false (list_any (destroys e) (entries b)) ∙ was.undestroyed;
  whole = was.whole;
  ty = was.ty;
  last = λ p s sender. was.last p s sender
      ∙ ap length (sym (accepted_with_entry b (entry.Joined e) p e s ∙ append-nil (accepted b p e s)));
}

-- the entities after one was given a client
entities_with_client : (b : Book) (entities : List (ℕ × Entity)) (dead : List ℕ) (e : ℕ) → EntitiesRefine b entities dead →
    IsSome (live_as b e) → EntitiesRefine (with_entry b (entry.Joined e)) entities dead
entities_with_client b entities dead e was lives =
    let x : Entry = entry.Joined e in
    let there = live_is_there b entities dead e was lives in
    entities_with b x entities entities dead dead e was (was.count ∙ sym (count_without_create b x refl))
    (kept_live (with_entry b x) e (entity_at entities e) (is_in dead e) there.0 there.1
    (found_is_undead b entities dead e was there.0 there.1)
    (entity_joined b e there.0 (entity_found b entities dead e was there.0 there.1)))
    (λ other ne. refl) (λ other ne. refl) (λ other ne. spares_joined e other ne) (once_stays b x refl was.once)

-- the entity of a number was taken out, where it was there, and the others stay
pub record IsTakenOut (old new : List (ℕ × Entity)) (e : ℕ) : Type 0 where
  pub count : length new + cond (is_some (entity_at old e)) 1 0 ≡ length old
  pub here : entity_at new e ≡ None
  pub others : (other : ℕ) → other ≢ e → entity_at new other ≡ entity_at old other

-- a number was put among others, and they stay
pub record IsAdded (old new : List ℕ) (e : ℕ) : Type 0 where
  pub count : length new ≡ length old + cond (not (is_in old e)) 1 0
  pub sets : SetsNumber old new e true

-- the entities after one was destroyed: it is one of the dead now
entities_with_death : (b : Book) (old new : List (ℕ × Entity)) (dead now : List ℕ) (e : ℕ) → EntitiesRefine b old dead →
    IsSome (live_as b e) → IsTakenOut old new e → IsAdded dead now e → EntitiesRefine (with_entry b (entry.Destroyed e)) new now
entities_with_death b old new dead now e was lives taken added =
    let x : Entry = entry.Destroyed e in
    let there = live_is_there b old dead e was lives in
    let gone = gone_now b e there.0 (entity_found b old dead e was there.0 there.1) in
    let before = was.count in
    let same = count_without_create b x refl in
    let less : length new + 1 ≡ length old = ap (λ (o : Option Entity). length new + cond (is_some o) 1 0) (sym there.1) ∙ taken.count in
    let more : length now ≡ length dead + 1 =
    added.count ∙ ap (λ (y : Bool). length dead + cond (not y) 1 0) (found_is_undead b old dead e was there.0 there.1) in
    entities_with b x old new dead now e was (omega (arith, before, same, less, more))
    (subst (λ (o : Option Entity). IsKept (with_entry b x) e o (is_in now e)) (sym taken.here)
    (subst (IsKept (with_entry b x) e None) (sym added.sets.here) gone))
    taken.others added.sets.others (λ other ne. spares_destroyed e other ne) (once_stays b x refl was.once)

-- ---- books

-- the book in code has counted one more line
pub line_counted : (h : Header) (b : Book) (x : Entry) (old new : BookView) (count : ℕ) → Refines h b old →
    count ≡ old.count + 1 → Refines h (with_entry b x) (counted new) → Refines h (with_entry b x) (record new { count = count })
line_counted h b x old new count was is after =
    let lines : length (b.current ++ x ∷ []) ≡ length b.current + 1 = length-append b.current (x ∷ []) in
    let before = was.count in
    let now = after.count in
    let same : new.count + 1 ≡ count = omega (arith, lines, before, now, is) in
    subst (λ (n : ℕ). Refines h (with_entry b x) (record new { count = n })) same after

-- a list with one more item, where there is one
abbrev pub with_one : {X : Type 0} → List X → Option X → List X
with_one xs None = xs
with_one xs (Some x) = xs ++ x ∷ []

-- whether a balance was asked for, with an entry more
abbrev pub or_balanced : Bool → Entry → Bool
or_balanced was entry.Balanced = true
or_balanced was x = was

-- the book in code holds one more entry, in all its parts
pub record HoldsMore (h : Header) (x : Entry) (old new : BookView) : Type 0 where
  pub header : new.header ≡ old.header
  pub tree : new.tree ≡ divided old.tree x
  pub count : new.count ≡ old.count + 1
  pub creates : new.creates ≡ with_one old.creates (created x)
  pub joined_ : new.joined ≡ with_one old.joined (joined x)
  pub orders : new.orders ≡ with_one old.orders (ordered h x)
  pub destroyed_ : new.destroyed ≡ with_one old.destroyed (destroyed x)
  pub balance : new.balance ≡ or_balanced old.balance x

some_more : {X : Type 0} (f : Entry → Option X) (old new : List X) (b : Book) (x : Entry) → old ≡ filter_map f b.current →
    new ≡ with_one old (f x) → new ≡ filter_map f (b.current ++ x ∷ [])
some_more {X} f old new b x was is =
    is ∙ one old (f x) ∙ ap (λ (xs : List X). xs ++ cons_option (f x) []) was ∙ sym (filter_map-append f b.current (x ∷ []))
  where
    one : (xs : List X) (o : Option X) → with_one xs o ≡ xs ++ cons_option o []
    one xs None = sym (append-nil xs)
    one xs (Some x) = refl

balance_with : (was : Bool) (x : Entry) → or_balanced was x ≡ (was || is_balance x)
balance_with true entry.Balanced = refl
balance_with false entry.Balanced = refl
balance_with was x = sym (or_false was)

pub entry_kept : (h : Header) (b : Book) (x : Entry) (old new : BookView) → Refines h b old → HoldsMore h x old new →
    EntitiesRefine (with_entry b x) new.entities new.dead → ClientsRefine (with_entry b x) new.clients → Refines h (with_entry b x) new
entry_kept h b x old new was more entities clients = record {
  header = more.header ∙ was.header;
  tree = more.tree ∙ ap (λ (u : Division). divided u x) was.tree ∙ sym (tree_with b x);
  entities = entities;
  clients = clients;
  count = more.count ∙ ap (λ (n : ℕ). n + 1) was.count ∙ sym (length-append b.current (x ∷ []));
  creates = some_more created old.creates new.creates b x was.creates more.creates;
  joined_ = some_more joined old.joined new.joined b x was.joined_ more.joined_;
  orders = some_more (ordered h) old.orders new.orders b x was.orders more.orders;
  destroyed_ = some_more destroyed old.destroyed new.destroyed b x was.destroyed_ more.destroyed_;
  balance = more.balance ∙ balance_with old.balance x ∙ ap (λ (y : Bool). y || is_balance x) was.balance
      ∙ sym (list_any-append is_balance b.current (x ∷ [])
      ∙ ap (λ (y : Bool). list_any is_balance b.current || y) (or_false (is_balance x)));
}

-- the same entities and the same dead
entities_as : (b : Book) (old new : List (ℕ × Entity)) (dead now : List ℕ) → new ≡ old → now ≡ dead → EntitiesRefine b old dead →
    EntitiesRefine b new now
entities_as b old new dead now entities numbers is =
    subst (EntitiesRefine b new) (sym numbers) (subst (λ (es : List (ℕ × Entity)). EntitiesRefine b es dead) (sym entities) is)

-- after an entity was made
pub create_kept : (h : Header) (b : Book) (old new : BookView) (c : Create) (v : Entity) → Refines h b old →
    IsWhole c.entity → created_as b c.entity ≡ None → IsFresh c v → IsPut old.entities new.entities c.entity v →
    new.dead ≡ old.dead → new.clients ≡ old.clients → HoldsMore h (entry.Created c) old new → Refines h (with_entry b (entry.Created c)) new
create_kept h b old new c v was whole new_number fresh put dead clients more =
    let nowhere = unused_is_nowhere b old.entities old.dead c.entity was.entities new_number in
    entry_kept h b (entry.Created c) old new was more
    (entities_as (with_entry b (entry.Created c)) new.entities new.entities old.dead new.dead refl dead
    (entities_with_create b c whole nowhere.2 old.entities new.entities old.dead v was.entities nowhere.1 fresh put))
    (subst (ClientsRefine (with_entry b (entry.Created c))) (sym clients) (clients_with_new b c old.clients was.clients nowhere.2))

-- after a call
pub call_kept : (h : Header) (b : Book) (old new : BookView) (call : Call) → Refines h b old → IsNextCall b call →
    KeepsLast old.entities new.entities call → new.dead ≡ old.dead → new.clients ≡ old.clients → HoldsMore h (entry.Called call) old new →
    Refines h (with_entry b (entry.Called call)) new
call_kept h b old new call was is kept dead clients more =
    entry_kept h b (entry.Called call) old new was more
    (entities_as (with_entry b (entry.Called call)) new.entities new.entities old.dead new.dead refl dead
    (entities_with_call b old.entities new.entities old.dead call was.entities is kept))
    (subst (ClientsRefine (with_entry b (entry.Called call))) (sym clients)
    (clients_stay b (entry.Called call) old.clients was.clients refl (λ e. refl) (λ e. refl)))

-- after an entry that is about no entity
pub other_kept : (h : Header) (b : Book) (x : Entry) (old new : BookView) → Refines h b old → creates_of (x ∷ []) ≡ [] →
    ((e : ℕ) → Spares x e) → new.entities ≡ old.entities → new.dead ≡ old.dead → new.clients ≡ old.clients → HoldsMore h x old new →
    Refines h (with_entry b x) new
other_kept h b x old new was none spares entities dead clients more =
    entry_kept h b x old new was more
    (entities_as (with_entry b x) old.entities new.entities old.dead new.dead entities dead
    (entities_stay b x old.entities old.dead was.entities none spares))
    (subst (ClientsRefine (with_entry b x)) (sym clients)
    (clients_stay b x old.clients was.clients none (λ e. (spares e).destroys) (λ e. (spares e).joins)))

-- after the space was divided, and after a balance was asked for
module _ (h : Header) (b : Book) (old : BookView) (was : Refines h b old) where
  pub division_kept : (tree : Division) → Refines h (with_entry b (entry.Divided tree)) (counted (record old { tree = tree }))
  division_kept tree =
      other_kept h b (entry.Divided tree) old _ was refl
      (λ e. record { makes = refl; destroys = refl; joins = refl; calls = λ p s. refl }) refl refl refl
      (record {
        header = refl;
        tree = refl;
        count = refl;
        creates = refl;
        joined_ = refl;
        orders = refl;
        destroyed_ = refl;
        balance = refl;
      })

  pub balance_kept : Refines h (with_entry b entry.Balanced) (counted (record old { balance = true }))
  balance_kept =
      other_kept h b entry.Balanced old _ was refl
      (λ e. record { makes = refl; destroys = refl; joins = refl; calls = λ p s. refl }) refl refl refl
      (record {
        header = refl;
        tree = refl;
        count = refl;
        creates = refl;
        joined_ = refl;
        orders = refl;
        destroyed_ = refl;
        balance = refl;
      })

-- after an entity was given a client
pub client_kept : (h : Header) (b : Book) (old new : BookView) (e : ℕ) → Refines h b old → LivesWithoutClient b e →
    new.entities ≡ old.entities → new.dead ≡ old.dead → SetsNumber old.clients new.clients e true →
    length new.clients ≡ length old.clients + 1 → HoldsMore h (entry.Joined e) old new → Refines h (with_entry b (entry.Joined e)) new
client_kept h b old new e was clientless entities dead sets count more =
    let there = live_is_there b old.entities old.dead e was.entities clientless.lives in
    let here = entity_found b old.entities old.dead e was.entities there.0 there.1 in
    entry_kept h b (entry.Joined e) old new was more
    (entities_as (with_entry b (entry.Joined e)) old.entities new.entities old.dead new.dead entities dead
    (entities_with_client b old.entities old.dead e was.entities clientless.lives))
    (clients_with_one b e here.made old.clients new.clients was.clients sets count was.entities.once here.is clientless.clientless
    (client_now b e clientless))

-- after one was destroyed
pub destroy_kept : (h : Header) (b : Book) (old new : BookView) (e : ℕ) → Refines h b old → IsSome (live_as b e) →
    IsTakenOut old.entities new.entities e → IsAdded old.dead new.dead e → SetsNumber old.clients new.clients e false →
    length new.clients + cond (is_in old.clients e) 1 0 ≡ length old.clients → HoldsMore h (entry.Destroyed e) old new →
    Refines h (with_entry b (entry.Destroyed e)) new
destroy_kept h b old new e was lives taken added sets count more =
    let there = live_is_there b old.entities old.dead e was.entities lives in
    let here = entity_found b old.entities old.dead e was.entities there.0 there.1 in
    entry_kept h b (entry.Destroyed e) old new was more
    (entities_with_death b old.entities new.entities old.dead new.dead e was.entities lives taken added)
    (clients_without_one b e here.made old.clients new.clients was.clients sets count was.entities.once here.is (none_now b e))

-- ---- the next round

module _ (b d : Book) (alike : entries b ≡ entries d) where
  same_created : (e : ℕ) → created_as b e ≡ created_as d e
  same_created e = ap (λ (xs : List Entry). find (λ (c : Create). c.entity == e) (creates_of xs)) alike

  same_accepted : (p : Part) (e : ℕ) (s : Sender) → accepted b p e s ≡ accepted d p e s
  same_accepted p e s = ap (λ (xs : List Entry). filter (is_from p e s) (calls_of xs)) alike

  same_any : (test : Entry → Bool) → list_any test (entries b) ≡ list_any test (entries d)
  same_any test = ap (list_any test) alike

  same_entity : (e : ℕ) (o : Option Entity) (dead : Bool) → IsKept b e o dead → IsKept d e o dead
  same_entity e None false was = record {
    uncreated = sym (same_created e) ∙ was.uncreated;
    undestroyed = sym (same_any (destroys e)) ∙ was.undestroyed;
    unjoined = sym (same_any (joins e)) ∙ was.unjoined;
    uncalled = λ p s. sym (same_accepted p e s) ∙ was.uncalled p s;
  }
  same_entity e None true was = record {
    made = was.made;
    is = sym (same_created e) ∙ was.is;
    destroyed = sym (same_any (destroys e)) ∙ was.destroyed;
  }
  same_entity e (Some v) false was = record {
    made = was.made;
    is = sym (same_created e) ∙ was.is;
    undestroyed = sym (same_any (destroys e)) ∙ was.undestroyed;
    whole = was.whole;
    ty = was.ty;
    last = λ p s is. was.last p s is ∙ ap length (same_accepted p e s);
  }
  same_entity e (Some v) true was = was

  -- entities go with what was accepted, in whatever rounds
  same_entities : (entities : List (ℕ × Entity)) (dead : List ℕ) → EntitiesRefine b entities dead → EntitiesRefine d entities dead
  same_entities entities dead was = record {
    count = was.count ∙ ap (λ (xs : List Entry). length (creates_of xs)) alike;
    each = λ e. same_entity e (entity_at entities e) (is_in dead e) (was.each e);
    once = subst (λ (xs : List Entry). IsDistinct eqb (map (λ c. c.entity) (creates_of xs))) alike was.once;
  }

  -- and so do those that have a client
  same_has : (e : ℕ) → has_client b e ≡ has_client d e
  same_has e = λ i. is_some (cond (list_any (destroys e) (alike i)) None (same_created e i)) && list_any (joins e) (alike i)

  same_count : count_of_clients b ≡ count_of_clients d
  same_count = λ i. count_by (λ (c : Create).
      is_some (cond (list_any (destroys c.entity) (alike i)) None (same_created c.entity i)) && list_any (joins c.entity) (alike i))
      (creates_of (alike i))

  pub same_clients : (clients : List ℕ) → ClientsRefine b clients → ClientsRefine d clients
  same_clients clients was = record { count = was.count ∙ same_count; each = λ e. was.each e ∙ same_has e }

-- the open round has no line
pub record IsEmptyRound (new : BookView) : Type 0 where
  pub count : new.count ≡ 0
  pub creates : new.creates ≡ []
  pub joined_ : new.joined ≡ []
  pub orders : new.orders ≡ []
  pub destroyed_ : new.destroyed ≡ []
  pub balance : new.balance ≡ false

-- the book in code after the round ended
pub round_kept : (h : Header) (b : Book) (old new : BookView) → Refines h b old → new.header ≡ old.header →
    new.tree ≡ old.tree → new.entities ≡ old.entities → new.dead ≡ old.dead → new.clients ≡ old.clients → IsEmptyRound new →
    Refines h (with_round_ended b) new
round_kept h b old new was header tree entities dead clients none = record {
  header = header ∙ was.header;
  tree = tree ∙ was.tree;
  entities = same_entities b (with_round_ended b) (sym (entries_after_round b)) new.entities new.dead
      (entities_as b old.entities new.entities old.dead new.dead entities dead was.entities);
  clients = same_clients b (with_round_ended b) (sym (entries_after_round b)) new.clients
      (subst (ClientsRefine b) (sym clients) was.clients);
  count = none.count;
  creates = none.creates;
  joined_ = none.joined_;
  orders = none.orders;
  destroyed_ = none.destroyed_;
  balance = none.balance;
}

-- ---- another tree

-- a round without lines ends with the tree that it began with
tree_of_none : (t : Division) (xs : List Entry) → length xs ≡ 0 → fold divided t xs ≡ t
tree_of_none t [] none = refl
tree_of_none t (x ∷ xs) none = let never : ⊥ = omega (arith, none) in absurd never

-- the book in code whose open round, which has no line, begins with another tree
pub tree_kept : (h : Header) (b : Book) (old : BookView) (tree : Division) → Refines h b old → old.count ≡ 0 →
    Refines h (with_tree b tree) (record old { tree = tree })
tree_kept h b old tree was none = record {
  header = was.header;
  tree = sym (tree_of_none tree b.current (sym was.count ∙ none));
  entities = same_entities b (with_tree b tree) refl old.entities old.dead was.entities;
  clients = same_clients b (with_tree b tree) refl old.clients was.clients;
  count = was.count;
  creates = was.creates;
  joined_ = was.joined_;
  orders = was.orders;
  destroyed_ = was.destroyed_;
  balance = was.balance;
}

-- where a book begins
nothing_kept : (size : ℕ) → EntitiesRefine (empty_book size) [] []
unfolding IsDistinct
nothing_kept size = record {
  count = refl;
  each = λ e. record { uncreated = refl; undestroyed = refl; unjoined = refl; uncalled = λ p s. refl };
  once = tt;
}

pub begins : (h : Header) (new : BookView) → new.header ≡ h → new.tree ≡ one_cell h.settings.size →
    new.entities ≡ [] → new.dead ≡ [] → new.clients ≡ [] → IsEmptyRound new → Refines h (empty_book h.settings.size) new
begins h new header tree entities dead clients none = record {
  header = header;
  tree = tree;
  entities = entities_as (empty_book h.settings.size) [] new.entities [] new.dead entities dead (nothing_kept h.settings.size);
  clients = subst (ClientsRefine (empty_book h.settings.size)) (sym clients) (record { count = refl; each = λ e. refl });
  count = none.count;
  creates = none.creates;
  joined_ = none.joined_;
  orders = none.orders;
  destroyed_ = none.destroyed_;
  balance = none.balance;
}
