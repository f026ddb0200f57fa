-- The flat table of a world is that of the rules.
use Rattle.seam_law_book.proofs.Prelude.{◌≡◌, ℕ, zero, suc, ◌-◌, ◌⊎◌, Bool, true, false, cond, eqb, T, List, [], ◌∷◌, map, length, Some}
use Rattle.seam_law_book.proofs.Prelude.{None, refl, sym, ap, ◌∙◌, subst, arith, inl, inr, Contains, ◌&&◌, AllByRecursion, flat_map}
use Rattle.seam_law_book.proofs.Prelude.{nat_cmp, eq_by_cmp, nat_cmp_total, Less, is_sorted, below_all, same_entries, nat_tests, Division}
use Rattle.seam_law_book.proofs.Prelude.{Value, Number, Text, ghost_of, other_of, own_of, same_value, same_values, same_state, same_shown}
use Rattle.seam_law_book.proofs.Prelude.{State, Call as CallData, Create, RealView, World, Header, Book, entries, creates_of, live_as, flat}
use Rattle.seam_law_book.proofs.Prelude.{Orders, Lists, Row, properties, has_changed_at, public_at, row_after, rows_of, here_at}
use Rattle.seam_law_book.proofs.Prelude.{IsBetweenRounds, rows_at, row_in, row_of_real, frame_of, GoesWith, IsInTable, AreInTable}
use Rattle.seam_law_book.proofs.Prelude.{live_is_created, both as both_hold, Somewhere, Nowhere, search_real, tied_same, find_entries}
use Rattle.seam_law_book.proofs.Prelude.{found_in, row_there, row_nowhere, public_more}
use Rattle.std.specs.Ordering.{is_lt}
use Rattle.std.specs.List.Sorted.{IsStrictlySortedBy}
use Rattle.std.specs.FinMap as table
use Rattle.std.proofs.lemmas.Map.Keys.{sorted_from_strictly_increasing}
use Rattle.std.proofs.lemmas.Bool.Decides.{Decides-eqb, Decides-int_eq}
use Rattle.std.proofs.lemmas.Slice.Eq.{slice_eq-Decides, bytes_eq-Decides}
use Rattle.std.specs.Bool.{Decides}
use Rattle.seam_defs.specs.declared.flags.Part.TheVariants as part
use Rattle.seam_rule_lines.proofs.InOrderLemmas.{found_entity}
use Rattle.seam_rule_lines.proofs.Lists.{contains_first, contains_later, contains_cases}
use Rattle.seam_node_steps.proofs.Sorted.{both}
use Rattle.seam_law_calls.proofs.Holds.{not_false}
use Rattle.seam_law_clients.specs.Tables as world

-- ---- what others may see, at the public version

value-Decides : (a b : Value) → Decides (same_value a b) (a ≡ b)
value-Decides (Number a) (Number b) = let d = Decides-int_eq a b in ((λ t. ap Number (d.0 t)), (λ e. d.1 (let h : a ≡ b = cc in h)))
value-Decides (Number a) (Text b) = ((λ t. cc), (λ e. cc))
value-Decides (Text a) (Number b) = ((λ t. cc), (λ e. cc))
value-Decides (Text a) (Text b) = let d = bytes_eq-Decides a b in ((λ t. ap Text (d.0 t)), (λ e. d.1 (let h : a ≡ b = cc in h)))

state_is : (a b : State) → same_state a b ≡ true → a ≡ b
state_is a b is =
    let two = both_hold (eqb a.pos.x b.pos.x && eqb a.pos.z b.pos.z) (same_values a.props b.props) is in
    let place = both_hold (eqb a.pos.x b.pos.x) (eqb a.pos.z b.pos.z) two.0 in
    let x = (Decides-eqb a.pos.x b.pos.x).0 place.0 in
    let z = (Decides-eqb a.pos.z b.pos.z).0 place.1 in
    let props = (slice_eq-Decides value-Decides a.props b.props (same_values a.props b.props) refl).0 two.1 in
    λ i. record { pos = record { x = x i; z = z i }; props = props i }

module _ (h : Header) (c : Create) (order : List CallData) where
  abbrev ghost_at : ℕ → State
  ghost_at v = ghost_of (properties h c) (flat h part.Cell c order v)

  same_by : (n : ℕ) (b : Bool) → has_changed_at h part.Cell c order (suc n) ≡ b → ghost_at n ≡ ghost_at (public_at h c order n) →
      ghost_at (suc n) ≡ ghost_at (cond b (suc n) (public_at h c order n))
  same_by n true is before = refl
  same_by n false is before =
      let less : suc n - 1 ≡ n = omega arith in
      let test = not_false (same_shown (properties h c) part.Cell (flat h part.Cell c order (suc n - 1)) (flat h part.Cell c order (suc n)))
      is in
      let same = state_is (ghost_at (suc n - 1)) (ghost_at (suc n)) test in
      sym same ∙ ap ghost_at less ∙ before

  -- a ghost holds now what it held at the public version
  pub ghost_is_public : (n : ℕ) → ghost_at n ≡ ghost_at (public_at h c order n)
  ghost_is_public zero = refl
  ghost_is_public (suc n) =
      same_by n (has_changed_at h part.Cell c order (suc n)) refl (ghost_is_public n) ∙ ap ghost_at (sym (public_more h c order n))

  -- the row of a real that is in the table
  pub row_is : (others : (s t : State) → ghost_of (properties h c) s ≡ ghost_of (properties h c) t →
      other_of (properties h c) s ≡ other_of (properties h c) t) → (tree : Division) (k : ℕ) (r : RealView) → r.ty ≡ c.ty →
      IsInTable h c order r → row_of_real (here_at (frame_of h tree) k) (c.entity, r) ≡ row_after h c order
  row_is others tree k r type row =
      let n = length order in
      let state : other_of (properties h c) r.state ≡ other_of (properties h c) (flat h part.Cell c order (public_at h c order n)) =
      ap (other_of (properties h c)) row.state
      ∙ others (flat h part.Cell c order n) (flat h part.Cell c order (public_at h c order n)) (ghost_is_public n) in
      ap (λ y. row_of_real (here_at (frame_of h tree) k) (c.entity, record r { ty = y })) type
      ∙ (λ i. record {
        entity = c.entity;
        version = row.version i;
        own = own_of (properties h c) (row.state i);
        other = record { ty = c.ty; version = row.public i; state = state i };
      })

-- ---- a list of entities in rising number

tied_self : (n : ℕ) → eq_by_cmp nat_cmp n n ≡ true
tied_self n = grind (arith, nat_tests)

module _ (row : Create → Row) where
  abbrev numbered : Create → ℕ × Row
  numbered c = (c.entity, row c)

  below_listed : (e : ℕ) (cs : List Create) → AllByRecursion (λ y. nat_cmp e y ≡ Less) (map (λ c. c.entity) cs) →
      T (below_all nat_cmp e (map numbered cs))
  below_listed e [] all = tt
  below_listed e (c ∷ cs) all = both _ _ (subst (λ o. T (is_lt o)) (sym all.0) tt) (below_listed e cs all.1)

  rises_listed : (cs : List Create) → IsStrictlySortedBy nat_cmp (map (λ c. c.entity) cs) → T (is_sorted nat_cmp (map numbered cs))
  unfolding IsStrictlySortedBy
  rises_listed [] sorted = tt
  rises_listed (c ∷ cs) sorted = both _ _ (below_listed c.entity cs sorted.0) (rises_listed cs sorted.1)

  module _ (e : ℕ) where
    pub record IsListed (cs : List Create) : Type 0 where
      pub create : Create
      pub there : Contains cs create
      pub entity : create.entity ≡ e
      pub found : table.find nat_cmp e (map numbered cs) ≡ Some (row create)

    pub record IsUnlisted (cs : List Create) : Type 0 where
      pub none : (c : Create) → Contains cs c → c.entity ≡ e → ⊥
      pub found : table.find nat_cmp e (map numbered cs) ≡ None

    more_listed : (c : Create) (cs : List Create) (b : Bool) → eq_by_cmp nat_cmp e c.entity ≡ b → IsListed cs ⊎ IsUnlisted cs →
        IsListed (c ∷ cs) ⊎ IsUnlisted (c ∷ cs)
    more_listed c cs true is rest =
        inl (record {
          create = c;
          there = contains_first c cs;
          entity = sym (tied_same e c.entity is);
          found = ap (λ b. cond b (Some (row c)) (table.find nat_cmp e (map numbered cs))) is;
        })
    more_listed c cs false is (inl l) =
        inl (record {
          create = l.create;
          there = contains_later c l.create cs l.there;
          entity = l.entity;
          found = ap (λ b. cond b (Some (row c)) (table.find nat_cmp e (map numbered cs))) is ∙ l.found;
        })
    more_listed c cs false is (inr u) =
        inr (record {
          none = λ d there same. none_by d same (contains_cases c d cs there);
          found = ap (λ b. cond b (Some (row c)) (table.find nat_cmp e (map numbered cs))) is ∙ u.found;
        })
      where
        none_by : (d : Create) → d.entity ≡ e → (c ≡ d) ⊎ Contains cs d → ⊥
        none_by d same (inl first) =
            let tied : eq_by_cmp nat_cmp e c.entity ≡ true =
            ap (eq_by_cmp nat_cmp e) (ap (λ (x : Create). x.entity) first ∙ same) ∙ tied_self e in
            (let z = sym tied ∙ is in cc)
        none_by d same (inr has) = u.none d has same

    pub listed_or_not : (cs : List Create) → IsListed cs ⊎ IsUnlisted cs
    listed_or_not [] = inr (record { none = λ c there same. absurd (let low = there.1 in omega (arith, low)); found = refl })
    listed_or_not (c ∷ cs) = more_listed c cs (eq_by_cmp nat_cmp e c.entity) refl (listed_or_not cs)

-- ---- the table

module _ (others : (h : Header) (c : Create) (s t : State) → ghost_of (properties h c) s ≡ ghost_of (properties h c) t →
    other_of (properties h c) s ≡ other_of (properties h c) t) (h : Header) (b : Book) (tree : Division) (v : World) (orders : Orders)
    (goes : GoesWith h b tree v) (rows : AreInTable h b orders v) (between : IsBetweenRounds (frame_of h tree) v) (live : List Create)
    (listed : Lists (live_as b) live) where
  abbrev row_now : Create → Row
  row_now c = row_after h c (orders part.Cell c.entity)

  abbrev its : List (ℕ × Row)
  its = table.entries (table.from_entries {R = nat_cmp} (flat_map rows_at v.nodes))

  found_live : (e : ℕ) → IsListed row_now e live → found_in e v.nodes ≡ table.find nat_cmp e (map (numbered row_now) live)
  found_live e l =
      let c = l.create in
      let lives = (listed.exact c).0 l.there in
      let held = goes.live c.entity c lives in
      ap (λ n. found_in n v.nodes) (sym l.entity)
      ∙ row_there (frame_of h tree) v between c.entity held.cell held.real held.here
      ∙ ap Some (row_is h c (orders part.Cell c.entity) (others h c) tree held.cell held.real held.type
      (rows c.entity held.cell held.real c held.here lives))
      ∙ sym l.found

  nowhere : (e : ℕ) → IsUnlisted row_now e live → Somewhere e v ⊎ Nowhere e v → Nowhere e v
  nowhere e u (inr n) = n
  nowhere e u (inl p) =
      let l = goes.reals e p.0 p.1 p.2 in
      let same = found_entity (creates_of (entries b)) e l.0 (live_is_created b e l.0 l.1) in
      absurd (u.none l.0 ((listed.exact l.0).1 (ap (live_as b) same ∙ l.1)) same)

  found_by : (e : ℕ) → IsListed row_now e live ⊎ IsUnlisted row_now e live →
      found_in e v.nodes ≡ table.find nat_cmp e (map (numbered row_now) live)
  found_by e (inl l) = found_live e l
  found_by e (inr u) = row_nowhere (frame_of h tree) v between e (nowhere e u (search_real e v)) ∙ sym u.found

  entries_are : its ≡ map (numbered row_now) live
  entries_are =
      same_entries nat_cmp nat_cmp_total table.nat_cmp-IsAntisymmetric its (map (numbered row_now) live)
      (table.entries_sorted (table.from_entries {R = nat_cmp} (flat_map rows_at v.nodes)))
      (rises_listed row_now live (sorted_from_strictly_increasing (map (λ c. c.entity) live) listed.rising))
      (λ e. find_entries (flat_map rows_at v.nodes) e ∙ found_by e (listed_or_not row_now e live))

  rows_numbered : (cs : List Create) → map row_in (map (numbered row_now) cs) ≡ map row_now cs
  rows_numbered [] = refl
  rows_numbered (c ∷ cs) = ap (λ l. row_now c ∷ l) (rows_numbered cs)

  pub rows_are : world.rows_of v ≡ rows_of h orders live
  rows_are = ap (map row_in) entries_are ∙ rows_numbered live
