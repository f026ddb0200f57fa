-- A look at a flat table depends on those that are near alone.
use Rattle.seam_law_clients.proofs.Prelude.{◌≡◌, ℕ, ◌+◌, Bool, true, false, not, cond, ◌&&◌, T, List, [], ◌∷◌, ◌++◌, map, Option, None}
use Rattle.seam_law_clients.proofs.Prelude.{Some, refl, sym, ap, ◌∙◌, subst, arith, nat_lt, nat_le, nat_eq, option_map, AllByRecursion}
use Rattle.seam_law_clients.proofs.Prelude.{filter, filter_map, cons_option, nat_cmp, eq_by_cmp, nat_cmp_total, is_sorted, same_entries}
use Rattle.seam_law_clients.proofs.Prelude.{nat_tests, all_append, Pos, distance, GhostCopy, Shown, Set, Enter, Known, seen_as, known_of}
use Rattle.seam_law_clients.proofs.Prelude.{shown_for, Seen, Look, Replica, seen_of, is_far, has_changed, in_view, is_gone, is_new}
use Rattle.seam_law_clients.proofs.Prelude.{plain_look, tied_same, passing, find_filter, sorted_filter, each_found}
use Rattle.std.specs.FinMap as table
use Rattle.seam_view.specs.declared.Look.TheVariants as look
pub use Rattle.seam_node_steps.proofs.Knowing.{known_found}

-- ---- what is known, by number

abbrev pub as_seen : ℕ → GhostCopy → Seen
as_seen x c = seen_as (x, c)

same_test : (a b : ℕ) → nat_eq a b ≡ eq_by_cmp nat_cmp b a
same_test a b = grind (arith, nat_tests)

seen_by : (x : ℕ) (k : Known) (s : Option Seen) (o : Option GhostCopy) (t : Bool) → eq_by_cmp nat_cmp x k.0 ≡ t →
    s ≡ option_map (as_seen x) o → cond t (Some (seen_as k)) s ≡ option_map (as_seen x) (cond t (Some k.1) o)
seen_by x k s o true tied h = ap (λ y. Some (as_seen y k.1)) (sym (tied_same x k.0 tied))
seen_by x k s o false tied h = h

pub seen_found : (x : ℕ) (es : List Known) → seen_of x (map seen_as es) ≡ option_map (as_seen x) (table.find nat_cmp x es)
seen_found x [] = refl
seen_found x (k ∷ es) =
    ap (λ b. cond b (Some (seen_as k)) (seen_of x (map seen_as es))) (same_test k.0 x)
    ∙ seen_by x k (seen_of x (map seen_as es)) (table.find nat_cmp x es) (eq_by_cmp nat_cmp x k.0) refl (seen_found x es)

-- ---- lists of looks

module _ {A B : Type 0} (f : A → B) where
  mapped_by : (t : B → Bool) (x : A) (xs : List A) (b : Bool) → filter t (map f xs) ≡ map f (filter (λ y. t (f y)) xs) →
      cond b (f x ∷ filter t (map f xs)) (filter t (map f xs)) ≡ map f (cond b (x ∷ filter (λ y. t (f y)) xs) (filter (λ y. t (f y)) xs))
  mapped_by t x xs true h = ap (λ l. f x ∷ l) h
  mapped_by t x xs false h = h

  filter_mapped : (t : B → Bool) (xs : List A) → filter t (map f xs) ≡ map f (filter (λ y. t (f y)) xs)
  filter_mapped t [] = refl
  filter_mapped t (x ∷ xs) = mapped_by t x xs (t (f x)) (filter_mapped t xs)

  all_by : (P : B → Type 0) (x : A) (xs : List A) (b : Bool) → (b ≡ true → P (f x)) → AllByRecursion P (map f xs) →
      AllByRecursion P (map f (cond b (x ∷ xs) xs))
  all_by P x xs true h rest = (h refl, rest)
  all_by P x xs false h rest = rest

  pub all_filtered : (P : B → Type 0) (Q : A → Type 0) (t : A → Bool) → ((x : A) → t x ≡ true → Q x → P (f x)) → (xs : List A) →
      AllByRecursion Q xs → AllByRecursion P (map f (filter t xs))
  all_filtered P Q t h [] q = tt
  all_filtered P Q t h (x ∷ xs) q = all_by P x (filter t xs) (t x) (λ is. h x is q.0) (all_filtered P Q t h xs q.1)

all_unit : {A : Type 0} (xs : List A) → AllByRecursion (λ x. Unit {0}) xs
all_unit [] = tt
all_unit (x ∷ xs) = (tt, all_unit xs)

pub lines_agree : (f g : Look → Option Shown) (ls : List Look) → AllByRecursion (λ l. f l ≡ g l) ls → filter_map f ls ≡ filter_map g ls
lines_agree f g [] h = refl
lines_agree f g (l ∷ ls) h = λ i. cons_option (h.0 i) (lines_agree f g ls h.1 i)

-- ---- near

module _ (r : Replica) (own : Pos) where
  -- what is known of an entity, where it is not far
  abbrev pub near : Option GhostCopy → Option GhostCopy
  near None = None
  near (Some c) = cond (is_far r own c.state.pos) None (Some c)

  -- two lists that know the same of all that are near
  pub record AreAlike (es fs : List Known) : Type 0 where
    pub rises : T (is_sorted nat_cmp es)
    pub rises_too : T (is_sorted nat_cmp fs)
    pub same : (x : ℕ) → near (table.find nat_cmp x es) ≡ near (table.find nat_cmp x fs)

  none_some : (c : GhostCopy) → None ≡ Some c → ⊥
  none_some c h = cc

  near_by : (b : Bool) (c d : GhostCopy) → cond b None (Some c) ≡ Some d → c ≡ d
  near_by true c d h = absurd (none_some d h)
  near_by false c d h = let z = h in cc

  near_is : (o : Option GhostCopy) (d : GhostCopy) → near o ≡ Some d → o ≡ Some d
  near_is None d h = absurd (none_some d h)
  near_is (Some c) d h = ap (λ y. Some y) (near_by (is_far r own c.state.pos) c d h)

  gone_by : (x : ℕ) (c : GhostCopy) (b : Bool) → is_far r own c.state.pos ≡ b →
      b ≡ is_gone r own (option_map (as_seen x) (cond b None (Some c)))
  gone_by x c true is = refl
  gone_by x c false is = sym is

  gone_near : (x : ℕ) (o : Option GhostCopy) → is_gone r own (option_map (as_seen x) o) ≡ is_gone r own (option_map (as_seen x) (near o))
  gone_near x None = refl
  gone_near x (Some c) = gone_by x c (is_far r own c.state.pos) refl

  changed_by : (x v : ℕ) (c : GhostCopy) (b : Bool) → is_far r own c.state.pos ≡ b →
      (not b && nat_lt v c.version) ≡ has_changed r own v (option_map (as_seen x) (cond b None (Some c)))
  changed_by x v c true is = refl
  changed_by x v c false is = ap (λ t. not t && nat_lt v c.version) (sym is)

  changed_near : (x v : ℕ) (o : Option GhostCopy) →
      has_changed r own v (option_map (as_seen x) o) ≡ has_changed r own v (option_map (as_seen x) (near o))
  changed_near x v None = refl
  changed_near x v (Some c) = changed_by x v c (is_far r own c.state.pos) refl

  -- one that is new is near
  abbrev is_new_as : Known → Bool
  is_new_as k = is_new r own (seen_as k)

  far_none : (radius hysteresis d : ℕ) (a : Bool) → nat_lt (radius + hysteresis) d ≡ true → (a && nat_le d radius) ≡ false
  far_none radius hysteresis d true far = grind (arith, nat_tests)
  far_none radius hysteresis d false far = refl

  new_by : (x : ℕ) (c : GhostCopy) (b : Bool) → is_far r own c.state.pos ≡ b →
      passing is_new_as x (Some c) ≡ passing is_new_as x (cond b None (Some c))
  new_by x c true far =
      ap (λ t. cond t (Some c) None) (far_none r.radius r.hysteresis (distance own c.state.pos) (not (in_view r x)) far)
  new_by x c false far = refl

  new_near : (x : ℕ) (o : Option GhostCopy) → passing is_new_as x o ≡ passing is_new_as x (near o)
  new_near x None = refl
  new_near x (Some c) = new_by x c (is_far r own c.state.pos) refl

  module _ (es fs : List Known) (alike : AreAlike es fs) where
    gone_alike : (x : ℕ) → is_gone r own (seen_of x (map seen_as es)) ≡ is_gone r own (seen_of x (map seen_as fs))
    gone_alike x =
        ap (is_gone r own) (seen_found x es)
        ∙ gone_near x (table.find nat_cmp x es)
        ∙ ap (λ o. is_gone r own (option_map (as_seen x) o)) (alike.same x)
        ∙ sym (gone_near x (table.find nat_cmp x fs))
        ∙ sym (ap (is_gone r own) (seen_found x fs))

    changed_alike : (x v : ℕ) → has_changed r own v (seen_of x (map seen_as es)) ≡ has_changed r own v (seen_of x (map seen_as fs))
    changed_alike x v =
        ap (has_changed r own v) (seen_found x es)
        ∙ changed_near x v (table.find nat_cmp x es)
        ∙ ap (λ o. has_changed r own v (option_map (as_seen x) o)) (alike.same x)
        ∙ sym (changed_near x v (table.find nat_cmp x fs))
        ∙ sym (ap (has_changed r own v) (seen_found x fs))

    new_alike : filter is_new_as es ≡ filter is_new_as fs
    new_alike =
        same_entries nat_cmp nat_cmp_total table.nat_cmp-IsAntisymmetric (filter is_new_as es) (filter is_new_as fs)
        (sorted_filter is_new_as es alike.rises) (sorted_filter is_new_as fs alike.rises_too)
        (λ x. find_filter is_new_as x es alike.rises
        ∙ new_near x (table.find nat_cmp x es)
        ∙ ap (passing is_new_as x) (alike.same x)
        ∙ sym (new_near x (table.find nat_cmp x fs))
        ∙ sym (find_filter is_new_as x fs alike.rises_too))

    enters_alike : filter (is_new r own) (map seen_as es) ≡ filter (is_new r own) (map seen_as fs)
    enters_alike =
        filter_mapped seen_as (is_new r own) es ∙ ap (map seen_as) new_alike ∙ sym (filter_mapped seen_as (is_new r own) fs)

    pub plain_alike : plain_look r own (map seen_as es) ≡ plain_look r own (map seen_as fs)
    plain_alike = λ i.
        map (λ p. look.Leave p.0) (filter (λ p. gone_alike p.0 i) r.entries)
        ++ map (λ p. look.Set p.0) (filter (λ p. changed_alike p.0 p.1 i) r.entries)
        ++ map (λ s. look.Enter s.entity) (enters_alike i)

    -- what is shown for each look
    abbrev Agrees : Look → Type 0
    Agrees l = shown_for es l ≡ shown_for fs l

    known_alike : (x : ℕ) → table.find nat_cmp x es ≡ table.find nat_cmp x fs → known_of x es ≡ known_of x fs
    known_alike x same = known_found x es ∙ same ∙ sym (known_found x fs)

    found_by : (x : ℕ) (c : GhostCopy) → table.find nat_cmp x es ≡ Some c → is_far r own c.state.pos ≡ false →
        table.find nat_cmp x es ≡ table.find nat_cmp x fs
    found_by x c at close =
        let here = sym (alike.same x) ∙ ap near at ∙ ap (λ b. cond b None (Some c)) close in
        at ∙ sym (near_is (table.find nat_cmp x fs) c here)

    changed_found : (x v : ℕ) (o : Option GhostCopy) → table.find nat_cmp x es ≡ o →
        has_changed r own v (option_map (as_seen x) o) ≡ true → table.find nat_cmp x es ≡ table.find nat_cmp x fs
    changed_found x v None at is = cc
    changed_found x v (Some c) at is = found_by x c at (not_far (is_far r own c.state.pos) is)
      where
        not_far : (b : Bool) → (not b && nat_lt v c.version) ≡ true → b ≡ false
        not_far true h = cc
        not_far false h = refl

    new_found : (k : Known) → is_new_as k ≡ true → table.find nat_cmp k.0 es ≡ Some k.1 →
        table.find nat_cmp k.0 es ≡ table.find nat_cmp k.0 fs
    new_found k is at = found_by k.0 k.1 at (close (is_far r own k.1.state.pos) refl)
      where
        close : (b : Bool) → is_far r own k.1.state.pos ≡ b → b ≡ false
        close true far =
            let no = far_none r.radius r.hysteresis (distance own k.1.state.pos) (not (in_view r k.0)) far in
            cc
        close false far = refl

    left_agree : (ps : List (ℕ × ℕ)) → AllByRecursion Agrees (map (λ p. look.Leave p.0) ps)
    left_agree [] = tt
    left_agree (p ∷ ps) = (refl, left_agree ps)

    set_agree : AllByRecursion Agrees
        (map (λ p. look.Set p.0) (filter (λ p. has_changed r own p.1 (seen_of p.0 (map seen_as es))) r.entries))
    set_agree =
        all_filtered (λ p. look.Set p.0) Agrees (λ p. Unit {0}) (λ p. has_changed r own p.1 (seen_of p.0 (map seen_as es)))
        (λ p is u. ap (option_map (Set p.0)) (known_alike p.0
        (changed_found p.0 p.1 (table.find nat_cmp p.0 es) refl (sym (ap (has_changed r own p.1) (seen_found p.0 es)) ∙ is))))
        r.entries (all_unit r.entries)

    new_agree : AllByRecursion Agrees (map (λ k. look.Enter k.0) (filter is_new_as es))
    new_agree =
        all_filtered (λ k. look.Enter k.0) Agrees (λ k. table.find nat_cmp k.0 es ≡ Some k.1) is_new_as
        (λ k is at. ap (option_map (Enter k.0)) (known_alike k.0 (new_found k is at))) es (each_found es alike.rises)

    map_twice : (ks : List Known) → map (λ s. look.Enter s.entity) (map seen_as ks) ≡ map (λ k. look.Enter k.0) ks
    map_twice [] = refl
    map_twice (k ∷ ks) = ap (λ l. look.Enter k.0 ∷ l) (map_twice ks)

    enter_agree : AllByRecursion Agrees (map (λ s. look.Enter s.entity) (filter (is_new r own) (map seen_as es)))
    enter_agree =
        subst (AllByRecursion Agrees)
        (sym (ap (map (λ s. look.Enter s.entity)) (filter_mapped seen_as (is_new r own) es) ∙ map_twice (filter is_new_as es))) new_agree

    all_agree : AllByRecursion Agrees (plain_look r own (map seen_as es))
    all_agree =
        all_append Agrees _ _
        (all_append Agrees _ _ (left_agree (filter (λ p. is_gone r own (seen_of p.0 (map seen_as es))) r.entries)) set_agree) enter_agree

    -- two lists that know the same of all that are near give the same lines
    pub lines_alike : filter_map (shown_for es) (plain_look r own (map seen_as es))
        ≡ filter_map (shown_for fs) (plain_look r own (map seen_as fs))
    lines_alike =
        lines_agree (shown_for es) (shown_for fs) (plain_look r own (map seen_as es)) all_agree
        ∙ ap (filter_map (shown_for fs)) plain_alike
