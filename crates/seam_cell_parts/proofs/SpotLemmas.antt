-- Where reals and copies are, as it is kept beside them: after a change of one entity, and when a list of all is made.
use Rattle.std.proofs.Common.{◌≡◌, ℕ, suc, ◌<◌, ◌≤◌, ◌+◌, Bool, true, false, cond, T, List, [], ◌∷◌, ◌++◌, length, take, drop, get_or}
use Rattle.std.proofs.Common.{map as each, Option, None, Some, refl, sym, ap, subst, ◌∙◌, arith}
use Rattle.std.proofs.Common.{IfSome, is_some, eqb, Bor, option_copied}
use Rattle.std.specs.Prelude.{option_map, nat_lt}
use Rattle.std.specs.Ordering.{nat_cmp, eq_by_cmp, is_eq, is_lt}
use Rattle.std.specs.Cmp.{nat_cmp_total, tied_itself}
use Rattle.std.specs.List.{list_any}
use Rattle.std.specs.Map.{keys_of}
use Rattle.std.specs.FinMap as map
use Rattle.std.specs.FinMap.Entries.{is_sorted, below_all, find-append, is_some-find}
use Rattle.std.proofs.Math.Seq.{split_at}
use Rattle.std.proofs.lemmas.List.{map-append, length-map, take_more, take_all, get_or-map}
use Rattle.std.proofs.lemmas.List.Folds.{list_any_at}
use Rattle.std.proofs.lemmas.Bool.Decides.{nat_tests}
use Rattle.seam_table.specs.Tables.{TableView, with_each}
use Rattle.seam_table.proofs.Changed.{got_changed}
use Rattle.seam_range.specs.declared.Location.{Location}
use Rattle.seam_range.specs.Locations.{Locations}
use Rattle.seam_node_steps.specs.Prelude.{Ghost, BookView, copy_in, copied, beat_of, with_ghost, after_message, GhostCopy, RealView}
use Rattle.seam_node_steps.specs.Prelude.{real_begins, Map, set_at, or_else}
use Rattle.seam_ghosts.specs.declared.Kept.TheVariants.{Taken, Ignored}
use Rattle.seam_ghosts.specs.Book.{answer, with_copies}
use Rattle.seam_ghosts.proofs.Forgotten.{get_with_copies}
use Rattle.seam_node_steps.proofs.Slots.{get-set_at}
use Rattle.seam_node_steps.proofs.Sorted.{first, second, find_append, find_mapped, sorted_mapped}
use Rattle.seam_node_steps.proofs.Knowing.{find_copied, copies_rise}
use Rattle.seam_cell_parts.specs.Spots.{is_out, is_none_else_out, still_out, AreNoted, AreListed, IsNoted, IsChanged, location_of_real}
use Rattle.seam_cell_parts.specs.Spots.{location_of_copy, real_locations, copy_locations, located_reals, located_copies}

-- ---- a list that is kept

noted_by : (l : Locations) (out left : Option ℕ) (e : ℕ) (o : Option Location) (before after : ℕ → Option Location) →
    AreNoted l out before →
    IsChanged before after e o → ((q : ℕ) → is_out left q ≡ false → eq_by_cmp nat_cmp q e ≡ false → is_out out q ≡ false) →
    AreNoted (set_at l e o) left after
noted_by l out left e o before after are changed others q not =
    get-set_at l e q o ∙ (by (eq_by_cmp nat_cmp q e) refl ∙ sym (changed q))
  where
    by : (b : Bool) → eq_by_cmp nat_cmp q e ≡ b → cond b o (map.get l q) ≡ cond b o (before q)
    by true same = refl
    by false apart = are q (others q not apart)

-- after the location of one entity changed
noted_in : (old new : Option Locations) (out left : Option ℕ) (e : ℕ) (o : Option Location) (before after : ℕ → Option Location) →
    IsNoted old new e o →
    AreListed old out before → IsChanged before after e o →
    ((q : ℕ) → is_out left q ≡ false → eq_by_cmp nat_cmp q e ≡ false → is_out out q ≡ false) → AreListed new left after
noted_in old None out left e o before after is are changed others = tt
noted_in old (Some l) out left e o before after is are changed others =
    let k = is.0 in
    subst (λ m. AreNoted m left after) (sym is.1.1)
    (noted_by k out left e o before after (subst (λ s. AreListed s out before) is.1.0 are) changed others)

others_in : (out : Option ℕ) (e q : ℕ) → is_out (still_out out e) q ≡ false → eq_by_cmp nat_cmp q e ≡ false → is_out out q ≡ false
others_in None e q not apart = refl
others_in (Some x) e q not apart = by (eqb x e) refl not
  where
    by : (b : Bool) → eqb x e ≡ b → is_out (cond b None (Some x)) q ≡ false → eqb x q ≡ false
    by true same h = grind (arith, nat_tests)
    by false other h = h

-- and the entity is not out from then on
pub noted_after : (old new : Option Locations) (out left : Option ℕ) (e : ℕ) (o : Option Location) (before after : ℕ → Option Location) →
    left ≡ still_out out e → IsNoted old new e o → AreListed old out before → IsChanged before after e o → AreListed new left after
noted_after old new out left e o before after is noted are changed =
    noted_in old new out left e o before after noted are changed
    (λ q not apart. others_in out e q (ap (λ x. is_out x q) (sym is) ∙ not) apart)

-- and the one that is out stays so
pub noted_beside : (old new : Option Locations) (out : Option ℕ) (e : ℕ) (o : Option Location) (before after : ℕ → Option Location) →
    IsNoted old new e o → AreListed old out before → IsChanged before after e o → AreListed new out after
noted_beside old new out e o before after noted are changed = noted_in old new out out e o before after noted are changed
    (λ q not apart. not)

-- where the entity is out from then on, and no other one was
pub noted_out : (s : Option Locations) (out : Option ℕ) (e : ℕ) (before after : ℕ → Option Location) →
    ((q : ℕ) → eqb e q ≡ false → is_out out q ≡ false) → AreListed s out before → IsChanged before after e None → AreListed s (Some e) after
noted_out None out e before after others are changed = tt
noted_out (Some l) out e before after others are changed = λ q not.
    let apart : eq_by_cmp nat_cmp q e ≡ false = grind (arith, nat_tests, not) in
    are q (others q not) ∙ sym (changed q ∙ ap (λ b. cond b None (before q)) apart)

pub none_else : (out : Option ℕ) (e : ℕ) → is_none_else_out out e ≡ true → (q : ℕ) → eqb e q ≡ false → is_out out q ≡ false
none_else None e is q not = refl
none_else (Some x) e is q not = grind (arith, nat_tests, is, not)

-- of entities other than e, where none but e is out
pub noted_others : (s : Option Locations) (out : Option ℕ) (e : ℕ) (location : ℕ → Option Location) →
    ((q : ℕ) → eqb e q ≡ false → is_out out q ≡ false) → AreListed s out location → IfSome s (λ l. AreNoted l (Some e) location)
noted_others None out e location others are = tt
noted_others (Some l) out e location others are = λ q not. are q (others q not)

pub copied_has : (o : Option (Bor Locations)) (s : Option Locations) (P : Locations → Type 0) → option_copied o ≡ s → IfSome s P →
    IfSome o (λ l. P l.now)
copied_has None s P is h = tt
copied_has (Some l) s P is h = subst (λ x. IfSome x P) (sym is) h

-- where no list is kept
pub none_kept : (s : Option Locations) (out : Option ℕ) (location : ℕ → Option Location) → is_some s ≡ false → AreListed s out location
none_kept None out location is = tt
none_kept (Some l) out location is = cc

-- ---- locations of reals and copies after a change

map_cond : {X Y : Type 0} (f : X → Y) (b : Bool) (o p : Option X) → option_map f (cond b o p) ≡ cond b (option_map f o) (option_map f p)
map_cond f true o p = refl
map_cond f false o p = refl

pub real_set : (m : Map RealView) (e : ℕ) (o : Option RealView) (q : ℕ) →
    real_locations (set_at m e o) q ≡ cond (eq_by_cmp nat_cmp q e) (option_map location_of_real o) (real_locations m q)
real_set m e o q =
    ap (option_map location_of_real) (get-set_at m e q o) ∙ map_cond location_of_real (eq_by_cmp nat_cmp q e) o (map.get m q)

-- a round that begins moves no real
pub reals_stay : (w : TableView RealView) → real_locations (with_each real_begins w).items ≡ real_locations w.items
reals_stay w = λ i q. (ap (option_map location_of_real) (got_changed real_begins w.items q) ∙ by (map.get w.items q)) i
  where
    by : (o : Option RealView) → option_map location_of_real (option_map real_begins o) ≡ option_map location_of_real o
    by None = refl
    by (Some r) = refl

-- the locations of copies after a message about the entity that is taken
pub copy_changed : (w : BookView GhostCopy) (e : ℕ) (g : Ghost GhostCopy) → Taken ≡ answer (beat_of w e) g.beat → (q : ℕ) →
    copy_locations (after_message w e g).ghosts q
    ≡ cond (eq_by_cmp nat_cmp q e) (option_map location_of_copy g.copy) (copy_locations w.ghosts q)
copy_changed w e g is q =
    ap (λ b. option_map location_of_copy (copy_in (map.get (cond b (with_ghost w e g) w).ghosts q)))
    (later (nat_lt (beat_of w e) g.beat) is)
    ∙ (ap (λ x. option_map location_of_copy (copy_in x)) (get-set_at w.ghosts e q (Some g)) ∙ at (eq_by_cmp nat_cmp q e))
  where
    later : (b : Bool) → Taken ≡ cond b Taken Ignored → b ≡ true
    later true h = refl
    later false h = cc

    at : (b : Bool) → option_map location_of_copy (copy_in (cond b (Some g) (map.get w.ghosts q)))
        ≡ cond b (option_map location_of_copy g.copy) (copy_locations w.ghosts q)
    at true = refl
    at false = refl

-- where beats of entities without a copy are forgotten, all copies are where they were
pub copies_stay_noted : (m : Map (Ghost GhostCopy)) → copy_locations (with_copies m) ≡ copy_locations m
copies_stay_noted m = λ i q. (ap (λ o. option_map location_of_copy (copy_in o)) (get_with_copies m q)
    ∙ by (map.get m q) (copy_in (map.get m q)) refl) i
  where
    by : (o : Option (Ghost GhostCopy)) (c : Option GhostCopy) → copy_in o ≡ c →
        option_map location_of_copy (copy_in (cond (is_some c) o None)) ≡ option_map location_of_copy (copy_in o)
    by o (Some c) is = refl
    by o None is = sym (ap (option_map location_of_copy) is)

-- and after one that is ignored
pub copies_kept : (w : BookView GhostCopy) (e : ℕ) (g : Ghost GhostCopy) → Ignored ≡ answer (beat_of w e) g.beat → after_message w e g ≡ w
copies_kept w e g is = ap (λ b. cond b (with_ghost w e g) w) (not_later (nat_lt (beat_of w e) g.beat) is)
  where
    not_later : (b : Bool) → Ignored ≡ cond b Taken Ignored → b ≡ false
    not_later true h = cc
    not_later false h = refl

-- ---- lists of all

-- no entry before another has its number
below_further : {X : Type 0} (k e : ℕ) (x : X) (passed rest : List (ℕ × X)) → T (below_all nat_cmp k (passed ++ (e, x) ∷ rest)) →
    T (is_lt (nat_cmp k e))
below_further k e x [] rest h = first _ _ h
below_further k e x (p ∷ passed) rest h = below_further k e x passed rest (second _ _ h)

not_passed : {X : Type 0} (e : ℕ) (x : X) (passed rest : List (ℕ × X)) → T (is_sorted nat_cmp (passed ++ (e, x) ∷ rest)) →
    map.find nat_cmp e passed ≡ None
not_passed e x [] rest h = refl
not_passed e x (p ∷ passed) rest h =
    let below = below_further p.0 e x passed rest (first _ _ h) in
    let apart : is_eq (nat_cmp e p.0) ≡ false = grind (arith, nat_tests, below) in
    ap (λ b. cond b (Some p.1) (map.find nat_cmp e passed)) apart ∙ not_passed e x passed rest (second _ _ h)

itself : (e : ℕ) → eq_by_cmp nat_cmp e e ≡ true
itself e = ap is_eq (tied_itself nat_cmp_total e)

module _ {X : Type 0} (es : List (ℕ × X)) (sorted : T (is_sorted nat_cmp es)) (i : ℕ) (d : ℕ × X) (lt : i < length es) where
  abbrev entry : ℕ × X
  entry = get_or es i d

  abbrev later : List (ℕ × X)
  later = drop (suc i) es

  pub new_entry : map.find nat_cmp entry.0 (take i es) ≡ None
  new_entry = not_passed entry.0 entry.1 (take i es) later (subst (λ l. T (is_sorted nat_cmp l)) (split_at es i d lt) sorted)

  -- what is found at the number of an entry is its value
  pub entry_found : map.find nat_cmp entry.0 es ≡ Some entry.1
  entry_found =
      ap (map.find nat_cmp entry.0) (split_at es i d lt)
      ∙ (find_append entry.0 (take i es) (entry ∷ later)
      ∙ (ap (λ o. or_else o (map.find nat_cmp entry.0 (entry ∷ later))) new_entry
      ∙ ap (λ b. cond b (Some entry.1) (map.find nat_cmp entry.0 later)) (itself entry.0)))

-- an entry more in a list that has those before it
pub listed_more : (es : List (ℕ × Location)) (i : ℕ) (d : ℕ × Location) (l now : Locations) → T (is_sorted nat_cmp es) → i < length es →
    now ≡ map.insert l (get_or es i d).0 (get_or es i d).1 → ((q : ℕ) → map.get l q ≡ map.find nat_cmp q (take i es)) → (q : ℕ) →
    map.get now q ≡ map.find nat_cmp q (take (i + 1) es)
listed_more es i d l now sorted lt put so_far q =
    let y = get_or es i d in
    ap (λ m. map.get m q) put
    ∙ (map.get-insert nat_cmp_total l y.0 y.1 q
    ∙ (ap (cond (eq_by_cmp nat_cmp q y.0) (Some y.1)) (so_far q)
    ∙ sym (ap (map.find nat_cmp q) (take_more es i d lt)
    ∙ find-append nat_cmp nat_cmp_total (take i es) y.0 y.1 q (new_entry es sorted i d lt))))

pub all_listed : (es : List (ℕ × Location)) (l : Locations) → T (is_sorted nat_cmp es) → ((q : ℕ) → map.get l q ≡ map.find nat_cmp q es) →
    l ≡ map.from_sorted es
all_listed es l sorted are =
    map.same_map nat_cmp_total map.nat_cmp-IsAntisymmetric l (map.from_sorted es)
    (λ q. are q ∙ sym (map.get-from_sorted nat_cmp es q sorted))

-- what such a list is kept for
pub kept_noted : (list : Option Locations) (out : Option ℕ) (es : List (ℕ × Location)) (location : ℕ → Option Location) →
    T (is_sorted nat_cmp es) →
    list ≡ Some (map.from_sorted es) → out ≡ None → ((q : ℕ) → map.find nat_cmp q es ≡ location q) → AreListed list out location
kept_noted list out es location sorted is none are =
    subst (λ l. AreListed l out location) (sym is) (λ q not. map.get-from_sorted nat_cmp es q sorted ∙ are q)

-- ---- the locations of entries, by their numbers

module _ {X : Type 0} (f : X → Location) (es : List (ℕ × X)) (sorted : T (is_sorted nat_cmp es)) (ns : List ℕ) (are : ns ≡ keys_of es)
    (i : ℕ) where
  abbrev number : ℕ
  number = get_or ns i 0

  abbrev located : List (ℕ × X) → List (ℕ × Location)
  located xs = each (λ x. (x.0, f x.1)) xs

  module _ (lt : i < length ns) where
    in_keys : i < length (keys_of es)
    in_keys = subst (λ l. i < length l) are lt

    in_entries : i < length es
    in_entries = subst (λ n. i < n) (length-map es (λ e. e.0)) in_keys

    -- each of the numbers has an entry
    pub never_missing : None ≡ map.find nat_cmp number es → ⊥
    never_missing none =
        let any : list_any (eq_by_cmp nat_cmp number) ns ≡ true = list_any_at (eq_by_cmp nat_cmp number) ns i 0 lt (itself number) in
        let there : is_some (map.find nat_cmp number es) ≡ true =
        is_some-find nat_cmp number es ∙ (ap (list_any (eq_by_cmp nat_cmp number)) (sym are) ∙ any) in
        let missing = ap is_some none in
        cc

    pub located_more : (x : X) (old new : List (ℕ × Location)) → Some x ≡ map.find nat_cmp number es → old ≡ located (take i es) →
        new ≡ old ++ (number, f x) ∷ [] → new ≡ located (take (i + 1) es)
    located_more x old new found so_far more =
        let d : ℕ × X = (0, x) in
        let key : number ≡ (get_or es i d).0 = ap (λ l. get_or l i 0) are ∙ get_or-map (λ e. e.0) es i d 0 in_entries in
        let value : Some x ≡ Some (get_or es i d).1 = found ∙ (ap (λ n. map.find nat_cmp n es) key ∙ entry_found es sorted i d in_entries)
        in
        let inner : x ≡ (get_or es i d).1 = cc in
        more
        ∙ (ap (λ l. l ++ (number, f x) ∷ []) so_far
        ∙ ((λ j. located (take i es) ++ (key j, f (inner j)) ∷ [])
        ∙ sym (ap located (take_more es i d in_entries) ∙ map-append (λ x. (x.0, f x.1)) (take i es) (get_or es i d ∷ []))))

  pub all_located : (old : List (ℕ × Location)) → length ns ≤ i → old ≡ located (take i es) → old ≡ located es
  all_located old end so_far =
      so_far ∙ ap located (take_all i es (subst (λ n. n ≤ i) (ap length are ∙ length-map es (λ e. e.0)) end))

-- ---- the locations of all reals, and of all copies

pub find_real : (m : Map RealView) (e : ℕ) → map.get m e ≡ map.find nat_cmp e (map.entries m)
find_real m e = map.get-entries m e

pub find_copy : (m : Map (Ghost GhostCopy)) (e : ℕ) → copy_in (map.get m e) ≡ map.find nat_cmp e (copied (map.entries m))
find_copy m e = ap copy_in (map.get-entries m e) ∙ sym (find_copied e (map.entries m) (map.entries_sorted m))

pub real_list : (m : Map RealView) (q : ℕ) → map.find nat_cmp q (located_reals m) ≡ real_locations m q
real_list m q = find_mapped (λ e. location_of_real) q (map.entries m) ∙ ap (option_map location_of_real) (sym (find_real m q))

pub reals_rise : (m : Map RealView) → T (is_sorted nat_cmp (located_reals m))
reals_rise m = sorted_mapped (λ e. location_of_real) (map.entries m) (map.entries_sorted m)

pub copy_list : (m : Map (Ghost GhostCopy)) (q : ℕ) → map.find nat_cmp q (located_copies m) ≡ copy_locations m q
copy_list m q =
    find_mapped (λ e. location_of_copy) q (copied (map.entries m)) ∙ ap (option_map location_of_copy) (sym (find_copy m q))

pub copied_rise : (m : Map (Ghost GhostCopy)) → T (is_sorted nat_cmp (copied (map.entries m)))
copied_rise m = copies_rise (map.entries m) (map.entries_sorted m)

pub copies_list_rise : (m : Map (Ghost GhostCopy)) → T (is_sorted nat_cmp (located_copies m))
copies_list_rise m = sorted_mapped (λ e. location_of_copy) (copied (map.entries m)) (copied_rise m)
