-- Queues of entities: where the first that waits is, and what waits after one was taken out.
use Rattle.std.proofs.Common.{◌≡◌, ◌≢◌, ◌<◌, ◌≤◌, ◌+◌, ℕ, zero, suc, Bool, true, false, cond, not, List, [], ◌∷◌, length, filter}
use Rattle.std.proofs.Common.{eqb, Some, is_some, get_or, refl, sym, ap, subst, ◌∙◌, arith}
use Rattle.std.proofs.Math.ListN.{set}
use Rattle.std.proofs.Math.Seq.{map-set_same}
use Rattle.std.specs.List.{AllByRecursion, AllWithin, insert}
use Rattle.std.specs.List.Sorted.{IsNonDecreasingBy, IsStrictlySortedBy}
use Rattle.std.specs.Ordering.{nat_cmp, match_ordering}
use Rattle.std.specs.Cmp.{nat_cmp_total, tied_itself}
use Rattle.std.specs.declared.cmp.Ordering.TheVariants.{Less, Greater}
use Rattle.std.proofs.lemmas.Bool.Decides.{nat_tests}
use Rattle.std.proofs.lemmas.Map.Keys.{sorted_head, sorted_tail}
use Rattle.seam_node_steps.specs.Prelude.{with_entity, without, has_any}
use Rattle.seam_cell_parts.specs.declared.entity_queue.Entry.{Entry}
use Rattle.seam_cell_parts.specs.Sets.{first_of}
use Rattle.seam_cell_parts.specs.Queues.{entities, waiting, passed, IsQueue}
use Rattle.seam_cell_parts.proofs.SetLemmas.{first_goes, none_goes, apart}

-- ---- the first that waits

pub passed_most : (ws : List Entry) → passed ws ≤ length ws
passed_most [] = omega arith
passed_most (w ∷ ws) = by (passed_most ws) w.waits
  where
    by : passed ws ≤ length ws → (b : Bool) → cond b 0 (passed ws + 1) ≤ suc (length ws)
    by more true = omega arith
    by more false = omega (arith, more)

-- one that does not wait is passed, where those before it are
pub passed_next : (ws : List Entry) (i : ℕ) (d : Entry) → i ≤ passed ws → i < length ws → (get_or ws i d).waits ≡ false → i + 1 ≤ passed ws
passed_next [] i d low lt gone = absurd (omega (arith, lt))
passed_next (w ∷ ws) zero d low lt gone = let is = ap (λ b. cond b 0 (passed ws + 1)) gone in omega (arith, is)
passed_next (w ∷ ws) (suc i) d low lt gone = by (λ l. passed_next ws i d l (omega (arith, lt)) gone) w.waits low
  where
    by : (i ≤ passed ws → i + 1 ≤ passed ws) → (b : Bool) → suc i ≤ cond b 0 (passed ws + 1) → suc i + 1 ≤ cond b 0 (passed ws + 1)
    by next true l = absurd (omega (arith, l))
    by next false l = let more = next (omega (arith, l)) in omega (arith, more)

-- one that waits is the first, where those before it are passed
pub passed_all : (ws : List Entry) (i : ℕ) (d : Entry) → i ≤ passed ws → i < length ws → (get_or ws i d).waits ≡ true → i ≡ passed ws
passed_all [] i d low lt waits = absurd (omega (arith, lt))
passed_all (w ∷ ws) zero d low lt waits = sym (ap (λ b. cond b 0 (passed ws + 1)) waits)
passed_all (w ∷ ws) (suc i) d low lt waits = by (λ l. passed_all ws i d l (omega (arith, lt)) waits) w.waits low
  where
    by : (i ≤ passed ws → i ≡ passed ws) → (b : Bool) → suc i ≤ cond b 0 (passed ws + 1) → suc i ≡ cond b 0 (passed ws + 1)
    by next true l = absurd (omega (arith, l))
    by next false l = let more = next (omega (arith, l)) in omega (arith, more)

pub none_waits : (ws : List Entry) → length ws ≤ passed ws → waiting ws ≡ []
none_waits [] all = refl
none_waits (w ∷ ws) all = by (none_waits ws) w.waits all
  where
    by : (length ws ≤ passed ws → waiting ws ≡ []) → (b : Bool) → suc (length ws) ≤ cond b 0 (passed ws + 1) →
        entities (cond b (w ∷ filter (λ v. v.waits) ws) (filter (λ v. v.waits) ws)) ≡ []
    by none true l = absurd (omega (arith, l))
    by none false l = none (omega (arith, l))

-- the first that waits, taken out
pub first_taken : (ws : List Entry) (i : ℕ) (d x : Entry) → i ≡ passed ws → i < length ws → x.waits ≡ false →
    waiting ws ≡ (get_or ws i d).entity ∷ waiting (set ws i x)
first_taken [] i d x at lt gone = absurd (omega (arith, lt))
first_taken (w ∷ ws) zero d x at lt gone = by w.waits at
  where
    by : (b : Bool) → zero ≡ cond b 0 (passed ws + 1) →
        entities (cond b (w ∷ filter (λ v. v.waits) ws) (filter (λ v. v.waits) ws)) ≡ w.entity ∷ waiting (x ∷ ws)
    by true a = ap (λ c. w.entity ∷ entities (cond c (x ∷ filter (λ v. v.waits) ws) (filter (λ v. v.waits) ws))) (sym gone)
    by false a = absurd (omega (arith, a))
first_taken (w ∷ ws) (suc i) d x at lt gone = by (λ a. first_taken ws i d x a (omega (arith, lt)) gone) w.waits at
  where
    by : (i ≡ passed ws → waiting ws ≡ (get_or ws i d).entity ∷ waiting (set ws i x)) → (b : Bool) → suc i ≡ cond b 0 (passed ws + 1) →
        entities (cond b (w ∷ filter (λ v. v.waits) ws) (filter (λ v. v.waits) ws))
        ≡ (get_or ws i d).entity ∷ entities (cond b (w ∷ filter (λ v. v.waits) (set ws i x)) (filter (λ v. v.waits) (set ws i x)))
    by next true a = absurd (omega (arith, a))
    by next false a = next (omega (arith, a))

pub first_is : (ws : List Entry) (i : ℕ) (d : Entry) → i ≡ passed ws → i < length ws → Some (get_or ws i d).entity ≡ first_of (waiting ws)
first_is ws i d at lt = sym (ap first_of (first_taken ws i d (record { entity = 0; waits = false }) at lt refl))

pub none_is : (xs : List ℕ) (b : Bool) → is_some (first_of xs) ≡ not b → b ≡ not (has_any xs)
none_is [] true h = refl
none_is [] false h = cc
none_is (x ∷ xs) true h = cc
none_is (x ∷ xs) false h = refl

-- ---- a row in which all wait

pub all_wait : (ws : List Entry) → AllByRecursion (λ w. w.waits ≡ true) ws → waiting ws ≡ entities ws
all_wait [] h = refl
all_wait (w ∷ ws) h =
    ap (λ b. entities (cond b (w ∷ filter (λ v. v.waits) ws) (filter (λ v. v.waits) ws))) h.0 ∙ ap (λ l. w.entity ∷ l) (all_wait ws h.1)

pub none_passed : (ws : List Entry) → AllByRecursion (λ w. w.waits ≡ true) ws → 0 ≡ passed ws
none_passed [] h = refl
none_passed (w ∷ ws) h = sym (ap (λ b. cond b 0 (passed ws + 1)) h.0)

-- ---- an entity taken out

less : (x y : ℕ) → nat_cmp x y ≡ Less → x < y
less x y e = grind (arith, nat_tests)

at_above : (x : ℕ) (ws : List Entry) (k : ℕ) (d : Entry) → AllByRecursion (λ y. nat_cmp x y ≡ Less) (entities ws) → k < length ws →
    x < (get_or ws k d).entity
at_above x [] k d h lt = absurd (omega (arith, lt))
at_above x (w ∷ ws) zero d h lt = less x w.entity h.0
at_above x (w ∷ ws) (suc k) d h lt = at_above x ws k d h.1 (omega (arith, lt))

pub rising_when_sorted : (ws : List Entry) → IsStrictlySortedBy nat_cmp (entities ws) → IsNonDecreasingBy (λ w. w.entity) ws
rising_when_sorted [] o i j d le lt = absurd (omega (arith, lt))
rising_when_sorted (w ∷ ws) o zero zero d le lt = omega arith
rising_when_sorted (w ∷ ws) o zero (suc j) d le lt =
    let h = at_above w.entity ws j d (sorted_head nat_cmp w.entity (entities ws) o) (omega (arith, lt)) in
    omega (arith, h)
rising_when_sorted (w ∷ ws) o (suc i) zero d le lt = absurd (omega (arith, le))
rising_when_sorted (w ∷ ws) o (suc i) (suc j) d le lt =
    rising_when_sorted ws (sorted_tail nat_cmp w.entity (entities ws) o) i j d (omega (arith, le)) (omega (arith, lt))

all_waiting : (P : ℕ → Type 0) (ws : List Entry) → AllByRecursion P (entities ws) → AllByRecursion P (waiting ws)
all_waiting P [] h = tt
all_waiting P (w ∷ ws) h = by (all_waiting P ws h.1) w.waits
  where
    by : AllByRecursion P (waiting ws) → (b : Bool) →
        AllByRecursion P (entities (cond b (w ∷ filter (λ v. v.waits) ws) (filter (λ v. v.waits) ws)))
    by all true = (h.0, all)
    by all false = all

all_greater : (e x : ℕ) (ys : List ℕ) → e < x → AllByRecursion (λ y. nat_cmp x y ≡ Less) ys → AllByRecursion (λ y. nat_cmp e y ≡ Less) ys
all_greater e x [] lt h = tt
all_greater e x (y ∷ ys) lt h = (let l = h.0 in grind (arith, nat_tests, lt, l), all_greater e x ys lt h.1)

-- an entity with another number stays
stays : (e : ℕ) (w : Entry) (vs ws : List Entry) → w.entity ≢ e → waiting vs ≡ without e (waiting ws) →
    waiting (w ∷ vs) ≡ without e (waiting (w ∷ ws))
stays e w vs ws other same = by w.waits
  where
    by : (b : Bool) → entities (cond b (w ∷ filter (λ v. v.waits) vs) (filter (λ v. v.waits) vs))
        ≡ without e (entities (cond b (w ∷ filter (λ v. v.waits) ws) (filter (λ v. v.waits) ws)))
    by true =
        ap (λ l. w.entity ∷ l) same
        ∙ sym (ap (λ b. cond (not b) (w.entity ∷ without e (waiting ws)) (without e (waiting ws))) (apart e w.entity other))
    by false = same

pub taken_out : (e : ℕ) (ws : List Entry) (i : ℕ) (d x : Entry) → IsStrictlySortedBy nat_cmp (entities ws) → i < length ws →
    (get_or ws i d).entity ≡ e → x.waits ≡ false → waiting (set ws i x) ≡ without e (waiting ws)
taken_out e [] i d x o lt same gone = absurd (omega (arith, lt))
taken_out e (w ∷ ws) zero d x o lt same gone =
    ap (λ b. entities (cond b (x ∷ filter (λ v. v.waits) ws) (filter (λ v. v.waits) ws))) gone ∙ by w.waits
  where
    above : AllByRecursion (λ y. nat_cmp e y ≡ Less) (waiting ws)
    above = all_waiting _ ws (subst (λ q. AllByRecursion (λ y. nat_cmp q y ≡ Less) (entities ws)) same
        (sorted_head nat_cmp w.entity (entities ws) o))

    by : (b : Bool) → waiting ws ≡ without e (entities (cond b (w ∷ filter (λ v. v.waits) ws) (filter (λ v. v.waits) ws)))
    by true = sym (ap (λ q. without e (q ∷ waiting ws)) same ∙ first_goes e (waiting ws) above)
    by false = sym (none_goes e (waiting ws) above)
taken_out e (w ∷ ws) (suc i) d x o lt same gone =
    let high = at_above w.entity ws i d (sorted_head nat_cmp w.entity (entities ws) o) (omega (arith, lt)) in
    stays e w (set ws i x) ws (λ q. omega (arith, q, high, same))
    (taken_out e ws i d x (sorted_tail nat_cmp w.entity (entities ws) o) (omega (arith, lt)) same gone)

-- nothing goes where the entity is not at its place
pub none_out : (e : ℕ) (ws : List Entry) (at : ℕ) → IsStrictlySortedBy nat_cmp (entities ws) → AllWithin (λ w. w.entity < e) ws 0 at →
    AllWithin (λ w. e ≤ w.entity) ws at (length ws) → ((d : Entry) → at < length ws → (get_or ws at d).entity ≢ e) →
    waiting ws ≡ without e (waiting ws)
none_out e [] at o b a other = refl
none_out e (w ∷ ws) zero o b a other =
    let least = a 0 w (omega arith) (omega arith) in
    let not = other w (omega arith) in
    let lt : e < w.entity = grind (arith, nat_tests, least, not) in
    let here : nat_cmp e w.entity ≡ Less = grind (arith, nat_tests, lt) in
    sym (none_goes e (waiting (w ∷ ws)) (all_waiting _ (w ∷ ws)
    (here, all_greater e w.entity (entities ws) lt (sorted_head nat_cmp w.entity (entities ws) o))))
none_out e (w ∷ ws) (suc at) o b a other =
    let low = b 0 w (omega arith) (omega arith) in
    stays e w ws ws (λ q. omega (arith, q, low))
    (none_out e ws at (sorted_tail nat_cmp w.entity (entities ws) o) (λ k d l h. b (suc k) d (omega arith) (omega (arith, h)))
    (λ k d l h. a (suc k) d (omega (arith, l)) (omega (arith, h))) (λ d lt. other d (omega (arith, lt))))

-- nothing goes where the first that waits comes later
pub later_out : (e : ℕ) (ws : List Entry) (i : ℕ) (d : Entry) → IsStrictlySortedBy nat_cmp (entities ws) → i ≡ passed ws →
    i < length ws → e < (get_or ws i d).entity → waiting ws ≡ without e (waiting ws)
later_out e [] i d o at lt later = refl
later_out e (w ∷ ws) zero d o at lt later =
    let here : nat_cmp e w.entity ≡ Less = grind (arith, nat_tests, later) in
    sym (none_goes e (waiting (w ∷ ws)) (all_waiting _ (w ∷ ws)
    (here, all_greater e w.entity (entities ws) later (sorted_head nat_cmp w.entity (entities ws) o))))
later_out e (w ∷ ws) (suc i) d o at lt later =
    by (λ a. later_out e ws i d (sorted_tail nat_cmp w.entity (entities ws) o) a (omega (arith, lt)) later) w.waits at
  where
    by : (i ≡ passed ws → waiting ws ≡ without e (waiting ws)) → (b : Bool) → suc i ≡ cond b 0 (passed ws + 1) →
        entities (cond b (w ∷ filter (λ v. v.waits) ws) (filter (λ v. v.waits) ws))
        ≡ without e (entities (cond b (w ∷ filter (λ v. v.waits) ws) (filter (λ v. v.waits) ws)))
    by rest true a = absurd (omega (arith, a))
    by rest false a = rest (omega (arith, a))

-- ---- the queue after that

pub passed_more : (ws : List Entry) (i : ℕ) (x : Entry) → x.waits ≡ false → passed ws ≤ passed (set ws i x)
passed_more [] i x gone = omega arith
passed_more (w ∷ ws) zero x gone = let is = ap (λ b. cond b 0 (passed ws + 1)) gone in by w.waits is
  where
    by : (b : Bool) → passed (x ∷ ws) ≡ passed ws + 1 → cond b 0 (passed ws + 1) ≤ passed (x ∷ ws)
    by true is = omega arith
    by false is = omega (arith, is)
passed_more (w ∷ ws) (suc i) x gone = by (passed_more ws i x gone) w.waits
  where
    by : passed ws ≤ passed (set ws i x) → (b : Bool) → cond b 0 (passed ws + 1) ≤ cond b 0 (passed (set ws i x) + 1)
    by more true = omega arith
    by more false = omega (arith, more)

pub queue_still : (ws : List Entry) (i place : ℕ) (d x : Entry) → IsStrictlySortedBy nat_cmp (entities ws) →
    x.entity ≡ (get_or ws i d).entity → place ≡ passed (set ws i x) → IsQueue place (set ws i x)
queue_still ws i place d x o same at = record {
  rising = subst (IsStrictlySortedBy nat_cmp) (sym (map-set_same (λ w. w.entity) ws i x d same)) o;
  first = at;
}

pub no_queue : IsQueue 0 []
unfolding IsStrictlySortedBy
no_queue = record { rising = tt; first = refl }

-- ---- an entity put in

pub same_entity : (a b : ℕ) → eqb a b ≡ true → a ≡ b
same_entity a b t = grind (arith, nat_tests, t)

greater : (e x : ℕ) → x < e → nat_cmp e x ≡ Greater
greater e x lt = grind (arith, nat_tests, lt)

-- in front of all that are greater
first_put : (e : ℕ) (xs : List ℕ) → AllByRecursion (λ y. nat_cmp e y ≡ Less) xs → with_entity e xs ≡ e ∷ xs
first_put e [] h = refl
first_put e (x ∷ xs) h = ap (λ r. match_ordering r (e ∷ x ∷ xs) (x ∷ xs) (x ∷ with_entity e xs)) h.0

-- behind a lesser one
later_put : (e x : ℕ) (xs : List ℕ) → x < e → with_entity e (x ∷ xs) ≡ x ∷ with_entity e xs
later_put e x xs lt = ap (λ r. match_ordering r (e ∷ x ∷ xs) (x ∷ xs) (x ∷ with_entity e xs)) (greater e x lt)

-- where it is already
same_put : (e : ℕ) (xs : List ℕ) → with_entity e (e ∷ xs) ≡ e ∷ xs
same_put e xs = ap (λ r. match_ordering r (e ∷ e ∷ xs) (e ∷ xs) (e ∷ with_entity e xs)) (tied_itself nat_cmp_total e)

puts_later : (e : ℕ) (w : Entry) (vs ws : List Entry) → w.entity < e → waiting vs ≡ with_entity e (waiting ws) →
    waiting (w ∷ vs) ≡ with_entity e (waiting (w ∷ ws))
puts_later e w vs ws lt same = by w.waits
  where
    by : (b : Bool) → entities (cond b (w ∷ filter (λ v. v.waits) vs) (filter (λ v. v.waits) vs))
        ≡ with_entity e (entities (cond b (w ∷ filter (λ v. v.waits) ws) (filter (λ v. v.waits) ws)))
    by true = ap (λ l. w.entity ∷ l) same ∙ sym (later_put e w.entity (waiting ws) lt)
    by false = same

-- an entry that waits comes first
waits_first : (e : ℕ) (x : Entry) (ws : List Entry) → x.entity ≡ e → x.waits ≡ true → waiting (x ∷ ws) ≡ e ∷ waiting ws
waits_first e x ws is waits =
    ap (λ b. entities (cond b (x ∷ filter (λ v. v.waits) ws) (filter (λ v. v.waits) ws))) waits ∙ ap (λ q. q ∷ waiting ws) is

-- all entries from w on are of greater entities
all_above : (e : ℕ) (w : Entry) (ws : List Entry) → e < w.entity → IsStrictlySortedBy nat_cmp (entities (w ∷ ws)) →
    AllByRecursion (λ y. nat_cmp e y ≡ Less) (entities (w ∷ ws))
all_above e w ws lt o =
    (grind (arith, nat_tests, lt), all_greater e w.entity (entities ws) lt (sorted_head nat_cmp w.entity (entities ws) o))

-- what comes at its place is of a greater entity
next_above : (e : ℕ) (w : Entry) (ws : List Entry) → AllWithin (λ w. e ≤ w.entity) (w ∷ ws) 0 (length (w ∷ ws)) →
    ((d : Entry) → 0 < length (w ∷ ws) → (get_or (w ∷ ws) 0 d).entity ≢ e) → e < w.entity
next_above e w ws a other =
    let least = a 0 w (omega arith) (omega arith) in
    let not = other w (omega arith) in
    grind (arith, nat_tests, least, not)

pub put_in : (e : ℕ) (ws : List Entry) (at : ℕ) (x : Entry) → x.entity ≡ e → x.waits ≡ true → IsStrictlySortedBy nat_cmp (entities ws) →
    at ≤ length ws → AllWithin (λ w. w.entity < e) ws 0 at → AllWithin (λ w. e ≤ w.entity) ws at (length ws) →
    ((d : Entry) → at < length ws → (get_or ws at d).entity ≢ e) → waiting (insert ws at x) ≡ with_entity e (waiting ws)
put_in e [] zero x is waits o le b a other = waits_first e x [] is waits
put_in e [] (suc at) x is waits o le b a other = absurd (omega (arith, le))
put_in e (w ∷ ws) zero x is waits o le b a other =
    waits_first e x (w ∷ ws) is waits
    ∙ sym (first_put e (waiting (w ∷ ws)) (all_waiting _ (w ∷ ws) (all_above e w ws (next_above e w ws a other) o)))
put_in e (w ∷ ws) (suc at) x is waits o le b a other =
    puts_later e w (insert ws at x) ws (b 0 w (omega arith) (omega arith))
    (put_in e ws at x is waits (sorted_tail nat_cmp w.entity (entities ws) o) (omega (arith, le))
    (λ k d l h. b (suc k) d (omega arith) (omega (arith, h))) (λ k d l h. a (suc k) d (omega (arith, l)) (omega (arith, h)))
    (λ d lt. other d (omega (arith, lt))))

-- where the entity has an entry
pub marked_in : (e : ℕ) (ws : List Entry) (at : ℕ) (x : Entry) → x.entity ≡ e → x.waits ≡ true →
    IsStrictlySortedBy nat_cmp (entities ws) → at < length ws → ((d : Entry) → (get_or ws at d).entity ≡ e) →
    waiting (set ws at x) ≡ with_entity e (waiting ws)
marked_in e [] at x is waits o lt same = absurd (omega (arith, lt))
marked_in e (w ∷ ws) zero x is waits o lt same = waits_first e x ws is waits ∙ by w.waits
  where
    above : AllByRecursion (λ y. nat_cmp e y ≡ Less) (waiting ws)
    above = all_waiting _ ws (subst (λ q. AllByRecursion (λ y. nat_cmp q y ≡ Less) (entities ws)) (same w)
        (sorted_head nat_cmp w.entity (entities ws) o))

    by : (b : Bool) → e ∷ waiting ws ≡ with_entity e (entities (cond b (w ∷ filter (λ v. v.waits) ws) (filter (λ v. v.waits) ws)))
    by true = sym (ap (λ q. with_entity e (q ∷ waiting ws)) (same w) ∙ same_put e (waiting ws))
    by false = sym (first_put e (waiting ws) above)
marked_in e (w ∷ ws) (suc at) x is waits o lt same =
    let high = at_above w.entity ws at w (sorted_head nat_cmp w.entity (entities ws) o) (omega (arith, lt)) in
    puts_later e w (set ws at x) ws (subst (λ q. w.entity < q) (same w) high)
    (marked_in e ws at x is waits (sorted_tail nat_cmp w.entity (entities ws) o) (omega (arith, lt)) same)

all_in : (P : ℕ → Type 0) (ws : List Entry) (at : ℕ) (x : Entry) → P x.entity → AllByRecursion P (entities ws) →
    AllByRecursion P (entities (insert ws at x))
all_in P [] zero x p all = (p, tt)
all_in P [] (suc at) x p all = (p, tt)
all_in P (w ∷ ws) zero x p all = (p, all)
all_in P (w ∷ ws) (suc at) x p all = (all.0, all_in P ws at x p all.1)

-- the entries stay in rising order
pub rising_in : (e : ℕ) (ws : List Entry) (at : ℕ) (x : Entry) → x.entity ≡ e → IsStrictlySortedBy nat_cmp (entities ws) →
    at ≤ length ws → AllWithin (λ w. w.entity < e) ws 0 at → AllWithin (λ w. e ≤ w.entity) ws at (length ws) →
    ((d : Entry) → at < length ws → (get_or ws at d).entity ≢ e) → IsStrictlySortedBy nat_cmp (entities (insert ws at x))
unfolding IsStrictlySortedBy
rising_in e [] zero x is o le b a other = (tt, tt)
rising_in e [] (suc at) x is o le b a other = absurd (omega (arith, le))
rising_in e (w ∷ ws) zero x is o le b a other = (
  subst (λ q. AllByRecursion (λ y. nat_cmp q y ≡ Less) (entities (w ∷ ws))) (sym is)
      (all_above e w ws (next_above e w ws a other) o),
  o,
)
rising_in e (w ∷ ws) (suc at) x is o le b a other =
    let low = b 0 w (omega arith) (omega arith) in
    let less : nat_cmp w.entity x.entity ≡ Less = grind (arith, nat_tests, low, is) in (
      all_in (λ y. nat_cmp w.entity y ≡ Less) ws at x less (sorted_head nat_cmp w.entity (entities ws) o),
      rising_in e ws at x is (sorted_tail nat_cmp w.entity (entities ws) o) (omega (arith, le))
          (λ k d l h. b (suc k) d (omega arith) (omega (arith, h))) (λ k d l h. a (suc k) d (omega (arith, l)) (omega (arith, h)))
          (λ d lt. other d (omega (arith, lt))),
    )

-- so they do where the entity has an entry
pub rising_marked : (e : ℕ) (ws : List Entry) (at : ℕ) (x : Entry) → x.entity ≡ e → ((d : Entry) → (get_or ws at d).entity ≡ e) →
    IsStrictlySortedBy nat_cmp (entities ws) → IsStrictlySortedBy nat_cmp (entities (set ws at x))
rising_marked e ws at x is same o =
    subst (IsStrictlySortedBy nat_cmp) (sym (map-set_same (λ w. w.entity) ws at x x (is ∙ sym (same x)))) o
