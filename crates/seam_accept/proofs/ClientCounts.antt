-- How many live entities have a client.
use Rattle.std.proofs.Common.{◌≡◌, ◌≢◌, ◌+◌, ℕ, Bool, true, false, cond, List, [], ◌∷◌, ◌++◌, length, map, refl, sym, ◌∙◌, ap, subst, arith}
use Rattle.std.proofs.Common.{Some, None, append-nil, inl, inr}
use Rattle.std.specs.Prelude.{◌==◌, ◌&&◌, ◌||◌, find, eqb, is_some}
use Rattle.std.specs.List.{AllByRecursion, IsDistinct, list_any, count_by}
use Rattle.std.specs.Option.{option_or}
use Rattle.std.proofs.lemmas.List.Sums.{sum_by-append, sum_by-cons}
use Rattle.std.proofs.lemmas.Bool.Decides.{eqb_tells}
use Rattle.std.proofs.lemmas.Option.{none-some}
use Rattle.seam_call.specs.declared.create.Create.{Create}
use Rattle.seam_rule_lines.specs.Book.{Book, entries, creates_of, created_as, live_as, destroys, joins, has_client}
use Rattle.seam_rule_lines.specs.Book.{count_of_clients, with_entry}
use Rattle.seam_rule_lines.specs.declared.verdict.Entry.{Entry}
use Rattle.seam_rule_lines.specs.declared.verdict.Entry.TheVariants as entry
use Rattle.seam_rule_lines.proofs.BookEntries.{creates_with_entry, created_other, differ}
use Rattle.seam_accept.specs.Entities.{IsUnknown, ClientsRefine, is_in}
use Rattle.seam_accept.proofs.NamedEntities.{SetsNumber, no_client_there}
use Rattle.seam_accept.proofs.Books.{created_with, any_with, or_none, or_false}

-- one where it is so
abbrev bit : Bool → ℕ
bit b = cond b 1 0

count_cons : (f : ℕ → Bool) (x : Create) (xs : List Create) →
    count_by (λ c. f c.entity) (x ∷ xs) ≡ cond (f x.entity) 1 0 + count_by (λ c. f c.entity) xs
count_cons f x xs = sum_by-cons (λ (c : Create). cond (f c.entity) 1 0) x xs

-- as many have it where the tests agree on all numbers
pub same_count : (f g : ℕ → Bool) (xs : List Create) → ((e : ℕ) → f e ≡ g e) →
    count_by (λ c. f c.entity) xs ≡ count_by (λ c. g c.entity) xs
same_count f g xs agree = λ i. count_by (λ (c : Create). agree c.entity i) xs

-- and where they agree on all but a number that none has
others_count : (f g : ℕ → Bool) (e : ℕ) (xs : List Create) → ((d : ℕ) → d ≢ e → f d ≡ g d) →
    AllByRecursion (λ d. eqb e d ≡ false) (map (λ c. c.entity) xs) → count_by (λ c. f c.entity) xs ≡ count_by (λ c. g c.entity) xs
others_count f g e [] agree all = refl
others_count f g e (x ∷ xs) agree (apart, all) =
    let ne : x.entity ≢ e = λ is. grind (arith, apart, is) in
    let rest = others_count f g e xs agree all in
    let here = ap bit (agree x.entity ne) in
    let fs = count_cons f x xs in
    let gs = count_cons g x xs in
    omega (arith, rest, here, fs, gs)

-- Of tests that agree on all numbers but one, which one entity has, the counts differ by that entity.
pub one_more_or_less : (f g : ℕ → Bool) (e : ℕ) (xs : List Create) (made : Create) → ((d : ℕ) → d ≢ e → f d ≡ g d) →
    IsDistinct eqb (map (λ c. c.entity) xs) → find (λ c. c.entity == e) xs ≡ Some made →
    count_by (λ c. f c.entity) xs + cond (g e) 1 0 ≡ count_by (λ c. g c.entity) xs + cond (f e) 1 0
unfolding IsDistinct
one_more_or_less f g e [] made agree distinct found = absurd (none-some made found)
one_more_or_less f g e (x ∷ xs) made agree (apart, distinct) found = elim (eqb_tells x.entity e) [
  | inl is ↦ (let rest = others_count f g x.entity xs (λ d ne. agree d (λ s. ne (s ∙ sym is.1))) apart in
      let here_f = ap f is.1 in
      let here_g = ap g is.1 in
      let fs = ap bit here_f in
      let gs = ap bit here_g in
      let f_all = count_cons f x xs in
      let g_all = count_cons g x xs in
      omega (arith, rest, fs, gs, f_all, g_all))
  | inr differs ↦ (let rest = one_more_or_less f g e xs made agree distinct
      (sym (ap (λ (b : Bool). cond b (Some x) (find (λ (c : Create). c.entity == e) xs)) (differ x.entity e differs.1)) ∙ found) in
      let here = ap bit (agree x.entity differs.1) in
      let f_all = count_cons f x xs in
      let g_all = count_cons g x xs in
      omega (arith, rest, here, f_all, g_all))
]

-- ---- a further entry

-- who has a client stays where an entry is about neither its client nor its death
client_same : (b : Book) (x : Entry) (e : ℕ) → created_as (with_entry b x) e ≡ created_as b e → destroys e x ≡ false → joins e x ≡ false →
    has_client (with_entry b x) e ≡ has_client b e
client_same b x e made spared clientless =
    let dead = any_with (destroys e) b x ∙ ap (λ (y : Bool). list_any (destroys e) (entries b) || y) spared
    ∙ or_false (list_any (destroys e) (entries b)) in
    let client = any_with (joins e) b x ∙ ap (λ (y : Bool). list_any (joins e) (entries b) || y) clientless
    ∙ or_false (list_any (joins e) (entries b)) in
    λ i. is_some (cond (dead i) None (made i)) && client i

created_stays : (b : Book) (x : Entry) (e : ℕ) → creates_of (x ∷ []) ≡ [] → created_as (with_entry b x) e ≡ created_as b e
created_stays b x e none =
    created_with b x e ∙ ap (λ (cs : List Create). option_or (created_as b e) (find (λ (c : Create). c.entity == e) cs)) none
    ∙ or_none (created_as b e)

creates_stay : (b : Book) (x : Entry) → creates_of (x ∷ []) ≡ [] → creates_of (entries (with_entry b x)) ≡ creates_of (entries b)
creates_stay b x none =
    creates_with_entry b x ∙ ap (λ (cs : List Create). creates_of (entries b) ++ cs) none ∙ append-nil (creates_of (entries b))

-- an entry that is about no client and no death
count_stays : (b : Book) (x : Entry) → creates_of (x ∷ []) ≡ [] → ((e : ℕ) → destroys e x ≡ false) → ((e : ℕ) → joins e x ≡ false) →
    count_of_clients (with_entry b x) ≡ count_of_clients b
count_stays b x none spared clientless =
    ap (count_by (λ (c : Create). has_client (with_entry b x) c.entity)) (creates_stay b x none)
    ∙ same_count (has_client (with_entry b x)) (has_client b) (creates_of (entries b))
    (λ e. client_same b x e (created_stays b x e none) (spared e) (clientless e))

-- an entity that lives without a client is given one
one_more : (b : Book) (e : ℕ) (made : Create) → IsDistinct eqb (map (λ c. c.entity) (creates_of (entries b))) →
    created_as b e ≡ Some made → has_client b e ≡ false → has_client (with_entry b (entry.Joined e)) e ≡ true →
    count_of_clients (with_entry b (entry.Joined e)) ≡ count_of_clients b + 1
one_more b e made distinct is clientless joined =
    let x : Entry = entry.Joined e in
    let here = one_more_or_less (has_client b) (has_client (with_entry b x)) e (creates_of (entries b)) made
    (λ d ne. sym (client_same b x d (created_stays b x d refl) refl (differ e d (λ s. ne (sym s))))) distinct is in
    let before = ap bit clientless in
    let after = ap bit joined in
    let all = ap (count_by (λ (c : Create). has_client (with_entry b x) c.entity)) (creates_stay b x refl) in
    omega (arith, here, before, after, all)

-- a live entity dies, and with it its client
one_less : (b : Book) (e : ℕ) (made : Create) → IsDistinct eqb (map (λ c. c.entity) (creates_of (entries b))) →
    created_as b e ≡ Some made → has_client (with_entry b (entry.Destroyed e)) e ≡ false →
    count_of_clients b ≡ count_of_clients (with_entry b (entry.Destroyed e)) + cond (has_client b e) 1 0
one_less b e made distinct is dead =
    let x : Entry = entry.Destroyed e in
    let here = one_more_or_less (has_client b) (has_client (with_entry b x)) e (creates_of (entries b)) made
    (λ d ne. sym (client_same b x d (created_stays b x d refl) (differ e d (λ s. ne (sym s))) refl)) distinct is in
    let after = ap bit dead in
    let all = ap (count_by (λ (c : Create). has_client (with_entry b x) c.entity)) (creates_stay b x refl) in
    omega (arith, here, after, all)

-- a new entity has no client
module _ (b : Book) (c : Create) (unknown : IsUnknown b c.entity) where
  same_with_new : (e : ℕ) → has_client (with_entry b (entry.Created c)) e ≡ has_client b e
  same_with_new e = elim (eqb_tells c.entity e) [
    | inl is ↦ subst (λ (d : ℕ). has_client (with_entry b x) d ≡ has_client b d) is.1
        (ap (λ (y : Bool). is_some (live_as (with_entry b x) c.entity) && y) (joined_same ∙ unknown.unjoined)
        ∙ no_and (is_some (live_as (with_entry b x) c.entity)) ∙ sym (no_client_there b c.entity unknown))
    | inr ne ↦ client_same b x e (created_other b c e ne.1) refl refl
  ]
    where
      x : Entry
      x = entry.Created c

      joined_same : list_any (joins c.entity) (entries (with_entry b x)) ≡ list_any (joins c.entity) (entries b)
      joined_same = any_with (joins c.entity) b x ∙ or_false (list_any (joins c.entity) (entries b))

      no_and : (y : Bool) → (y && false) ≡ false
      no_and true = refl
      no_and false = refl

  count_with_new : count_of_clients (with_entry b (entry.Created c)) ≡ count_of_clients b
  count_with_new =
      ap (count_by (λ (d : Create). has_client (with_entry b x) d.entity)) (creates_with_entry b x)
      ∙ sum_by-append (λ (d : Create). cond (has_client (with_entry b x) d.entity) 1 0) (creates_of (entries b)) (c ∷ [])
      ∙ ap (λ (n : ℕ). count_by (λ (d : Create). has_client (with_entry b x) d.entity) (creates_of (entries b)) + (0 + n))
      (ap bit (same_with_new c.entity ∙ no_client_there b c.entity unknown))
      ∙ add_zero (count_by (λ (d : Create). has_client (with_entry b x) d.entity) (creates_of (entries b)))
      ∙ same_count (has_client (with_entry b x)) (has_client b) (creates_of (entries b)) same_with_new
    where
      x : Entry
      x = entry.Created c

      add_zero : (n : ℕ) → n + (0 + 0) ≡ n
      add_zero n = omega arith

-- ---- the clients that are kept

-- they stay where an entry makes no entity, and is about neither a client nor a death
pub clients_stay : (b : Book) (x : Entry) (clients : List ℕ) → ClientsRefine b clients → creates_of (x ∷ []) ≡ [] →
    ((e : ℕ) → destroys e x ≡ false) → ((e : ℕ) → joins e x ≡ false) → ClientsRefine (with_entry b x) clients
clients_stay b x clients was none spared clientless = record {
  count = was.count ∙ sym (count_stays b x none spared clientless);
  each = λ e. was.each e ∙ sym (client_same b x e (created_stays b x e none) (spared e) (clientless e));
}

pub clients_with_new : (b : Book) (c : Create) (clients : List ℕ) → ClientsRefine b clients → IsUnknown b c.entity →
    ClientsRefine (with_entry b (entry.Created c)) clients
clients_with_new b c clients was unknown = record {
  count = was.count ∙ sym (count_with_new b c unknown);
  each = λ e. was.each e ∙ sym (same_with_new b c unknown e);
}

-- they are those of the book after an entry about one entity
clients_set : (b : Book) (x : Entry) (e : ℕ) (is : Bool) (old new : List ℕ) → ClientsRefine b old → SetsNumber old new e is →
    length new ≡ count_of_clients (with_entry b x) → has_client (with_entry b x) e ≡ is →
    ((d : ℕ) → d ≢ e → has_client (with_entry b x) d ≡ has_client b d) → ClientsRefine (with_entry b x) new
clients_set b x e is old new was sets count here others = record {
  count = count;
  each = λ d. elim (eqb_tells e d) [
    | inl same ↦ subst (λ (n : ℕ). is_in new n ≡ has_client (with_entry b x) n) same.1 (sets.here ∙ sym here)
    | inr ne ↦ (let apart : d ≢ e = λ s. ne.1 (sym s) in sets.others d apart ∙ was.each d ∙ sym (others d apart))
  ];
}

pub clients_with_one : (b : Book) (e : ℕ) (made : Create) (old new : List ℕ) → ClientsRefine b old → SetsNumber old new e true →
    length new ≡ length old + 1 → IsDistinct eqb (map (λ c. c.entity) (creates_of (entries b))) → created_as b e ≡ Some made →
    has_client b e ≡ false → has_client (with_entry b (entry.Joined e)) e ≡ true → ClientsRefine (with_entry b (entry.Joined e)) new
clients_with_one b e made old new was sets count distinct is clientless joined =
    clients_set b (entry.Joined e) e true old new was sets
    (count ∙ ap (λ (n : ℕ). n + 1) was.count ∙ sym (one_more b e made distinct is clientless joined)) joined
    (λ d ne. client_same b (entry.Joined e) d (created_stays b (entry.Joined e) d refl) refl (differ e d (λ s. ne (sym s))))

pub clients_without_one : (b : Book) (e : ℕ) (made : Create) (old new : List ℕ) → ClientsRefine b old → SetsNumber old new e false →
    length new + cond (is_in old e) 1 0 ≡ length old → IsDistinct eqb (map (λ c. c.entity) (creates_of (entries b))) →
    created_as b e ≡ Some made → has_client (with_entry b (entry.Destroyed e)) e ≡ false →
    ClientsRefine (with_entry b (entry.Destroyed e)) new
clients_without_one b e made old new was sets count distinct is dead =
    let less = one_less b e made distinct is dead in
    let counted = was.count in
    let had = ap bit (was.each e) in
    clients_set b (entry.Destroyed e) e false old new was sets (omega (arith, count, less, counted, had)) dead
    (λ d ne. client_same b (entry.Destroyed e) d (created_stays b (entry.Destroyed e) d refl) (differ e d (λ s. ne (sym s))) refl)
