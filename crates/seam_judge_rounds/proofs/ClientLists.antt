-- The clients of a round.
use Rattle.std.proofs.Common.{◌≡◌, ◌⊎◌, ◌<◌, ℕ, Bool, true, false, cond, not, List, [], ◌∷◌, length, get_or, Option, None, Some}
use Rattle.std.proofs.Common.{refl, sym, ap, ◌∙◌, subst, arith, inl, inr, IsTrue, ◌↔◌}
use Rattle.std.specs.Prelude.{filter, ◌==◌, ◌&&◌, is_some, Contains}
use Rattle.std.specs.List.{All, list_any}
use Rattle.std.proofs.lemmas.List.{get_or_default}
use Rattle.std.proofs.lemmas.List.Elements.{All-contains}
use Rattle.seam_rule_rounds.specs.Prelude.{Create, Book, entries, creates_of, created_as, joins, was_dead, is_shown, Lists, ClientLine}
use Rattle.seam_rule_lines.proofs.Lists.{contains_first}
use Rattle.seam_rule_lines.proofs.InOrderLemmas.{found_entity}
use Rattle.seam_judge_expected.proofs.ListedLemmas.{lists_living, in_filter}
use Rattle.seam_judge_rounds.specs.RoundClients.{client_as, is_known}
use Rattle.seam_judge_rounds.proofs.Grouping.{kept_alike}

flipped : (x : Bool) (o : Option Create) → cond (not x) None o ≡ cond x o None
flipped true o = refl
flipped false o = refl

twice : (x : Bool) → not (not x) ≡ x
twice true = refl
twice false = refl

pub lists_shown : (b : Book) (made : List Create) → Lists (created_as b) made → Lists (client_as b) (filter (λ c. is_shown b c.entity) made)
lists_shown b made listed =
    subst (λ (p : (ℕ → Option Create) × (ℕ → Bool)). Lists p.0 (filter (λ (c : Create). p.1 c.entity) made))
    (λ i. ((λ e. flipped (is_shown b e) (created_as b e) i), (λ e. twice (is_shown b e) i)))
    (lists_living (created_as b) (λ (e : ℕ). not (is_shown b e)) made listed)

-- of those that were created
pub lists_known : (b : Book) (made : List Create) → Lists (created_as b) made → Lists (client_as b) (filter (λ c. is_known b c.entity) made)
lists_known b made listed =
    subst (Lists (client_as b)) (kept_alike (λ (c : Create). is_shown b c.entity) (λ (c : Create). is_known b c.entity)
    (λ (c : Create). is_some (created_as b c.entity) ≡ true) made
    (λ c some. ap (λ (x : Bool). x && list_any (joins c.entity) (entries b) && not (was_dead b c.entity)) some)
    (λ k d within. ap is_some ((listed.exact (get_or made k d)).0
    (k, within, get_or_default made k (get_or made k d) d within))))
    (lists_shown b made listed)

-- ---- what holds of each client

client_is : (x : Bool) (o : Option Create) (c : Create) → cond x o None ≡ Some c → (x ≡ true) × (o ≡ Some c)
client_is true o c is = (refl, is)
client_is false o c is = absurd (cc)

first_is : (x y : Bool) → (x && y) ≡ true → x ≡ true
first_is true y is = refl
first_is false y is = is

was_made : (b : Book) (e : ℕ) → is_shown b e ≡ true → (c : Create) × (created_as b e ≡ Some c)
was_made b e is =
    by (created_as b e) refl
    (first_is (is_some (created_as b e)) (list_any (joins e) (entries b))
    (first_is (is_some (created_as b e) && list_any (joins e) (entries b)) (not (was_dead b e)) is))
  where
    by : (o : Option Create) → created_as b e ≡ o → is_some (created_as b e) ≡ true → (c : Create) × (created_as b e ≡ Some c)
    by (Some c) at some = (c, at)
    by None at some = let no_ : false ≡ true = sym (ap is_some at) ∙ some in absurd (cc)

module _ (b : Book) (clients : List Create) (listed : Lists (client_as b) clients) where
  -- an element is a client
  at_place : (k : ℕ) (d : Create) → k < length clients → client_as b (get_or clients k d).entity ≡ Some (get_or clients k d)
  at_place k d within = (listed.exact (get_or clients k d)).0 (k, within, get_or_default clients k (get_or clients k d) d within)

  is_among : (c : Create) → created_as b c.entity ≡ Some c → is_shown b c.entity ≡ true → Contains clients c
  is_among c made shown =
      (listed.exact c).1 (ap (λ (x : Bool). cond x (created_as b c.entity) None) shown ∙ made)

  pub each_client : (P : Create → Type 0) →
      All P clients ↔ ((c : Create) → created_as b c.entity ≡ Some c → IsTrue (is_shown b c.entity) → P c)
  each_client P = (
    (λ all c made shown. All-contains P clients c all (is_among c made shown)),
    (λ each k d within.
        let two = client_is (is_shown b (get_or clients k d).entity) (created_as b (get_or clients k d).entity) (get_or clients k d)
        (at_place k d within) in
        each (get_or clients k d) two.1 two.0),
  )

  pub each_number : (Q : ℕ → Type 0) → All (λ (c : Create). Q c.entity) clients ↔ ((e : ℕ) → IsTrue (is_shown b e) → Q e)
  each_number Q = (
    (λ all e shown.
        let made = was_made b e shown in
        let entity : made.0.entity ≡ e = found_entity (creates_of (entries b)) e made.0 made.1 in
        subst Q entity
        ((each_client (λ (c : Create). Q c.entity)).0 all made.0 (ap (created_as b) entity ∙ made.1) (ap (is_shown b) entity ∙ shown))),
    (λ each k d within.
        let two = client_is (is_shown b (get_or clients k d).entity) (created_as b (get_or clients k d).entity) (get_or clients k d)
        (at_place k d within) in
        each (get_or clients k d).entity two.0),
  )

-- ---- what holds of each client with a line, and of one without

either : (lines : List ClientLine) (e : ℕ) →
    (filter (λ (l : ClientLine). l.entity == e) lines ≡ []) ⊎ ((l : ClientLine) × Contains lines l × (l.entity ≡ e))
either lines e = by (filter (λ (l : ClientLine). l.entity == e) lines) refl
  where
    by : (xs : List ClientLine) → filter (λ (l : ClientLine). l.entity == e) lines ≡ xs →
        (filter (λ (l : ClientLine). l.entity == e) lines ≡ []) ⊎ ((l : ClientLine) × Contains lines l × (l.entity ≡ e))
    by [] is = inl is
    by (x ∷ xs) is =
        let found = in_filter (λ (l : ClientLine). l.entity == e) lines x
        (subst (λ (ys : List ClientLine). Contains ys x) (sym is) (contains_first x xs)) in
        let same = found.1 in
        inr (x, found.0, grind (arith, same))

pub told_each : (Q : ℕ → Type 0) (one two three : List ClientLine) →
    ((e : ℕ) → filter (λ (l : ClientLine). l.entity == e) one ≡ [] → filter (λ (l : ClientLine). l.entity == e) two ≡ [] →
    filter (λ (l : ClientLine). l.entity == e) three ≡ [] → Q e) →
    All (λ (l : ClientLine). Q l.entity) one → All (λ (l : ClientLine). Q l.entity) two → All (λ (l : ClientLine). Q l.entity) three →
    (e : ℕ) → Q e
told_each Q one two three none of_one of_two of_three e = by (either one e) (either two e) (either three e)
  where
    There : List ClientLine → Type 0
    There lines = (filter (λ (l : ClientLine). l.entity == e) lines ≡ []) ⊎ ((l : ClientLine) × Contains lines l × (l.entity ≡ e))

    found : (lines : List ClientLine) → All (λ (l : ClientLine). Q l.entity) lines →
        (l : ClientLine) × Contains lines l × (l.entity ≡ e) → Q e
    found lines all (l, has, is) = subst Q is (All-contains (λ (x : ClientLine). Q x.entity) lines l all has)

    by : There one → There two → There three → Q e
    by (inr x) y z = found one of_one x
    by (inl x) (inr y) z = found two of_two y
    by (inl x) (inl y) (inr z) = found three of_three z
    by (inl x) (inl y) (inl z) = none e x y z
