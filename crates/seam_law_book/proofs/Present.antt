-- Who is there in the open round, and what the book knows of it by then.
use Rattle.seam_law_book.proofs.Prelude.{◌≡◌, ℕ, Bool, true, false, cond, List, [], ◌∷◌, map, Option, Some, None, refl, sym, ap, ◌∙◌}
use Rattle.seam_law_book.proofs.Prelude.{append-nil, inl, inr, ◌⊎◌, eqb, find, ◌==◌, ◌||◌, ◌&&◌, is_some, AllByRecursion, list_any}
use Rattle.seam_law_book.proofs.Prelude.{filter_map, option_or, filter_map-append, none-some, Create, Book, entries, creates_of, created_as}
use Rattle.seam_law_book.proofs.Prelude.{live_as, destroys, joins, has_client, with_entry, Entry, as_begun, entity_of, made_among}
use Rattle.seam_law_book.proofs.Prelude.{IsPresent, joined, destroyed}
use Rattle.std.proofs.lemmas.List.Folds.{find-append, list_any-append}
use Rattle.seam_rule_rounds.specs.Prelude.{created}
use Rattle.seam_law_calls.proofs.Holds.{neither}
use Rattle.seam_rule_lines.specs.declared.verdict.Entry.TheVariants as entry

-- ---- options and tests

pub both_none : {X : Type 0} (o p : Option X) → option_or o p ≡ None → (o ≡ None) × (p ≡ None)
both_none None p h = (refl, h)
both_none (Some x) p h = absurd (let z = h in cc)

-- ---- the round and what was before it

module _ (b : Book) (e : ℕ) where
  pub any_split : (test : Entry → Bool) → list_any test (entries b) ≡ (list_any test b.past || list_any test b.current)
  any_split test = list_any-append test b.past b.current

  pub created_split : created_as b e ≡ option_or (made_among (creates_of b.past) e) (made_among (creates_of b.current) e)
  created_split =
      ap (find (λ (c : Create). c.entity == e)) (filter_map-append created b.past b.current)
      ∙ find-append (λ (c : Create). c.entity == e) (creates_of b.past) (creates_of b.current)

  pub created_begun : created_as (as_begun b) e ≡ made_among (creates_of b.past) e
  created_begun = ap (λ xs. made_among (creates_of xs) e) (append-nil b.past)

  pub any_begun : (test : Entry → Bool) → list_any test (entries (as_begun b)) ≡ list_any test b.past
  any_begun test = ap (list_any test) (append-nil b.past)

  live_begun : live_as (as_begun b) e ≡ cond (list_any (destroys e) b.past) None (made_among (creates_of b.past) e)
  live_begun = ap (λ xs. cond (list_any (destroys e) xs) None (made_among (creates_of xs) e)) (append-nil b.past)

  live_cases : (c : Create) (x y : Bool) (o p : Option Create) → cond (x || y) None (option_or o p) ≡ Some c →
      (cond x None o ≡ Some c) ⊎ (p ≡ Some c)
  live_cases c true y o p h = absurd (none-some c h)
  live_cases c false true o p h = absurd (none-some c h)
  live_cases c false false None p h = inr h
  live_cases c false false (Some d) p h = inl h

  -- a live entity is there
  pub live_is_present : (c : Create) → live_as b e ≡ Some c → IsPresent b e c
  live_is_present c lives =
      let is : cond (list_any (destroys e) b.past || list_any (destroys e) b.current) None
      (option_or (made_among (creates_of b.past) e) (made_among (creates_of b.current) e)) ≡ Some c =
      sym (ap (λ x. cond x None (created_as b e)) (any_split (destroys e))
      ∙ ap (cond (list_any (destroys e) b.past || list_any (destroys e) b.current) None) created_split) ∙ lives in
      by (live_cases c (list_any (destroys e) b.past) (list_any (destroys e) b.current) (made_among (creates_of b.past) e)
      (made_among (creates_of b.current) e) is)
    where
      by : (cond (list_any (destroys e) b.past) None (made_among (creates_of b.past) e) ≡ Some c)
          ⊎ (made_among (creates_of b.current) e ≡ Some c) → IsPresent b e c
      by (inl before) = inl (live_begun ∙ before)
      by (inr now) = inr now

  -- one that was not created before is not created in the round
  pub uncreated : created_as b e ≡ None → (created_as (as_begun b) e ≡ None) × (made_among (creates_of b.current) e ≡ None)
  uncreated none =
      let two = both_none (made_among (creates_of b.past) e) (made_among (creates_of b.current) e) (sym created_split ∙ none) in
      (created_begun ∙ two.0, two.1)

  undestroyed_by : (c : Create) (x : Bool) → cond x None (created_as b e) ≡ Some c → x ≡ false
  undestroyed_by c true h = absurd (none-some c h)
  undestroyed_by c false h = refl

  -- a live entity was not destroyed
  pub alive : (c : Create) → live_as b e ≡ Some c → list_any (destroys e) (entries b) ≡ false
  alive c lives = undestroyed_by c (list_any (destroys e) (entries b)) lives

  pub undestroyed : (c : Create) → live_as b e ≡ Some c → list_any (destroys e) b.current ≡ false
  undestroyed c lives =
      (neither (list_any (destroys e) b.past) (list_any (destroys e) b.current)
      (sym (any_split (destroys e)) ∙ alive c lives)).1

  unjoined_by : (c : Create) (x : Bool) → (is_some (Some c) && x) ≡ false → x ≡ false
  unjoined_by c x h = h

  -- one without a client was given none, before the round and in it
  pub unjoined : (c : Create) → live_as b e ≡ Some c → has_client b e ≡ false →
      (list_any (joins e) b.past ≡ false) × (list_any (joins e) b.current ≡ false)
  unjoined c lives clientless =
      neither (list_any (joins e) b.past) (list_any (joins e) b.current)
      (sym (any_split (joins e)) ∙ unjoined_by c (list_any (joins e) (entries b))
      (sym (ap (λ o. is_some o && list_any (joins e) (entries b)) lives) ∙ clientless))

  and_false : (x y : Bool) → y ≡ false → (x && y) ≡ false
  and_false true y h = h
  and_false false y h = refl

  pub alone_begun : list_any (joins e) b.past ≡ false → has_client (as_begun b) e ≡ false
  alone_begun none =
      and_false (is_some (live_as (as_begun b) e)) (list_any (joins e) (entries (as_begun b))) (any_begun (joins e) ∙ none)

  -- ---- with one more entry

  kept_some : {X : Type 0} (o p : Option X) (x : X) → o ≡ Some x → option_or o p ≡ Some x
  kept_some o p x h = ap (λ q. option_or q p) h

  pub present_more : (x : Entry) (c : Create) → IsPresent b e c → IsPresent (with_entry b x) e c
  present_more x c (inl before) = inl before
  present_more x c (inr now) =
      inr (ap (find (λ (d : Create). d.entity == e)) (filter_map-append created b.current (x ∷ []))
      ∙ find-append (λ (d : Create). d.entity == e) (creates_of b.current) (creates_of (x ∷ []))
      ∙ kept_some (made_among (creates_of b.current) e) (made_among (creates_of (x ∷ [])) e) c now)

-- ---- which numbers a list does not have

apart_by : (e : ℕ) (c : Create) (o : Option Create) (x : Bool) → (c.entity == e) ≡ x → cond x (Some c) o ≡ None →
    ((c.entity == e) ≡ false) × (o ≡ None)
apart_by e c o true is h = absurd (let z = h in cc)
apart_by e c o false is h = (is, h)

pub unmade_apart : (e : ℕ) (cs : List Create) → made_among cs e ≡ None → AllByRecursion (λ n. eqb n e ≡ false) (map entity_of cs)
unmade_apart e [] none = tt
unmade_apart e (c ∷ cs) none =
    let two = apart_by e c (made_among cs e) (c.entity == e) refl none in
    (two.0, unmade_apart e cs two.1)

pub unjoined_apart : (e : ℕ) (xs : List Entry) → list_any (joins e) xs ≡ false →
    AllByRecursion (λ n. eqb n e ≡ false) (filter_map joined xs)
unjoined_apart e [] none = tt
unjoined_apart e (entry.Joined d ∷ xs) none =
    let two = neither (d == e) (list_any (joins e) xs) none in
    (two.0, unjoined_apart e xs two.1)
unjoined_apart e (_ ∷ xs) none = unjoined_apart e xs none

pub undestroyed_apart : (e : ℕ) (xs : List Entry) → list_any (destroys e) xs ≡ false →
    AllByRecursion (λ n. eqb n e ≡ false) (filter_map destroyed xs)
undestroyed_apart e [] none = tt
undestroyed_apart e (entry.Destroyed d ∷ xs) none =
    let two = neither (d == e) (list_any (destroys e) xs) none in
    (two.0, undestroyed_apart e xs two.1)
undestroyed_apart e (_ ∷ xs) none = undestroyed_apart e xs none
