-- What a batch says of entities, by the entries of the book's open round.
use Rattle.std.proofs.Common.{◌≡◌, ℕ, Bool, true, false, cond, List, [], ◌∷◌, None, Some, refl, sym, ap, ◌∙◌, subst, append-nil}
use Rattle.std.specs.Prelude.{◌==◌, ◌||◌, find}
use Rattle.std.specs.List.{AllByRecursion, list_any, filter_map}
use Rattle.std.proofs.lemmas.Option.{none-some}
use Rattle.seam_node_steps.specs.Prelude.{Create}
use Rattle.seam_rule_rounds.specs.Prelude.{Header, Book, creates_of, created_as, destroys, joins, Entry}
use Rattle.seam_law_book.specs.Prelude.{as_begun, IsNewEntity, IsUntouched, HasFitRound}
use Rattle.seam_rule_lines.specs.declared.verdict.Entry.TheVariants as entry
use Rattle.seam_rule_lines.proofs.InOrderLemmas.{found_entity}
use Rattle.seam_accept.specs.Batches.{joined, destroyed}
use Rattle.seam_world_text.specs.Residents.{is_among}
use Rattle.seam_world_text.proofs.Keeping.{find_in, MakesNew}

pub joined_among : (e : ℕ) (xs : List Entry) → is_among e (filter_map joined xs) ≡ list_any (joins e) xs
joined_among e [] = refl
joined_among e (entry.Joined d ∷ xs) = ap (λ x. (d == e) || x) (joined_among e xs)
joined_among e (entry.Created c ∷ xs) = joined_among e xs
joined_among e (entry.Called c ∷ xs) = joined_among e xs
joined_among e (entry.Ticked ∷ xs) = joined_among e xs
joined_among e (entry.Divided t ∷ xs) = joined_among e xs
joined_among e (entry.Balanced ∷ xs) = joined_among e xs
joined_among e (entry.Destroyed d ∷ xs) = joined_among e xs

pub destroyed_among : (e : ℕ) (xs : List Entry) → is_among e (filter_map destroyed xs) ≡ list_any (destroys e) xs
destroyed_among e [] = refl
destroyed_among e (entry.Destroyed d ∷ xs) = ap (λ x. (d == e) || x) (destroyed_among e xs)
destroyed_among e (entry.Created c ∷ xs) = destroyed_among e xs
destroyed_among e (entry.Called c ∷ xs) = destroyed_among e xs
destroyed_among e (entry.Joined d ∷ xs) = destroyed_among e xs
destroyed_among e (entry.Ticked ∷ xs) = destroyed_among e xs
destroyed_among e (entry.Divided t ∷ xs) = destroyed_among e xs
destroyed_among e (entry.Balanced ∷ xs) = destroyed_among e xs

-- ---- what the round makes is new

module _ (P : Create → Type 0) where
  found_by : (e : ℕ) (x c : Create) (cs : List Create) (y : Bool) → P x → (find (λ d. d.entity == e) cs ≡ Some c → P c) →
      cond y (Some x) (find (λ d. d.entity == e) cs) ≡ Some c → P c
  found_by e x c cs true here rest is = let same : x ≡ c = cc in subst P same here
  found_by e x c cs false here rest is = rest is

  -- what is true of all is true of the one that is found
  pub found_has : (e : ℕ) (c : Create) (cs : List Create) → AllByRecursion P cs → find (λ d. d.entity == e) cs ≡ Some c → P c
  found_has e c [] all is = absurd (none-some c is)
  found_has e c (x ∷ cs) all is = found_by e x c cs (x.entity == e) all.0 (found_has e c cs all.1) is

module _ (h : Header) (b : Book) (R : HasFitRound h b)
    (untouched : (e : ℕ) → created_as (as_begun b) e ≡ None → IsUntouched (as_begun b) e) where
  pub makes_new : MakesNew b
  makes_new e c is =
      let new = (found_has (IsNewEntity h b) e c (creates_of b.current) R.creates is).new in
      let none = subst (λ n. created_as (as_begun b) n ≡ None) (found_entity (creates_of b.current) e c is) new in
      let nothing = untouched e none in (
        sym (ap (find_in e) (append-nil b.past)) ∙ none,
        sym (ap (list_any (destroys e)) (append-nil b.past)) ∙ nothing.end,
        sym (ap (list_any (joins e)) (append-nil b.past)) ∙ nothing.client,
      )
