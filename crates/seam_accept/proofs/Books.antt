-- What a book holds with one more entry.
use Rattle.std.proofs.Common.{◌≡◌, ◌≢◌, ◌+◌, ℕ, Bool, true, false, List, [], ◌∷◌, ◌++◌, length, sym, ◌∙◌, ap}
use Rattle.std.proofs.Common.{refl, Option, Some, None}
use Rattle.std.proofs.Common.{cond, append_assoc, append-nil, length-append}
use Rattle.std.specs.Prelude.{filter, find, ◌&&◌, ◌||◌, ◌==◌}
use Rattle.std.specs.List.{list_any}
use Rattle.std.specs.Option.{option_or}
use Rattle.std.proofs.lemmas.List.Elements.{filter-append, filter_map-append}
use Rattle.std.proofs.lemmas.List.Folds.{find-append, list_any-append}
use Rattle.std.proofs.lemmas.List.Sums.{fold-append}
use Rattle.seam_defs.specs.declared.flags.Part.{Part}
use Rattle.seam_defs.specs.declared.flags.Part.TheVariants as part
use Rattle.seam_call.specs.Calls.{is_from, same_part}
use Rattle.seam_call.specs.Senders.{same_sender}
use Rattle.seam_call.specs.declared.sender.Sender.{Sender}
use Rattle.seam_call.specs.declared.call.Call.{Call}
use Rattle.seam_call.specs.declared.create.Create.{Create}
use Rattle.seam_rule_lines.specs.Book.{Book, entries, called, creates_of, calls_of, created_as, destroys, joins, makes, accepted}
use Rattle.seam_rule_lines.specs.Book.{with_entry, divided, tree_of}
use Rattle.seam_rule_lines.specs.declared.verdict.Entry.{Entry}
use Rattle.seam_rule_lines.specs.declared.verdict.Entry.TheVariants as entry
use Rattle.seam_rule_lines.proofs.BookEntries.{creates_with_entry, differ}

-- the tree goes on with an entry
pub tree_with : (b : Book) (x : Entry) → tree_of (with_entry b x) ≡ divided (tree_of b) x
tree_with b x = fold-append divided b.tree b.current (x ∷ [])

-- ---- what an entry adds

pub created_with : (b : Book) (x : Entry) (e : ℕ) →
    created_as (with_entry b x) e ≡ option_or (created_as b e) (find (λ c. c.entity == e) (creates_of (x ∷ [])))
created_with b x e =
    ap (find (λ (c : Create). c.entity == e)) (creates_with_entry b x)
    ∙ find-append (λ (c : Create). c.entity == e) (creates_of (entries b)) (creates_of (x ∷ []))

pub or_false : (x : Bool) → (x || false) ≡ x
or_false true = refl
or_false false = refl

pub any_with : (test : Entry → Bool) (b : Book) (x : Entry) →
    list_any test (entries (with_entry b x)) ≡ (list_any test (entries b) || test x)
any_with test b x =
    ap (list_any test) (sym (append_assoc b.past b.current (x ∷ []))) ∙ list_any-append test (entries b) (x ∷ [])
    ∙ ap (λ (y : Bool). list_any test (entries b) || y) (or_false (test x))

pub calls_with_entry : (b : Book) (x : Entry) → calls_of (entries (with_entry b x)) ≡ calls_of (entries b) ++ calls_of (x ∷ [])
calls_with_entry b x = ap calls_of (sym (append_assoc b.past b.current (x ∷ []))) ∙ filter_map-append called (entries b) (x ∷ [])

pub accepted_with_entry : (b : Book) (x : Entry) (p : Part) (e : ℕ) (s : Sender) →
    accepted (with_entry b x) p e s ≡ accepted b p e s ++ filter (is_from p e s) (calls_of (x ∷ []))
accepted_with_entry b x p e s =
    ap (filter (is_from p e s)) (calls_with_entry b x) ∙ filter-append (is_from p e s) (calls_of (entries b)) (calls_of (x ∷ []))

-- ---- entries that are about others

-- an entry is not about the entity of this number
pub record Spares (x : Entry) (e : ℕ) : Type 0 where
  pub makes : makes e x ≡ false
  pub destroys : destroys e x ≡ false
  pub joins : joins e x ≡ false
  pub calls : (p : Part) (s : Sender) → filter (is_from p e s) (calls_of (x ∷ [])) ≡ []

no_create : (x : Entry) (e : ℕ) → makes e x ≡ false → find (λ c. c.entity == e) (creates_of (x ∷ [])) ≡ None
no_create (entry.Created c) e is = ap (λ (y : Bool). cond y (Some c) None) is
no_create x e is = refl

pub or_none : {X : Type 0} (o : Option X) → option_or o None ≡ o
or_none None = refl
or_none (Some x) = refl

module _ (b : Book) (x : Entry) (e : ℕ) (spares : Spares x e) where
  pub created_same : created_as (with_entry b x) e ≡ created_as b e
  created_same =
      created_with b x e ∙ ap (option_or (created_as b e)) (no_create x e spares.makes) ∙ or_none (created_as b e)

  pub destroyed_same : list_any (destroys e) (entries (with_entry b x)) ≡ list_any (destroys e) (entries b)
  destroyed_same =
      any_with (destroys e) b x ∙ ap (λ (y : Bool). list_any (destroys e) (entries b) || y) spares.destroys
      ∙ or_false (list_any (destroys e) (entries b))

  pub joined_same : list_any (joins e) (entries (with_entry b x)) ≡ list_any (joins e) (entries b)
  joined_same =
      any_with (joins e) b x ∙ ap (λ (y : Bool). list_any (joins e) (entries b) || y) spares.joins
      ∙ or_false (list_any (joins e) (entries b))

  pub accepted_same : (p : Part) (s : Sender) → accepted (with_entry b x) p e s ≡ accepted b p e s
  accepted_same p s =
      accepted_with_entry b x p e s ∙ ap (λ (calls : List Call). accepted b p e s ++ calls) (spares.calls p s)
      ∙ append-nil (accepted b p e s)

pub spares_create : (c : Create) (e : ℕ) → c.entity ≢ e → Spares (entry.Created c) e
spares_create c e ne = record { makes = differ c.entity e ne; destroys = refl; joins = refl; calls = λ p s. refl }

-- a call is from no sender to another entity
pub from_other_entity : (call : Call) (p : Part) (e : ℕ) (s : Sender) → call.entity ≢ e → is_from p e s call ≡ false
from_other_entity call p e s ne =
    ap (λ (x : Bool). x && same_part call.part p && same_sender call.sender s) (differ call.entity e ne)

pub spares_call : (call : Call) (e : ℕ) → call.entity ≢ e → Spares (entry.Called call) e
spares_call call e ne = record {
  makes = refl;
  destroys = refl;
  joins = refl;
  calls = λ p s. ap (λ (x : Bool). cond x (call ∷ []) []) (from_other_entity call p e s ne);
}

pub spares_joined : (d e : ℕ) → d ≢ e → Spares (entry.Joined d) e
spares_joined d e ne = record { makes = refl; destroys = refl; joins = differ d e ne; calls = λ p s. refl }

pub spares_destroyed : (d e : ℕ) → d ≢ e → Spares (entry.Destroyed d) e
spares_destroyed d e ne = record { makes = refl; destroys = differ d e ne; joins = refl; calls = λ p s. refl }

-- ---- tests

pub same_part_is : (p q : Part) → same_part p q ≡ true → p ≡ q
same_part_is part.Cell part.Cell is = refl
same_part_is part.Base part.Base is = refl
same_part_is part.Cell part.Base is = cc
same_part_is part.Base part.Cell is = cc

pub both : (x y : Bool) → (x && y) ≡ true → (x ≡ true) × (y ≡ true)
both true true is = (refl, refl)
both true false is = cc
both false y is = cc

-- ---- counts

pub count_with_create : (b : Book) (c : Create) →
    length (creates_of (entries (with_entry b (entry.Created c)))) ≡ length (creates_of (entries b)) + 1
count_with_create b c = ap length (creates_with_entry b (entry.Created c)) ∙ length-append (creates_of (entries b)) (c ∷ [])

pub count_without_create : (b : Book) (x : Entry) → creates_of (x ∷ []) ≡ [] →
    length (creates_of (entries (with_entry b x))) ≡ length (creates_of (entries b))
count_without_create b x none =
    ap length (creates_with_entry b x ∙ ap (λ (cs : List Create). creates_of (entries b) ++ cs) none ∙ append-nil (creates_of (entries b)))
