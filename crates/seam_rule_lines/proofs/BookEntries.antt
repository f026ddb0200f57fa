-- What a book has created, with one more entry.
use Rattle.std.proofs.Common.{◌≡◌, ◌≢◌, ℕ, Bool, true, false, [], ◌∷◌, ◌++◌, sym, ◌∙◌, refl, ap, arith}
use Rattle.std.proofs.Common.{Option, Some, None, cond, append_assoc, append-nil}
use Rattle.std.specs.Prelude.{find, ◌==◌}
use Rattle.std.specs.Option.{option_or}
use Rattle.std.specs.List.{list_any}
use Rattle.std.proofs.lemmas.List.Folds.{find-append}
use Rattle.std.proofs.lemmas.List.Elements.{filter_map-append}
use Rattle.std.proofs.lemmas.Option.{none-some}
use Rattle.std.proofs.lemmas.Bool.Decides.{eqb_tells}
use Rattle.seam_call.specs.declared.call.Call.{Call}
use Rattle.seam_call.specs.declared.create.Create.{Create}
use Rattle.seam_rule_lines.specs.Book.{Book, entries, created, creates_of, created_as, live_as, destroys, with_entry}
use Rattle.seam_rule_lines.specs.declared.verdict.Entry.{Entry}
use Rattle.seam_rule_lines.specs.declared.verdict.Entry.TheVariants as entry

-- a number is itself, and no other
pub same : (m : ℕ) → (m == m) ≡ true
same m = grind arith

pub differ : (a b : ℕ) → a ≢ b → (a == b) ≡ false
differ a b ne = grind (arith, eqb_tells)

pub creates_with_entry : (b : Book) (x : Entry) → creates_of (entries (with_entry b x)) ≡ creates_of (entries b) ++ creates_of (x ∷ [])
creates_with_entry b x = ap creates_of (sym (append_assoc b.past b.current (x ∷ []))) ∙ filter_map-append created (entries b) (x ∷ [])

-- ---- who lives

-- a live entity was created
pub live_is_created : (b : Book) (e : ℕ) (c : Create) → live_as b e ≡ Some c → created_as b e ≡ Some c
live_is_created b e c = by (list_any (destroys e) (entries b))
  where
    by : (x : Bool) → cond x None (created_as b e) ≡ Some c → created_as b e ≡ Some c
    by true lives = absurd (none-some c lives)
    by false lives = lives

-- ---- a call

pub creates_with_call : (b : Book) (call : Call) → creates_of (entries (with_entry b (entry.Called call))) ≡ creates_of (entries b)
creates_with_call b call = creates_with_entry b (entry.Called call) ∙ append-nil (creates_of (entries b))

pub created_with_call : (b : Book) (call : Call) (e : ℕ) → created_as (with_entry b (entry.Called call)) e ≡ created_as b e
created_with_call b call e = ap (find (λ (c : Create). c.entity == e)) (creates_with_call b call)

-- ---- a create

created_with_create : (b : Book) (c : Create) (e : ℕ) →
    created_as (with_entry b (entry.Created c)) e ≡ option_or (created_as b e) (cond (c.entity == e) (Some c) None)
created_with_create b c e =
    ap (find (λ (x : Create). x.entity == e)) (creates_with_entry b (entry.Created c))
    ∙ find-append (λ (x : Create). x.entity == e) (creates_of (entries b)) (c ∷ [])

pub created_here : (b : Book) (c : Create) → created_as b c.entity ≡ None → created_as (with_entry b (entry.Created c)) c.entity ≡ Some c
created_here b c none =
    created_with_create b c c.entity ∙ ap (λ (o : Option Create). option_or o (cond (c.entity == c.entity) (Some c) None)) none
    ∙ ap (λ (x : Bool). option_or None (cond x (Some c) None)) (same c.entity)

pub created_other : (b : Book) (c : Create) (e : ℕ) → c.entity ≢ e → created_as (with_entry b (entry.Created c)) e ≡ created_as b e
created_other b c e ne =
    created_with_create b c e ∙ ap (λ (x : Bool). option_or (created_as b e) (cond x (Some c) None)) (differ c.entity e ne)
    ∙ or_none (created_as b e)
  where
    or_none : (o : Option Create) → option_or o None ≡ o
    or_none None = refl
    or_none (Some x) = refl

-- an entity that the book does not have after a `create` was not there before it
pub not_before : (b : Book) (c : Create) (e : ℕ) → created_as (with_entry b (entry.Created c)) e ≡ None → created_as b e ≡ None
not_before b c e none = cases (created_as b e) refl
  where
    cases : (o : Option Create) → created_as b e ≡ o → created_as b e ≡ None
    cases None is = is
    cases (Some d) is =
        absurd (none-some d (sym none ∙ created_with_create b c e
        ∙ ap (λ (o : Option Create). option_or o (cond (c.entity == e) (Some c) None)) is))

-- an entity that the book has stays as it was created
pub created_before : (b : Book) (c : Create) (e : ℕ) (d : Create) → created_as b e ≡ Some d →
    created_as (with_entry b (entry.Created c)) e ≡ Some d
created_before b c e d is =
    created_with_create b c e ∙ ap (λ (o : Option Create). option_or o (cond (c.entity == e) (Some c) None)) is
