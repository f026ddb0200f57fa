-- Texts that are kept with their copies.
use Rattle.std.proofs.Common.{◌≡◌, ℕ, zero, suc, Bool, true, false, cond, subst, sym, ap, ◌∙◌, arith, refl, nat_eq, List, [], ◌∷◌, map}
use Rattle.std.proofs.Common.{None, Some}
use Rattle.std.proofs.Common.{slice_get, length, ◌≤◌, length-append, ◌++◌, append_assoc, drop}
use Rattle.std.specs.Prelude.{Result, Ok, Err, is_ok, OnOk, if◌then◌else◌}
use Rattle.std.specs.List.{AllByRecursion}
use Rattle.std.proofs.Math.Seq.{drop-append_seam}
use Rattle.std.proofs.lemmas.Option.{same_Some, none-some}
use Rattle.std.proofs.lemmas.Bool.Decides.{nat_tests}
use Rattle.indexmap.specs.IndexMap.{insert_entry}
use Rattle.seam_rule_rounds.specs.Prelude.{TypeDef, GhostCopy, Own, Enter, Set, Leave, ClientText}
use Rattle.seam_report.specs.declared.spellings.Spelling.{Spelling}
use Rattle.seam_report.specs.Spelled.{IsSpelling, Versions, IsOf, ShowsOf, enter_text, copy_text}
use Rattle.seam_call.specs.declared.shown.ClientText.TheVariants as client

same_number : (q k : ℕ) → nat_eq q k ≡ true → q ≡ k
same_number q k t = grind (arith, nat_tests)

-- one more entry, in the place of the one that has its number where there is one
module _ (P : ℕ × Spelling → Type 0) (e : ℕ) (s : Spelling) (is : P (e, s)) where
  pub one_more : (es : List (ℕ × Spelling)) → AllByRecursion P es → AllByRecursion P (insert_entry nat_eq es e s)
  one_more [] all = (is, tt)
  one_more (x ∷ es) all = by (nat_eq e x.0) (same_number e x.0) (one_more es all.1)
    where
      by : (b : Bool) → (b ≡ true → e ≡ x.0) → AllByRecursion P (insert_entry nat_eq es e s) →
          AllByRecursion P (cond b ((x.0, s) ∷ es) (x ∷ insert_entry nat_eq es e s))
      by true same rest = (subst (λ k. P (k, s)) (same refl) is, all.1)
      by false same rest = (all.0, rest)

-- ---- those of these versions

abbrev pub copy_in : ℕ × Spelling → ℕ × GhostCopy
copy_in x = (x.0, x.1.copy.now)

module _ (vs : Versions) where
  abbrev pub IsThere : ℕ × Spelling → Type 0
  IsThere x = IsOf vs x.0 x.1.copy.now

  pub each_of : (es : List (ℕ × Spelling)) → AllByRecursion (λ p. IsOf vs p.0 p.1) (map copy_in es) → AllByRecursion IsThere es
  each_of [] all = tt
  each_of (x ∷ es) all = (all.0, each_of es all.1)

  pub all_of : (es : List (ℕ × Spelling)) → AllByRecursion IsThere es → AllByRecursion (λ p. IsOf vs p.0 p.1) (map copy_in es)
  all_of [] all = tt
  all_of (x ∷ es) all = (all.0, all_of es all.1)

-- ---- what is told of an entry

pub at_place : (P : ℕ × Spelling → Type 0) (es : List (ℕ × Spelling)) (i : ℕ) (x : ℕ × Spelling) → slice_get es i ≡ Some x →
    AllByRecursion P es → P x
at_place P [] i x at all = absurd (none-some x at)
at_place P (y ∷ es) zero x at all = subst P (same_Some y x at) all.0
at_place P (y ∷ es) (suc i) x at all = at_place P es i x at all.1

-- what was spelled at the copy's version is its text
pub spelling_told : (defs : List TypeDef) (vs : Versions) (e : ℕ) (s : Spelling) (k : GhostCopy) → IsSpelling defs e s.copy.now s →
    s.version ≡ k.version → IsOf vs e s.copy.now → IsOf vs e k → IsSpelling defs e k s
spelling_told defs vs e s k spelled told was is =
    subst (λ x. IsSpelling defs e x s) (same_Some s.copy.now k (sym was ∙ ap (vs e) (sym spelled.version ∙ told) ∙ is)) spelled

in_two : (defs : List TypeDef) (e : ℕ) (k : GhostCopy) →
    enter_text defs e k ++ copy_text defs k ++ 10 ∷ [] ≡ enter_text defs e k ++ (copy_text defs k ++ 10 ∷ [])
in_two defs e k = append_assoc (enter_text defs e k) (copy_text defs k) (10 ∷ [])

-- the text of its state begins within it
pub starts_within : (defs : List TypeDef) (e : ℕ) (k : GhostCopy) (s : Spelling) → IsSpelling defs e k s → s.start ≤ length s.text.items
starts_within defs e k s is =
    let long = ap length (is.text ∙ in_two defs e k)
    ∙ length-append (enter_text defs e k) (copy_text defs k ++ 10 ∷ []) in
    omega (arith, long, is.start)

-- ---- pieces of text

-- the state's text is what follows that of its entering
pub state_of : (defs : List TypeDef) (e : ℕ) (k : GhostCopy) (s : Spelling) → IsSpelling defs e k s →
    drop s.start s.text.items ≡ copy_text defs k ++ 10 ∷ []
state_of defs e k s is =
    (λ i. drop (is.start i) ((is.text ∙ in_two defs e k) i)) ∙ drop-append_seam (enter_text defs e k) (copy_text defs k ++ 10 ∷ [])

pub glue : (o a b c : List ℕ) → ((o ++ a) ++ b) ++ c ≡ o ++ ((a ++ b) ++ c)
glue o a b c = ap (λ l. l ++ c) (append_assoc o a b) ∙ append_assoc o (a ++ b) c

-- an end of a line after its head
pub ended : (o a t : List ℕ) → (o ++ a) ++ (t ++ 10 ∷ []) ≡ o ++ (a ++ t ++ 10 ∷ [])
ended o a t = sym (append_assoc (o ++ a) t (10 ∷ [])) ∙ glue o a t (10 ∷ [])

-- what is appended where that succeeds
pub appended : {T E A : Type 0} (r : Result T E) (new x y : A) → new ≡ (if is_ok r then x else y) → OnOk r (new ≡ x)
appended (Ok t) new x y is = is
appended (Err e) new x y is = tt

-- what one text shows is what there is of its own versions
pub alone : (t : ClientText) → (vs : Versions) × ShowsOf vs t
alone (client.Shown (Own v s)) = ((λ e w. None), tt)
alone (client.Shown (Enter e k)) = ((λ q w. Some k), refl)
alone (client.Shown (Set e k)) = ((λ q w. Some k), refl)
alone (client.Shown (Leave e)) = ((λ q w. None), tt)
alone (client.Base v props) = ((λ q w. None), tt)
