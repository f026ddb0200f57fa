-- Which entities entries are about.
use Rattle.std.proofs.Common.{◌≡◌, ◌<◌, ◌+◌, ℕ, Bool, true, false, cond, List, [], ◌∷◌, length, take, get_or, refl, sym, ◌∙◌, ap}
use Rattle.std.proofs.Common.{◌||◌}
use Rattle.std.specs.List.{list_any}
use Rattle.std.specs.Ordering.{nat_cmp}
use Rattle.std.specs.Cmp.{unsigned_tied}
use Rattle.std.specs.Prelude.{◌==◌}
use Rattle.std.specs.BTreeMap.{is_at}
use Rattle.std.proofs.lemmas.List.{take_more}
use Rattle.seam_rule_rounds.specs.Prelude.{Entry, destroys, joins}
use Rattle.seam_rule_lines.specs.declared.verdict.Entry.TheVariants as entry
use Rattle.std.proofs.lemmas.List.Folds.{list_any-append}

or_false : (b : Bool) → (b || false) ≡ b
or_false true = refl
or_false false = refl

-- what passes a test among one more element
pub any_more : {X : Type 0} (p : X → Bool) (xs : List X) (i : ℕ) (x : X) → i < length xs → (was is : Bool) → was ≡ list_any p (take i xs) →
    is ≡ was || p (get_or xs i x) → is ≡ list_any p (take (i + 1) xs)
any_more p xs i x within was is before step =
    step ∙ ap (λ (b : Bool). b || p (get_or xs i x)) before
    ∙ ap (λ (b : Bool). list_any p (take i xs) || b) (sym (or_false (p (get_or xs i x))))
    ∙ sym (list_any-append p (take i xs) (get_or xs i x ∷ []))
    ∙ ap (list_any p) (sym (take_more xs i x within))

or_cond : (b x : Bool) → cond b true x ≡ (x || b)
or_cond true true = refl
or_cond true false = refl
or_cond false x = sym (or_false x)

-- one more number in a set
pub one_more : (d e : ℕ) (was is : Bool) → is ≡ cond (is_at (nat_cmp d) e) true was → is ≡ was || (d == e)
one_more d e was is put = put ∙ ap (λ (b : Bool). cond b true was) (unsigned_tied d e) ∙ or_cond (d == e) was

-- ---- entries that are about none

pub not_joins : (e : ℕ) (x : Entry) → ((d : ℕ) → x ≡ entry.Joined d → ⊥) → joins e x ≡ false
not_joins e (entry.Joined d) other = absurd (other d refl)
not_joins e (entry.Created c) other = refl
not_joins e (entry.Called c) other = refl
not_joins e entry.Ticked other = refl
not_joins e (entry.Divided t) other = refl
not_joins e entry.Balanced other = refl
not_joins e (entry.Destroyed d) other = refl

pub not_destroys : (e : ℕ) (x : Entry) → ((d : ℕ) → x ≡ entry.Destroyed d → ⊥) → destroys e x ≡ false
not_destroys e (entry.Destroyed d) other = absurd (other d refl)
not_destroys e (entry.Created c) other = refl
not_destroys e (entry.Called c) other = refl
not_destroys e entry.Ticked other = refl
not_destroys e (entry.Divided t) other = refl
not_destroys e entry.Balanced other = refl
not_destroys e (entry.Joined d) other = refl

pub none_more : (was is : Bool) → is ≡ false → was ≡ was || is
none_more was is none = sym (or_false was) ∙ ap (λ (b : Bool). was || b) (sym none)
