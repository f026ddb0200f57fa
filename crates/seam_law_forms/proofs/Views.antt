-- Entities that clients have in view were shown.
use Rattle.std.proofs.Common.{◌≡◌, ℕ, Bool, true, false, cond, ◌||◌, List, [], ◌∷◌, refl, sym}
use Rattle.std.proofs.Common.{subst, arith}
use Rattle.std.specs.Prelude.{nat_eq}
use Rattle.std.specs.List.{AllByRecursion, list_any}
use Rattle.std.proofs.lemmas.Bool.Decides.{nat_tests}
use Rattle.seam_view.specs.Replica.{placed, without}
use Rattle.seam_node_steps.specs.Prelude.{IsWhole}
use Rattle.seam_rule_clients.specs.Clients.{ClientReplica, after_shown, after_all_shown, shown_by_lines}
use Rattle.seam_rule_clients.specs.Lines.{MayShowAll, Truth, ShowsTruth}
use Rattle.seam_call.specs.declared.shown.GhostCopy.{GhostCopy}
use Rattle.seam_call.specs.declared.shown.Line.{Line}
use Rattle.seam_call.specs.declared.shown.Shown.{Shown}
use Rattle.seam_call.specs.declared.shown.Shown.TheVariants.{Own, Enter, Set, Leave}
use Rattle.seam_call.specs.declared.shown.ClientText.{ClientText}
use Rattle.seam_call.specs.declared.shown.ClientText.TheVariants as text
use Rattle.seam_law_forms.specs.Counting.{NamesWhole, HasWholeNumbers}

-- each entry of a view is of an entity with a number of 32 bits
abbrev AreWhole : List (ℕ × ℕ) → Type 0
AreWhole es = AllByRecursion (λ (p : ℕ × ℕ). IsWhole p.0) es

placed_whole : (e v : ℕ) (es : List (ℕ × ℕ)) → IsWhole e → AreWhole es → AreWhole (placed e v es)
placed_whole e v [] is all = (is, tt)
placed_whole e v (p ∷ ps) is all = by (placed_whole e v ps is all.1) (nat_eq e p.0)
  where
    by : AreWhole (placed e v ps) → (t : Bool) → AreWhole (cond t ((p.0, v) ∷ ps) (p ∷ placed e v ps))
    by later true = (all.0, all.1)
    by later false = (all.0, later)

without_whole : (e : ℕ) (es : List (ℕ × ℕ)) → AreWhole es → AreWhole (without e es)
without_whole e [] all = tt
without_whole e (p ∷ ps) all = by (without_whole e ps all.1) (nat_eq e p.0)
  where
    by : AreWhole (without e ps) → (t : Bool) → AreWhole (cond t ps (p ∷ without e ps))
    by later true = all.1
    by later false = (all.0, later)

seen_whole : (e : ℕ) (es : List (ℕ × ℕ)) → AreWhole es → list_any (λ (p : ℕ × ℕ). nat_eq e p.0) es ≡ true → IsWhole e
seen_whole e [] all has = absurd (cc)
seen_whole e (p ∷ ps) all has = by (seen_whole e ps all.1) (nat_eq e p.0) refl has
  where
    by : (list_any (λ (q : ℕ × ℕ). nat_eq e q.0) ps ≡ true → IsWhole e) → (t : Bool) → nat_eq e p.0 ≡ t →
        (t || list_any (λ (q : ℕ × ℕ). nat_eq e q.0) ps) ≡ true → IsWhole e
    by later true at is = let same : e ≡ p.0 = grind (arith, nat_tests, at) in subst IsWhole (sym same) all.0
    by later false at is = later is

-- what a client shows in view
abbrev pub HasWholeView : ClientReplica → Type 0
HasWholeView c = AreWhole c.others.entries

pub still_whole : (c : ClientReplica) (x : Shown) → NamesWhole x → HasWholeView c → HasWholeView (after_shown c x)
still_whole c (Own version state) is whole = whole
still_whole c (Enter e copy) is whole = placed_whole e copy.version c.others.entries is whole
still_whole c (Set e copy) is whole = placed_whole e copy.version c.others.entries is whole
still_whole c (Leave e) is whole = without_whole e c.others.entries whole

pub all_whole : (c : ClientReplica) (xs : List Shown) → AllByRecursion NamesWhole xs → HasWholeView c → HasWholeView (after_all_shown c xs)
all_whole c [] all whole = whole
all_whole c (x ∷ xs) all whole = all_whole (after_shown c x) xs all.1 (still_whole c x all.0 whole)

-- what lines show, by what they tell
pub shown_whole : (ls : List Line) → AllByRecursion (λ (l : Line). HasWholeNumbers l.text) ls →
    AllByRecursion NamesWhole (shown_by_lines ls)
shown_whole [] all = tt
shown_whole (l ∷ ls) all = by (shown_whole ls all.1) l.text refl all.0
  where
    by : AllByRecursion NamesWhole (shown_by_lines ls) → (x : ClientText) → l.text ≡ x → HasWholeNumbers x →
        AllByRecursion NamesWhole (shown_by_lines (l ∷ ls))
    by later (text.Shown x) at is = rw at (is, later)
    by later (text.Base v props) at is = rw at later

-- what may be shown and is true names such entities, where each that enters has such a number
module _ (truth : Truth) (me : ℕ) (enters : (e : ℕ) (copy : GhostCopy) → truth.other e copy → IsWhole e) where
  one_names : (c : ClientReplica) (x : Shown) → HasWholeView c → MayShowAll me c (x ∷ []) → ShowsTruth truth x → NamesWhole x
  one_names c (Own version state) whole may is = tt
  one_names c (Enter e copy) whole may is = enters e copy is
  one_names c (Set e copy) whole may is = enters e copy is
  one_names c (Leave e) whole may is = seen_whole e c.others.entries whole may.0

  pub names_whole : (c : ClientReplica) (xs : List Shown) → HasWholeView c → MayShowAll me c xs → AllByRecursion (ShowsTruth truth) xs →
      AllByRecursion NamesWhole xs
  names_whole c [] whole may are = tt
  names_whole c (x ∷ xs) whole may are =
      let first = one_names c x whole (may.0, tt) are.0 in
      (first, names_whole (after_shown c x) xs (still_whole c x first whole) may.1 are.1)
