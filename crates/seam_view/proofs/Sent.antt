-- A pass over slots, in turn with looks: where each goes once those have left whose leaves come next.
use Rattle.std.proofs.Common.{◌≡◌, ◌<◌, ◌≤◌, ◌+◌, ℕ, zero, suc, Bool, true, false, not, cond, ◌&&◌, eqb, List, [], ◌∷◌, ◌++◌, length, take}
use Rattle.std.proofs.Common.{drop}
use Rattle.std.proofs.Common.{get_or, slice_set, Option, Some, refl, sym, ap, ◌∙◌, arith}
use Rattle.std.specs.List.{filter}
use Rattle.std.proofs.lemmas.Bool.Decides.{nat_tests}
use Rattle.seam_view.specs.declared.numbered.Slot.{Slot}
use Rattle.seam_view.specs.declared.Look.{Look}
use Rattle.seam_view.specs.declared.Look.TheVariants.{Leave, Set, Enter}
use Rattle.seam_view.specs.Replica.{leaves_in}
use Rattle.seam_view.specs.ByNumber.{GoInOrder, entries_of, stays, nowhere}
use Rattle.seam_view.specs.Together.{leaves_next, looks_past, looks_past_all, left_past_all, kept_past_all}

-- what the pass makes of a slot that comes next, and of all, where n have stayed before
abbrev pub sent : List Look → ℕ → Slot → Slot
sent looks n s = record { entity = s.entity; to = cond (leaves_next s.entity looks) nowhere n; version = s.version }

abbrev pub stayed : List Look → ℕ → Slot → ℕ
stayed looks n s = cond (leaves_next s.entity looks) n (n + 1)

abbrev pub sent_all : List Look → ℕ → List Slot → List Slot
sent_all looks n [] = []
sent_all looks n (s ∷ slots) = sent looks n s ∷ sent_all (looks_past s.entity looks) (stayed looks n s) slots

pub same_entries : (looks : List Look) (n : ℕ) (slots : List Slot) → entries_of (sent_all looks n slots) ≡ entries_of slots
same_entries looks n [] = refl
same_entries looks n (s ∷ slots) =
    ap (λ es. (s.entity, s.version) ∷ es) (same_entries (looks_past s.entity looks) (stayed looks n s) slots)

somewhere : (n : ℕ) → n < nowhere → not (eqb n nowhere) ≡ true
somewhere n lt = grind (arith, nat_tests)

module _ (looks : List Look) (n : ℕ) (s : Slot) (slots : List Slot) (lt : n < nowhere) where
  order_by : (b : Bool) → leaves_next s.entity looks ≡ b →
      GoInOrder (cond b n (n + 1)) (sent_all (cond b (drop 1 looks) looks) (cond b n (n + 1)) slots) →
      GoInOrder n (record { entity = s.entity; to = cond b nowhere n; version = s.version } ∷ sent_all (cond b (drop 1 looks) looks)
      (cond b n (n + 1)) slots)
  order_by true t rest = rest
  order_by false t rest = rw (somewhere n lt) (refl, rest)

  kept_by : (b : Bool) → leaves_next s.entity looks ≡ b →
      entries_of (filter stays (sent_all (cond b (drop 1 looks) looks) (cond b n (n + 1)) slots))
      ≡ kept_past_all (cond b (drop 1 looks) looks) (entries_of slots) →
      entries_of (filter stays (record { entity = s.entity; to = cond b nowhere n; version = s.version } ∷
      sent_all (cond b (drop 1 looks) looks) (cond b n (n + 1)) slots))
      ≡ cond (not b) ((s.entity, s.version) ∷ kept_past_all (cond b (drop 1 looks) looks) (entries_of slots))
      (kept_past_all (cond b (drop 1 looks) looks) (entries_of slots))
  kept_by true t rest = rest
  kept_by false t rest = rw (somewhere n lt) (ap (λ es. (s.entity, s.version) ∷ es) rest)

few_by : (b : Bool) (n m : ℕ) → n + (m + 1) ≤ nowhere → cond b n (n + 1) + m ≤ nowhere
few_by true n m few = omega (arith, few)
few_by false n m few = omega (arith, few)

pub go_in_order : (looks : List Look) (n : ℕ) (slots : List Slot) → n + length slots ≤ nowhere → GoInOrder n (sent_all looks n slots)
go_in_order looks n [] few = tt
go_in_order looks n (s ∷ slots) few =
    order_by looks n s slots (omega (arith, few)) (leaves_next s.entity looks) refl
    (go_in_order (looks_past s.entity looks) (stayed looks n s) slots
    (few_by (leaves_next s.entity looks) n (length slots) (omega (arith, few))))

pub kept_when_sent : (looks : List Look) (n : ℕ) (slots : List Slot) → n + length slots ≤ nowhere →
    entries_of (filter stays (sent_all looks n slots)) ≡ kept_past_all looks (entries_of slots)
kept_when_sent looks n [] few = refl
kept_when_sent looks n (s ∷ slots) few =
    kept_by looks n s slots (omega (arith, few)) (leaves_next s.entity looks) refl
    (kept_when_sent (looks_past s.entity looks) (stayed looks n s) slots
    (few_by (leaves_next s.entity looks) n (length slots) (omega (arith, few))))

-- ---- one step of the pass

-- the slots are to be what the pass makes of those at its start
pub sent_next : (looks : List Look) (n i : ℕ) (slots : List Slot) (d : Slot) → i < length slots →
    take (i + 1) (slice_set slots i (sent looks n (get_or slots i d)))
    ++ sent_all (looks_past (get_or slots i d).entity looks) (stayed looks n (get_or slots i d))
    (drop (i + 1) (slice_set slots i (sent looks n (get_or slots i d))))
    ≡ take i slots ++ sent_all looks n (drop i slots)
sent_next looks n i [] d lt = absurd (omega (arith, lt))
sent_next looks n zero (s ∷ []) d lt = refl
sent_next looks n zero (s ∷ t ∷ slots) d lt = refl
sent_next looks n (suc i) (s ∷ slots) d lt =
    let more : suc (i + 1) ≡ suc i + 1 = omega arith in
    let new = slice_set slots i (sent looks n (get_or slots i d)) in
    ap (λ m. take m (s ∷ new) ++ sent_all (looks_past (get_or slots i d).entity looks) (stayed looks n (get_or slots i d))
    (drop m (s ∷ new))) (sym more)
    ∙ ap (λ xs. s ∷ xs) (sent_next looks n i slots d (omega (arith, lt)))

-- what else is to come, of the entries from a place on
module _ (looks : List Look) where
  pub past_next : (i : ℕ) (slots : List Slot) (d : Slot) → i < length slots →
      looks_past_all looks (entries_of (drop i slots))
      ≡ looks_past_all (looks_past (get_or slots i d).entity looks) (entries_of (drop (i + 1) slots))
  past_next i [] d lt = absurd (omega (arith, lt))
  past_next zero (s ∷ []) d lt = refl
  past_next zero (s ∷ t ∷ slots) d lt = refl
  past_next (suc i) (s ∷ slots) d lt =
      let more : suc (i + 1) ≡ suc i + 1 = omega arith in
      past_next i slots d (omega (arith, lt))
      ∙ ap (λ m. looks_past_all (looks_past (get_or slots i d).entity looks) (entries_of (drop m (s ∷ slots)))) more

  pub left_next : (m : ℕ → Option ℕ) (q i : ℕ) (slots : List Slot) (d : Slot) → i < length slots →
      left_past_all looks (entries_of (drop i slots)) m q
      ≡ left_past_all (looks_past (get_or slots i d).entity looks) (entries_of (drop (i + 1) slots))
      (λ x. cond (leaves_next (get_or slots i d).entity looks && eqb (get_or slots i d).entity x) (Some (get_or slots i d).version) (m x)) q
  left_next m q i [] d lt = absurd (omega (arith, lt))
  left_next m q zero (s ∷ []) d lt = refl
  left_next m q zero (s ∷ t ∷ slots) d lt = refl
  left_next m q (suc i) (s ∷ slots) d lt =
      let more : suc (i + 1) ≡ suc i + 1 = omega arith in
      left_next m q i slots d (omega (arith, lt))
      ∙ ap (λ k. left_past_all (looks_past (get_or slots i d).entity looks) (entries_of (drop k (s ∷ slots)))
      (λ x. cond (leaves_next (get_or slots i d).entity looks && eqb (get_or slots i d).entity x) (Some (get_or slots i d).version) (m x))
      q) more

pub one_left : (e : ℕ) (looks : List Look) → leaves_next e looks ≡ true → leaves_in looks ≡ leaves_in (drop 1 looks) + 1
one_left e [] h = cc
one_left e (Leave x ∷ []) h = refl
one_left e (Leave x ∷ look ∷ looks) h = refl
one_left e (Set x ∷ looks) h = cc
one_left e (Enter x ∷ looks) h = cc

-- ---- the end of the pass

pub none_past : {X : Type 0} (xs : List X) (i : ℕ) → length xs ≤ i → drop i xs ≡ []
none_past [] zero le = refl
none_past [] (suc i) le = refl
none_past (x ∷ xs) zero le = absurd (omega (arith, le))
none_past (x ∷ xs) (suc i) le = none_past xs i (omega (arith, le))

pub all_sent : (looks : List Look) (n i : ℕ) (slots : List Slot) → length slots ≤ i →
    take i slots ++ sent_all looks n (drop i slots) ≡ slots
all_sent looks n zero [] le = refl
all_sent looks n (suc i) [] le = refl
all_sent looks n zero (s ∷ slots) le = absurd (omega (arith, le))
all_sent looks n (suc i) (s ∷ slots) le = ap (λ xs. s ∷ xs) (all_sent looks n i slots (omega (arith, le)))
