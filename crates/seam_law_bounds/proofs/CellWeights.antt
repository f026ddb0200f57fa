-- A step of a cell lowers the weight, but where a call is passed on.
use Rattle.seam_law_bounds.proofs.Prelude.{◌≡◌, ℕ, suc, ◌+◌, ◌*◌, ◌≤◌, Bool, true, false, List, [], ◌∷◌, length, Option, None, Some}
use Rattle.seam_law_bounds.proofs.Prelude.{refl, sym, ap, ◌∙◌, find, arith, ◌||◌, is_some, if◌then◌else◌, option_map, Input, Task, From}
use Rattle.seam_law_bounds.proofs.Prelude.{RealView, has_ready, Msg, Tick, number_of, has_any, Slot, SlotStep, slot_after, about}
use Rattle.seam_law_bounds.proofs.Prelude.{slot_steps, CellView, slot_of, after_slot, is_another, unlisted_by, stepped, known_to}
use Rattle.seam_law_bounds.proofs.Prelude.{surveys, calls_ready, looks_around, real_is_ready, ready_entity, look_next, ready_next}
use Rattle.seam_law_bounds.proofs.Prelude.{cell_task, cell_steps, cell_has_work, Cell, Sizes, settling, look_weight, tick_weight}
use Rattle.seam_law_bounds.proofs.Prelude.{cell_passes, node_passes, sent_weight, input_weight, found, entity_of}
use Rattle.seam_law_bounds.specs.Weights.{moving_cell_weight, moving_letter_weight, moving_real_weight}
use Rattle.std.proofs.Common.{◌<◌, ◌&&◌, map}
use Rattle.std.specs.Prelude.{nat_lt}
use Rattle.std.specs.Ordering.{nat_cmp, match_ordering}
use Rattle.std.specs.declared.cmp.Ordering.{Ordering}
use Rattle.std.specs.declared.cmp.Ordering.TheVariants.{Less, Equal, Greater}
use Rattle.std.proofs.lemmas.Bool.Decides.{nat_tests}
use Rattle.seam_machine.specs.Totals.{total}
use Rattle.std.specs.FinMap as table
use Rattle.seam_node_steps.specs.Prelude.{tick, Boundaries, Bounds, Stepped, are_newer, boundaries_of, bounds_in, cell_hears}
use Rattle.seam_node_steps.specs.Prelude.{comes_late, listed_if, number_in, renewed, renewed_if, with_entity, witnesses}
use Rattle.seam_law_bounds.specs.Events.{CellCan}
use Rattle.seam_law_bounds.proofs.Counts.{times_grows, one_more, filter_shortens, total_of_set_at}
use Rattle.seam_law_bounds.proofs.SlotWeights.{slot_weight, step_weight, passed, message_weighs, survey_weighs, ready_weighs}
use Rattle.seam_law_bounds.proofs.SlotWeights.{look_weighs, is_late, listing, newer_weighs}
use Rattle.seam_node_steps.proofs.Targets.{renewed_here}

lt_of_test : (a b : ℕ) → nat_lt a b ≡ true → a < b
lt_of_test a b is = grind (arith, nat_tests, is)

-- a list with one more weighs that much more
first_weighs : (xs ys : List ℕ) (e c : ℕ) → xs ≡ e ∷ ys → length xs * c ≡ length ys * c + c
first_weighs xs ys e c is = one_more (length xs) (length ys) c (ap length is ∙ more (length ys))
  where
    more : (n : ℕ) → suc n ≡ n + 1
    more n = omega arith

-- the last boundaries of the round have that number
module _ (z : Sizes) (last : ℕ) where
  abbrev g : ℕ → Msg → ℕ
  g = moving_letter_weight z last

  abbrev weighs : CellView → ℕ
  weighs c = moving_cell_weight z last c

  -- a slot of the cell, and what a step of it leaves and sends
  abbrev slot_in : CellView → Slot → ℕ
  slot_in c s = slot_weight z last (boundaries_of c) s

  abbrev step_in : CellView → Slot → SlotStep → ℕ
  step_in c s t = step_weight z last (boundaries_of c) s t

  slots_weigh : (c : CellView) (e : ℕ) (o : Option Slot) → weighs (after_slot c e o) + slot_in c (slot_of c e)
      ≡ weighs c + slot_in c (slot_after o (slot_of c e))
  slots_weigh c e None = refl
  slots_weigh c e (Some s) =
      let one = total_of_set_at (moving_real_weight z last c.number) c.reals e s.real in omega (arith, one)

  unlisted_weighs : (b : Bool) (c : CellView) (e : ℕ) → weighs (unlisted_by b c e) ≤ weighs c
  unlisted_weighs true c e =
      let one = times_grows _ _ (settling z) (filter_shortens (is_another e) c.survey) in
      let two = times_grows _ _ (look_weight z) (filter_shortens (is_another e) c.looks) in
      omega (arith, one, two)
  unlisted_weighs false c e = omega arith

  -- what a cell weighs changes as the slot does
  stepped_weighs : (c : CellView) (e : ℕ) (t : SlotStep) → weighs (stepped c e t).state + sent_weight g (stepped c e t).sent +
      slot_in c (slot_of c e) ≤ weighs c + step_in c (slot_of c e) t
  stepped_weighs c e t =
      let one = slots_weigh c e t.slot in
      let two = unlisted_weighs t.unlisted (after_slot c e t.slot) e in
      omega (arith, one, two)

  -- ---- tasks

  ready_exists : (c : CellView) (e : ℕ) → ready_entity c ≡ Some e →
      (r : RealView) × (table.get c.reals e ≡ Some r) × (has_ready r.orders ≡ true)
  ready_exists c e is = by (find real_is_ready (table.entries c.reals)) refl is
    where
      by : (o : Option (ℕ × RealView)) → find real_is_ready (table.entries c.reals) ≡ o → option_map number_of o ≡ Some e →
          (r : RealView) × (table.get c.reals e ≡ Some r) × (has_ready r.orders ≡ true)
      by None f h = cc
      by (Some p) f h =
          let k = found real_is_ready c.reals p f in
          let same : p.0 ≡ e = cc in
          (p.1, ap (table.get c.reals) (sym same) ∙ k.0, k.1)

  look_weighs_one : (c : CellView) (e : ℕ) (es : List ℕ) → CellCan z c Task → c.looks ≡ e ∷ es →
      weighs (look_next c (e ∷ es)).state + sent_weight g (look_next c (e ∷ es)).sent + 1 ≤ weighs c
  look_weighs_one c e es can l =
      let one = stepped_weighs (record c { looks = es }) e (looks_around c e (table.get c.reals e) (known_to c e)) in
      let two =
      look_weighs z last (boundaries_of c) c.here (slot_of c e) (known_to c e) (table.get c.reals e) refl
      (λ r w at has. can.looks e es r w l at has) in
      let three = first_weighs c.looks es e (look_weight z) l in
      omega (arith, one, two, three)

  look_task_weighs : (c : CellView) (es : List ℕ) → CellCan z c Task → c.looks ≡ es → (es ≡ [] → ⊥) →
      weighs (look_next c es).state + sent_weight g (look_next c es).sent + 1 ≤ weighs c
  look_task_weighs c [] can l some = absurd (some refl)
  look_task_weighs c (e ∷ es) can l some = look_weighs_one c e es can l

  ready_task_weighs : (c : CellView) (o : Option ℕ) → CellCan z c Task → ready_entity c ≡ o → (o ≡ None → c.looks ≡ [] → ⊥) →
      weighs (ready_next c o).state + sent_weight g (ready_next c o).sent + 1 ≤ weighs c
  ready_task_weighs c None can e some = look_task_weighs c c.looks can refl (some refl)
  ready_task_weighs c (Some e) can f some =
      let k = ready_exists c e f in
      let one = stepped_weighs c e (calls_ready c e (table.get c.reals e)) in
      let two = ap (λ x. step_in c (slot_of c e) (calls_ready c e x)) k.1 in
      let three = ready_weighs z last (boundaries_of c) c.here (slot_of c e) k.0 k.1 (can.ready e k.0 k.1 k.2) k.2 in
      omega (arith, one, two, three)

  survey_task_weighs : (c : CellView) (e : ℕ) (es : List ℕ) → c.survey ≡ e ∷ es →
      weighs (cell_task c (e ∷ es)).state + sent_weight g (cell_task c (e ∷ es)).sent + 1 ≤ weighs c
  survey_task_weighs c e es l =
      let one = stepped_weighs (record c { survey = es }) e (surveys c e (table.get c.reals e)) in
      let two = survey_weighs z last (boundaries_of c) c.here (slot_of c e) (table.get c.reals e) refl in
      let three = first_weighs c.survey es e (settling z) l in
      omega (arith, one, two, three)

  task_weighs : (c : CellView) (es : List ℕ) → CellCan z c Task → c.survey ≡ es → (es ≡ [] → ready_entity c ≡ None → c.looks ≡ [] → ⊥) →
      weighs (cell_task c es).state + sent_weight g (cell_task c es).sent + 1 ≤ weighs c
  task_weighs c [] can e some = ready_task_weighs c (ready_entity c) can refl (some refl)
  task_weighs c (e ∷ es) can l some = survey_task_weighs c e es l

  -- ---- messages

  abbrev one_if : Bool → ℕ
  one_if b = if b then 1 else 0

  -- an entity more is listed at most once more
  longer_by : (e x : ℕ) (xs : List ℕ) (o : Ordering) → length (with_entity e xs) ≤ length xs + 1 →
      length (match_ordering o (e ∷ x ∷ xs) (x ∷ xs) (x ∷ with_entity e xs)) ≤ length (x ∷ xs) + 1
  longer_by e x xs Less h = omega arith
  longer_by e x xs Equal h = omega arith
  longer_by e x xs Greater h = omega (arith, h)

  longer : (e : ℕ) (xs : List ℕ) → length (with_entity e xs) ≤ length xs + 1
  longer e [] = omega arith
  longer e (x ∷ xs) = longer_by e x xs (nat_cmp e x) (longer e xs)

  listed_weighs : (late : Bool) (e : ℕ) (t : Stepped CellView Msg) → weighs (listed_if late e t).state ≤ weighs t.state + listing z late
  listed_weighs true e t =
      let one = times_grows (length (with_entity e t.state.survey)) (length t.state.survey + 1) (settling z) (longer e t.state.survey) in
      let two = one_more (length t.state.survey + 1) (length t.state.survey) (settling z) refl in
      omega (arith, one, two)
  listed_weighs false e t = omega arith

  listed_sends : (late : Bool) (e : ℕ) (t : Stepped CellView Msg) → sent_weight g (listed_if late e t).sent ≡ sent_weight g t.sent
  listed_sends true e t = refl
  listed_sends false e t = refl

  about_weighs : (c : CellView) (m : Msg) (e : ℕ) → c.here.settings.bases ≤ z.bases → number_in (bounds_in m) ≤ c.number →
      c.number ≤ last → comes_late c m ≡ is_late z last (boundaries_of c) c.here (slot_of c e) m →
      weighs (cell_hears c m (Some e)).state + sent_weight g (cell_hears c m (Some e)).sent + 1
      ≤ weighs c + g c.here.me m + one_if (passed z last (boundaries_of c) (slot_of c e) m)
  about_weighs c m e few le most late =
      let t = stepped c e (slot_steps c.here (boundaries_of c) (slot_of c e) m) in
      let one = stepped_weighs c e (slot_steps c.here (boundaries_of c) (slot_of c e) m) in
      let two = message_weighs z last (boundaries_of c) c.here.me c.here (slot_of c e) m few le most in
      let three = listed_weighs (comes_late c m) e t in
      let four = listed_sends (comes_late c m) e t in
      let five = ap (listing z) late in
      omega (arith, one, two, three, four, five)

  -- a tick: at most all witnesses are to look
  tick_weighs : (c : CellView) → length (witnesses c) ≤ z.witnesses c.here.me → weighs (tick c) + 1 ≤ weighs c + tick_weight z c.here.me
  tick_weighs c few = let one = times_grows _ _ (look_weight z) few in omega (arith, one)

  hears_weighs : (c : CellView) (m : Msg) → c.here.settings.bases ≤ z.bases →
      (m ≡ Tick → length (witnesses c) ≤ z.witnesses c.here.me) → number_in (bounds_in m) ≤ c.number → c.number ≤ last →
      weighs (cell_hears c m (about m)).state + sent_weight g (cell_hears c m (about m)).sent + 1
      ≤ weighs c + g c.here.me m + one_if (cell_passes c m)
  hears_weighs c Tick few ticks le most = let one = tick_weighs c (ticks refl) in omega (arith, one)
  hears_weighs c (Bounds b) few ticks le most = omega arith
  hears_weighs c m few ticks le most = about_weighs c m (entity_of m) few le most refl

  -- ---- newer boundaries: each real is to settle by them, and may settle by one tree less

  each_lists : (m n : ℕ) → m < n → n ≤ last → (ps : List (ℕ × RealView)) →
      total (λ p. moving_real_weight z last n p.1) ps + length (map (λ p. p.0) ps) * settling z
      ≤ total (λ p. moving_real_weight z last m p.1) ps
  each_lists m n lt most [] = omega arith
  each_lists m n lt most (p ∷ ps) =
      let rest = each_lists m n lt most ps in
      let one = newer_weighs z last m n lt most in
      let keys : ℕ = length (map (λ (q : ℕ × RealView). q.0) ps) in
      let more = one_more (keys + 1) keys (settling z) refl in
      omega (arith, rest, one, more)

  newer_of : (c : CellView) (b : Boundaries) → are_newer c b ≡ true → c.number < b.number
  newer_of c b is = by (nat_lt c.number b.number) _ refl is
    where
      by : (x y : Bool) → nat_lt c.number b.number ≡ x → (x && y) ≡ true → c.number < b.number
      by true y at is = lt_of_test c.number b.number at
      by false y at is = cc

  renewed_weighs_by : (d : Bool) (c : CellView) (b : Boundaries) → are_newer c b ≡ d → (renewed_if d c b).number ≤ last →
      weighs (renewed_if d c b) ≤ weighs c
  renewed_weighs_by true c b is most =
      let one = each_lists c.number b.number (newer_of c b is) most (table.entries c.reals) in
      omega (arith, one)
  renewed_weighs_by false c b is most = omega arith

  renewed_weighs : (c : CellView) (o : Option Boundaries) → (renewed c o).number ≤ last → weighs (renewed c o) ≤ weighs c
  renewed_weighs c None most = omega arith
  renewed_weighs c (Some b) most = renewed_weighs_by (are_newer c b) c b refl most

  -- ---- a step of a cell

  works : (c : CellView) → cell_has_work c ≡ true → c.survey ≡ [] → ready_entity c ≡ None → c.looks ≡ [] → ⊥
  works c w s r l =
      never (sym (ap (λ x. has_any x || (is_some (ready_entity c) || has_any c.looks)) s ∙ ap (λ x. is_some x || has_any c.looks) r
      ∙ ap has_any l) ∙ w)
    where
      never : false ≡ true → ⊥
      never e = cc

  -- the boundaries that an input brings are no newer than those that the cell then goes by, and those have at most the last number
  abbrev pub IsOfRound : CellView → Input Msg → Type 0
  IsOfRound c Task = Unit {0}
  IsOfRound c (From a m) =
      (number_in (bounds_in m) ≤ (renewed c (bounds_in m)).number) × ((renewed c (bounds_in m)).number ≤ last)

  -- what newer boundaries leave of the rest
  passes_same : (d : Bool) (c : CellView) (b : Boundaries) (m : Msg) → cell_passes (renewed_if d c b) m ≡ cell_passes c m
  passes_same true c b m = refl
  passes_same false c b m = refl

  passes_some : (c : CellView) (o : Option Boundaries) (m : Msg) → cell_passes (renewed c o) m ≡ cell_passes c m
  passes_some c None m = refl
  passes_some c (Some b) m = passes_same (are_newer c b) c b m

  witnesses_same : (d : Bool) (c : CellView) (b : Boundaries) → witnesses (renewed_if d c b) ≡ witnesses c
  witnesses_same true c b = refl
  witnesses_same false c b = refl

  witnesses_some : (c : CellView) (o : Option Boundaries) → witnesses (renewed c o) ≡ witnesses c
  witnesses_some c None = refl
  witnesses_some c (Some b) = witnesses_same (are_newer c b) c b

  comes_lowers : (c : CellView) (a : ℕ) (m : Msg) → IsOfRound c (From a m) → CellCan z c (From a m) →
      weighs (cell_steps c (From a m)).state + sent_weight g (cell_steps c (From a m)).sent + 1
      ≤ weighs c + g c.here.me m + one_if (cell_passes c m)
  comes_lowers c a m round can =
      let d = renewed c (bounds_in m) in
      let here : d.here ≡ c.here = renewed_here c (bounds_in m) in
      let bases = ap (λ h. h.settings.bases) here in
      let few = can.bases in
      let seen = ap length (witnesses_some c (bounds_in m)) in
      let me = ap (λ h. h.me) here in
      let most = ap z.witnesses me in
      let one =
      hears_weighs d m (omega (arith, bases, few))
      (λ is. let ticks = can.ticks a (ap (From a) is) in omega (arith, seen, most, ticks)) round.0 round.1 in
      let two = renewed_weighs c (bounds_in m) round.1 in
      let three = ap (λ k. g k m) me in
      let four = ap one_if (passes_some c (bounds_in m) m) in
      omega (arith, one, two, three, four)

  pub cell_lowers : (c : CellView) (i : Input Msg) → IsOfRound c i → CellCan z c i → (i ≡ Task → cell_has_work c ≡ true) →
      weighs (cell_steps c i).state + sent_weight g (cell_steps c i).sent + 1
      ≤ weighs c + input_weight g c.here.me i + one_if (node_passes (Cell c) i)
  cell_lowers c Task round can w = let one = task_weighs c c.survey can refl (works c (w refl)) in omega (arith, one)
  cell_lowers c (From a m) round can w = comes_lowers c a m round can
