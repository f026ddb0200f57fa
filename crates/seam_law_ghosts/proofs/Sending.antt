-- What is sent fits where it comes: a copy fits the definitions, and each number is small.
use Rattle.seam_law_ghosts.proofs.Prelude.{◌≡◌, ℕ, zero, suc, ◌+◌, ◌<◌, ◌≤◌, Bool, true, false, ◌||◌, eqb, List, [], ◌∷◌, map, length}
use Rattle.seam_law_ghosts.proofs.Prelude.{Option, None, Some, refl, sym, subst, arith, AllByRecursion, range_with_len, nat_tests, Division}
use Rattle.seam_law_ghosts.proofs.Prelude.{Cells, AreDefs, GhostCopy, Shown, RealView, Msg, GhostSet, GhostDrop, BaseCall, Current, Update}
use Rattle.seam_law_ghosts.proofs.Prelude.{limit, is_small, may_rise, Here, cell_count, cell_numbers, base_of, properties, fits_copy}
use Rattle.seam_law_ghosts.proofs.Prelude.{copy_of_real, may_settle, may_execute, fits_cell_part, shows, public_after, may_offer, order_of}
use Rattle.seam_law_ghosts.proofs.Prelude.{haunts_at, told, told_unless, ghost_message, ghost_messages, drop_if, drop_at, drops, current_to}
use Rattle.seam_law_ghosts.proofs.Prelude.{tick_to, numbered, shown_of, Frame, here_at, Has, AtCell, Acts, surveys, calls, readies}
use Rattle.seam_law_ghosts.proofs.Prelude.{CellMoves, BaseMoves, Moves, at_a_cell, at_a_base, RealFits, real_in, of_group-Decides}
use Rattle.seam_law_ghosts.proofs.Prelude.{all_append, both, all_two, base_keeps, units}
use Rattle.std.specs.List.{filter_map}
use Rattle.std.specs.FinSet as set
use Rattle.seam_defs.specs.declared.flags.Part.TheVariants as part
use Rattle.seam_defs.specs.declared.flags.Group.TheVariants as group
use Rattle.seam_defs.proofs.GroupsOfGroups.{projected_of_group}
use Rattle.seam_defs.proofs.Running.{shown-within}
use Rattle.seam_law_calls.specs.CellMoves as move
use Rattle.seam_law_calls.proofs.RealsKept.{executed_fits, ready_fits}
use Rattle.seam_law_calls.proofs.Holds.{below_is}

-- what a message to node k brings fits: a copy fits the definitions, a beat and a version are small, and only base nodes are told what
-- is for them
abbrev pub FitsNode : Frame → ℕ → Msg → Type 0
FitsNode f k (GhostSet e n c) = (is_small n ≡ true) × (is_small c.version ≡ true) × (fits_copy (here_at f 0) c ≡ true)
FitsNode f k (GhostDrop e n) = is_small n ≡ true
FitsNode f k (BaseCall c) = cell_count ≤ k
FitsNode f k (Current e j g) = cell_count ≤ k
FitsNode f k (Update u) = cell_count ≤ k
FitsNode f k _ = Unit {0}

small_is : (n : ℕ) → n < limit → is_small n ≡ true
small_is n lt = grind (arith, nat_tests)

small_of : (n : ℕ) → is_small n ≡ true → n < limit
small_of n h = grind (arith, nat_tests, h)

-- of what is chosen from a list each is such
module _ {A B : Type 0} (P : B → Type 0) (g : A → Option B) (each : (a : A) (b : B) → g a ≡ Some b → P b) where
  chosen_by : (a : A) (xs : List A) (o : Option B) → g a ≡ o → AllByRecursion P (filter_map g xs) → AllByRecursion P (filter_map g (a ∷ xs))
  chosen_by a xs None is more = rw is more
  chosen_by a xs (Some b) is more = rw is (each a b is, more)

  chosen_all : (xs : List A) → AllByRecursion P (filter_map g xs)
  chosen_all [] = tt
  chosen_all (a ∷ xs) = chosen_by a xs (g a) refl (chosen_all xs)

module _ (f : Frame) where
  abbrev FitsTo : ℕ × Msg → Type 0
  FitsTo p = FitsNode f p.0 p.1

  sent_by : (p q : ℕ × Msg) → Some p ≡ Some q → FitsTo p → FitsTo q
  sent_by p q is h = let same : p ≡ q = cc in subst FitsTo same h

  module _ (beat : ℕ) (c : GhostCopy) (small : is_small beat ≡ true) (version : is_small c.version ≡ true)
      (fits : fits_copy (here_at f 0) c ≡ true) where
    told_by : (k e : ℕ) (now was changed : Bool) (p : ℕ × Msg) → told_unless false k (told e beat c now was changed) ≡ Some p → FitsTo p
    told_by k e true false changed p is = sent_by (k, GhostSet e beat c) p is (small, version, fits)
    told_by k e true true true p is = sent_by (k, GhostSet e beat c) p is (small, version, fits)
    told_by k e true true false p is = cc
    told_by k e false true changed p is = sent_by (k, GhostDrop e beat) p is small
    told_by k e false false changed p is = cc

    ghost_by : (b : Bool) (k e : ℕ) (now was changed : Bool) (p : ℕ × Msg) → told_unless b k (told e beat c now was changed) ≡ Some p →
        FitsTo p
    ghost_by true k e now was changed p is = cc
    ghost_by false k e now was changed p is = told_by k e now was changed p is

  ghosts_fit : (h : Here) (r : RealView) (j : ℕ) (haunts : Cells) (changed : Bool) → is_small (r.beat + 1) ≡ true →
      is_small r.public ≡ true → fits_copy (here_at f 0) (copy_of_real h r) ≡ true → AllByRecursion FitsTo
      (ghost_messages h r j haunts changed)
  ghosts_fit h r j haunts changed beat version fits =
      chosen_all FitsTo (ghost_message h r j haunts changed) (λ k p is.
      ghost_by (r.beat + 1) (copy_of_real h r) beat version fits ((eqb k h.me) || (eqb k j)) k r.entity (set.contains haunts k)
      (set.contains r.haunts k) changed p is) cell_numbers

  drop_by : (b : Bool) (k e beat : ℕ) (p : ℕ × Msg) → is_small beat ≡ true → drop_if b k (GhostDrop e beat) ≡ Some p → FitsTo p
  drop_by true k e beat p small is = sent_by (k, GhostDrop e beat) p is small
  drop_by false k e beat p small is = cc

  drops_fit : (r : RealView) → is_small (r.beat + 1) ≡ true → AllByRecursion FitsTo (drops r)
  drops_fit r small =
      chosen_all FitsTo (drop_at r) (λ k p is. drop_by (set.contains r.haunts k) k r.entity (r.beat + 1) p small is) cell_numbers

  currents_by : (h : Here) (r : RealView) (from n : ℕ) → cell_count ≤ from →
      AllByRecursion FitsTo (map (current_to h r) (range_with_len from n))
  currents_by h r from zero high = tt
  currents_by h r from (suc n) high = (high, currents_by h r (from + 1) n (omega (arith, high)))

  updates_fit : (b e n : ℕ) (ss : List Shown) → cell_count ≤ b → AllByRecursion FitsTo (numbered b e n ss)
  updates_fit b e n [] high = tt
  updates_fit b e n (s ∷ ss) high = (high, updates_fit b e (n + 1) ss high)

  ticks_fit : (js : List ℕ) → AllByRecursion FitsTo (map tick_to js)
  ticks_fit [] = tt
  ticks_fit (j ∷ js) = (tt, ticks_fit js)

  -- ---- what a real's ghosts hold of it

  copy_fits : (e ty k : ℕ) (r : RealView) → ty < length f.defs → RealFits f e ty k r →
      fits_copy (here_at f 0) (copy_of_real (here_at f k) r) ≡ true
  copy_fits e ty k r known is =
      let ps = properties (here_at f k) r.ty in
      let type = is.type in
      let low : r.ty < length f.defs = omega (arith, type, known) in
      let values = projected_of_group group.Real group.Ghost (shown-within part.Cell) ps r.state.props is.values in
      all_two _ _ (below_is r.ty (length f.defs) low)
      (all_two _ _ ((of_group-Decides ps group.Ghost (copy_of_real (here_at f k) r).state.props).1 values) is.inside)

  -- ---- moves

  module _ (defs : AreDefs f.defs) (e ty k : ℕ) (known : ty < length f.defs) (s : Has) (i : Option Msg) (t : Has) (sent : List (ℕ × Msg))
      (fit : (r : RealView) → real_in s ≡ Some r → RealFits f e ty k r)
      (public : (r : RealView) → real_in s ≡ Some r → (r.public ≤ r.version) × (r.version < limit)) where
    abbrev h : Here
    h = here_at f k

    -- the real that settles may be told of
    record Tells (q : RealView) : Type 0 where
      beat : is_small (q.beat + 1) ≡ true
      version : is_small q.public ≡ true
      copy : fits_copy (here_at f 0) (copy_of_real h q) ≡ true

    settles : (r : RealView) → may_settle r ≡ true → is_small (r.beat + 1) ≡ true
    settles r h = (both (may_rise r.beat) _ h).0

    public_by : (b : Bool) (v p : ℕ) → p ≤ v → v + 1 < limit → public_after b (v + 1) p < limit
    public_by true v p low lt = lt
    public_by false v p low lt = omega (arith, low, lt)

    executes : (r : RealView) (b : Bool) → may_execute r ≡ true → r.public ≤ r.version → is_small (public_after b
        (r.version + 1) r.public) ≡ true
    executes r b may low =
        small_is _ (public_by b r.version r.public low (small_of (r.version + 1) (both (may_rise r.version) _ may).0))

    tells : (u : AtCell) (r q : RealView) (changed : Bool) → real_in s ≡ Some r → Acts h e s.cell i r u q changed → Tells q
    tells u r q changed has (surveys n a b c) =
        let low = (public r has).0 in
        let high = (public r has).1 in
        record {
          beat = settles r c;
          version = small_is r.public (omega (arith, low, high));
          copy = copy_fits e ty k r known (fit r has);
        }
    tells u r q changed has (calls c a b d g) =
        let may = (both (may_offer (order_of r.orders c.sender) c.number) (may_execute r) (both
        (fits_cell_part h r.entity r.ty c) _ d).1).1 in
        record {
          beat = settles r (both (may_rise r.version) _ may).1;
          version = executes r (shows h r c) may (public r has).0;
          copy = copy_fits e ty k q known (executed_fits f defs e ty k r c (fit r has) d);
        }
    tells u r q changed has (readies o c a b d g) = record {
      beat = settles r (both (may_rise r.version) _ b).1;
      version = executes r (shows h r c) b (public r has).0;
      copy = copy_fits e ty k q known (ready_fits f defs e ty k r o c (fit r has) d g);
    }

    of : (l : List (ℕ × Msg)) → sent ≡ l → AllByRecursion FitsTo l → AllByRecursion FitsTo sent
    of l is all = subst (AllByRecursion FitsTo) (sym is) all

    cell_sends : {tree : Division} → CellMoves h tree e s.cell i t.cell sent → AllByRecursion FitsTo sent
    cell_sends (move.rests n d) = of [] d.sends tt
    cell_sends (move.strays m n b d) = of [] d.sends tt
    cell_sends {tree} (move.stays u r q changed has own acts at d) =
        let x = tells u r q changed has acts in
        of _ d.sends (ghosts_fit h q k (haunts_at h tree q.state.pos k q.haunts) changed x.beat x.version x.copy)
    cell_sends {tree} (move.goes u r q changed j has own acts at n d) =
        let x = tells u r q changed has acts in
        let haunts = haunts_at h tree q.state.pos j (set.insert q.haunts k) in
        of _ d.sends (all_append FitsTo (ghost_messages h q j haunts changed) _ (ghosts_fit h q j haunts changed x.beat x.version x.copy)
        (tt, tt))
    cell_sends (move.late c r n has may lt d) = of [] d.sends tt
    cell_sends (move.holds c r n own has mine may lt d) = of [] d.sends tt
    cell_sends (move.passes c p n own has at d) = of _ d.sends (tt, tt)
    cell_sends (move.lands r bs n own has may d) = of _ d.sends (currents_by h r cell_count f.settings.bases (omega arith))
    cell_sends (move.hears_set n c is has d) = of [] d.sends tt
    cell_sends (move.ignores_set n c r is has d) = of [] d.sends tt
    cell_sends (move.hears_drop n is d) = of [] d.sends tt
    cell_sends (move.reaped r n has own may d) = of _ d.sends (drops_fit r may)
    cell_sends (move.ticks n st z) = of [] z tt
    cell_sends (move.unlists n is at b d) = of [] d.sends tt
    cell_sends (move.looks n r w known is at has own v small d) =
        of _ d.sends (updates_fit (base_of h r.entity) r.entity w.sent (shown_of h r w known) (omega arith))
    cell_sends (move.overlooks n known is at b d) = of [] d.sends tt
    cell_sends (move.stuck r is has ready may d) = of [] d.sends tt

    base_sends : (cells : ℕ) → BaseMoves h cells e s.base i t.base sent → AllByRecursion FitsTo sent
    base_sends cells m = (base_keeps (λ o. Unit {0}) (λ j x. FitsNode f j x) m
        (record { calls = λ c r at is. tt; base_calls = λ c is. omega arith; ticks = λ is j lt. tt; reaps = λ r at is. tt })
        (units s.base.orders)).1

    pub sends_fit : Moves f e k s i t sent → AllByRecursion FitsTo sent
    sends_fit (at_a_cell tree of low m same) = cell_sends m
    sends_fit (at_a_base high m same) = base_sends _ m
