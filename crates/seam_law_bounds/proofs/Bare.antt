-- Without looks, and without calls to an entity's base part, nothing comes to it: a part that holds nothing never holds anything.
use Rattle.seam_law_bounds.proofs.Prelude.{◌≡◌, ℕ, List, [], Option, None, Some, refl, sym, ap, ◌∙◌, subst, arith, AllByRecursion, happens}
use Rattle.seam_law_bounds.proofs.Prelude.{Msg, Tick, Here, PartView, World, node_steps, comes, IsSilent, carried_in, Frame, here_at}
use Rattle.seam_law_bounds.proofs.Prelude.{IsInFrame, Has, AtBase, entity_flow, Moves, at_a_cell, at_a_base, held_in, real_in, base_call_in}
use Rattle.seam_law_bounds.proofs.Prelude.{update_in, calls_ordered, called, PartMoves, WitnessMoves, HasNoBaseCalls, HasToldAtMost}
use Rattle.seam_law_bounds.proofs.Prelude.{HasNoLooks, part_weight, weight_or, all_append, slots_kept, came, event_moves, frame_happens}
use Rattle.seam_law_bounds.proofs.Prelude.{taken_counts, IsTickTo, IsUnknown, only_ticks, part_moves, EachKeeps, RunsKeep, runs_keep}
use Rattle.seam_law_bounds.proofs.Prelude.{sent_kept, unknown_happens, looks_happen}
use Rattle.seam_law_calls.specs.Prelude.{told}
use Rattle.seam_law_calls.specs.PartMoves as part
use Rattle.seam_law_calls.specs.WitnessMoves as witness
use Rattle.seam_law_calls.proofs.BaseSilent.{sees_no_update, base_silent}
use Rattle.seam_law_calls.proofs.Reaped.{no_call_happens}
use Rattle.seam_law_calls.proofs.WitnessSteps.{witness_moves}
use Rattle.seam_law_bounds.proofs.BaseWeights.{showing_weighs}

abbrev pub HoldsNone : AtBase → Type 0
HoldsNone b = weight_or part_weight b.part ≡ 0

-- the calls that a part holds
abbrev pub part_calls : PartView → ℕ
part_calls p = held_in p.orders

-- ---- a part

module _ (h : Here) (e : ℕ) (s : AtBase) (i : Option Msg) (t : AtBase) (sent : List (ℕ × Msg)) (none : HoldsNone s)
    (no_call : called i ≡ None) (no_update : told i ≡ None) (no_order : calls_ordered s ≡ []) where
  part_bare : PartMoves h e s i t sent → HoldsNone t
  part_bare (part.rests n m l same z) = ap (weight_or part_weight) same ∙ none
  part_bare (part.refuses c n why same z) = ap (λ (b : AtBase). weight_or part_weight b.part) same ∙ none
  part_bare (part.offers c p q n has may o l after z) = absurd (let y = sym no_call ∙ ap called n in cc)
  part_bare (part.sends c cs n at left same z) = ap (weight_or part_weight) same ∙ none
  part_bare (part.serves c cs p q n at has own may o left after z) = absurd (let y = sym no_order ∙ at in cc)
  part_bare (part.executes p o c n has at item l after z) =
      let less = taken_counts p.orders o c at item in
      let was = ap (weight_or part_weight) has in
      absurd (omega (arith, less, was, none))
  part_bare (part.misses u n why l same z) = ap (weight_or part_weight) same ∙ none
  part_bare (part.updates u p x n has is l after z) = absurd (let y = sym no_update ∙ ap told n in cc)
  part_bare (part.shows p x n has is ready l after z) =
      let less = showing_weighs p (Some x) is ready in
      let was = ap (weight_or part_weight) has in
      absurd (omega (arith, less, was, none))
  part_bare (part.ends os n at l gone z) = ap (weight_or part_weight) gone

-- ---- updates

module _ (f : Frame) (e k : ℕ) (s : Has) (i : Option Msg) (t : Has) (sent : List (ℕ × Msg)) (none : s.cell.looks ≡ 0) where
  witness_silent : WitnessMoves (here_at f k) e s.cell i (real_in t) sent → IsSilent update_in sent
  witness_silent (witness.rests keeps a b) = a
  witness_silent (witness.lands r bs n now a b) = a
  witness_silent (witness.leaves r q to sent_before has gone same z a b) =
      subst (IsSilent update_in) (sym z) (all_append (λ p. update_in p.1 ≡ None) sent_before _ a (refl, tt))
  witness_silent (witness.looks n r q w v shown at has wit now wit2 sum small z) = absurd (omega (arith, at, none))

  update_silent : Moves f e k s i t sent → IsSilent update_in sent
  update_silent (at_a_cell tree of low m same) = witness_silent (witness_moves f e k s i t sent m)
  update_silent (at_a_base high m same) = base_silent update_in sees_no_update _ _ e _ i _ sent m

-- ---- a list of events

module _ (f : Frame) (e n : ℕ) where
  -- no one looks, no call to the part is there, no update is on its way, and the part holds nothing
  pub record IsBare (w : World) : Type 0 where
    pub frame : IsInFrame f w
    pub looks : HasNoLooks e w
    pub told : HasToldAtMost e n w
    pub calls : HasNoBaseCalls e w
    pub updates : (a k : ℕ) → AllByRecursion (λ m. update_in m ≡ None) ((entity_flow e w).mail a k)
    pub parts : (k : ℕ) → HoldsNone ((entity_flow e w).slot k).base

  none_by : {L : Type 0} (mine : Msg → Option L) (i : Option Msg) → ((m : Msg) → i ≡ Some m → mine m ≡ None) → carried_in mine i ≡ None
  none_by mine None h = refl
  none_by mine (Some m) h = h m refl

  bare_happens : EachKeeps IsBare
  bare_happens w v o h =
      let still = looks_happen f e n w v o (record { frame = h.frame; looks = h.looks; told = h.told }) in
      let g = event_moves f w v o h.frame e in
      let s = (entity_flow e w).slot g.k in
      let t = (entity_flow e (happens node_steps w v)).slot g.k in
      record {
        frame = still.frame;
        looks = still.looks;
        told = still.told;
        calls = no_call_happens f e w v o h.frame h.calls;
        updates =
            sent_kept (λ a k m. update_in m ≡ None) g g.moves.sent g.moves.items h.updates
            (update_silent f e g.k s (comes g.input) t g.moves.sent (h.looks.cells g.k) g.moves.moves);
        parts =
            slots_kept (λ k x. HoldsNone x.base) g h.parts
            (part_bare (here_at f g.k) e s.base (comes g.input) t.base g.moves.sent (h.parts g.k)
            (none_by base_call_in (comes g.input) (λ m is. (came (λ a k x. base_call_in x ≡ None) g m is h.calls.letters).1))
            (none_by update_in (comes g.input) (λ m is. (came (λ a k x. update_in x ≡ None) g m is h.updates).1)) (h.calls.orders g.k)
            (part_moves f e g.k s (comes g.input) t g.moves.sent g.moves.moves));
      }

  pub bare_leads : RunsKeep IsBare
  bare_leads = runs_keep IsBare bare_happens

-- ---- a part that holds no call, whatever its client does

abbrev pub HoldsNoCall : AtBase → Type 0
HoldsNoCall b = weight_or part_calls b.part ≡ 0

module _ (h : Here) (e : ℕ) (s : AtBase) (i : Option Msg) (t : AtBase) (sent : List (ℕ × Msg)) (none : HoldsNoCall s)
    (no_call : called i ≡ None) (no_order : calls_ordered s ≡ []) where
  call_bare : PartMoves h e s i t sent → HoldsNoCall t
  call_bare (part.rests n m l same z) = ap (weight_or part_calls) same ∙ none
  call_bare (part.refuses c n why same z) = ap (λ (b : AtBase). weight_or part_calls b.part) same ∙ none
  call_bare (part.offers c p q n has may o l after z) = absurd (let y = sym no_call ∙ ap called n in cc)
  call_bare (part.sends c cs n at left same z) = ap (weight_or part_calls) same ∙ none
  call_bare (part.serves c cs p q n at has own may o left after z) = absurd (let y = sym no_order ∙ at in cc)
  call_bare (part.executes p o c n has at item l after z) =
      let less = taken_counts p.orders o c at item in
      let was = ap (weight_or part_calls) has in
      absurd (omega (arith, less, was, none))
  call_bare (part.misses u n why l same z) = ap (weight_or part_calls) same ∙ none
  call_bare (part.updates u p x n has is l after z) = ap (weight_or part_calls) after ∙ (sym (ap (weight_or part_calls) has) ∙ none)
  call_bare (part.shows p x n has is ready l after z) = ap (weight_or part_calls) after ∙ (sym (ap (weight_or part_calls) has) ∙ none)
  call_bare (part.ends os n at l gone z) = ap (weight_or part_calls) gone

module _ (f : Frame) (e : ℕ) where
  -- no call to the part is there, and it holds none
  pub record IsUncalled (w : World) : Type 0 where
    pub frame : IsInFrame f w
    pub calls : HasNoBaseCalls e w
    pub parts : (k : ℕ) → HoldsNoCall ((entity_flow e w).slot k).base

  uncalled_happens : EachKeeps IsUncalled
  uncalled_happens w v o h =
      let g = event_moves f w v o h.frame e in
      let s = (entity_flow e w).slot g.k in
      let t = (entity_flow e (happens node_steps w v)).slot g.k in
      record {
        frame = frame_happens f w v o h.frame;
        calls = no_call_happens f e w v o h.frame h.calls;
        parts =
            slots_kept (λ k x. HoldsNoCall x.base) g h.parts
            (call_bare (here_at f g.k) e s.base (comes g.input) t.base g.moves.sent (h.parts g.k)
            (none_by f e 0 base_call_in (comes g.input) (λ m is. (came (λ a k x. base_call_in x ≡ None) g m is h.calls.letters).1))
            (h.calls.orders g.k) (part_moves f e g.k s (comes g.input) t g.moves.sent g.moves.moves));
      }

  pub uncalled_leads : RunsKeep IsUncalled
  uncalled_leads = runs_keep IsUncalled uncalled_happens

-- ---- an entity that is nowhere

no_call_of : (k : ℕ) (m : Msg) → IsTickTo k m → base_call_in m ≡ None
no_call_of k Tick h = refl
no_call_of k _ h = absurd h

no_update_of : (k : ℕ) (m : Msg) → IsTickTo k m → update_in m ≡ None
no_update_of k Tick h = refl
no_update_of k _ h = absurd h

module _ (f : Frame) (e : ℕ) where
  -- nothing but ticks comes, and the part, if there is one, holds nothing
  pub record IsIdle (w : World) : Type 0 where
    pub unknown : IsUnknown f e w
    pub parts : (k : ℕ) → HoldsNone ((entity_flow e w).slot k).base

  idle_happens : EachKeeps IsIdle
  idle_happens w v o h =
      let u = h.unknown in
      let g = event_moves f w v o u.frame e in
      let s = (entity_flow e w).slot g.k in
      let t = (entity_flow e (happens node_steps w v)).slot g.k in
      record {
        unknown = unknown_happens f e w v o u;
        parts =
            slots_kept (λ k x. HoldsNone x.base) g h.parts
            (part_bare (here_at f g.k) e s.base (comes g.input) t.base g.moves.sent (h.parts g.k)
            (none_by f e 0 base_call_in (comes g.input) (λ m is. no_call_of g.k m (came (λ a k x. IsTickTo k x) g m is u.letters).1))
            (none_by f e 0 update_in (comes g.input) (λ m is. no_update_of g.k m (came (λ a k x. IsTickTo k x) g m is u.letters).1))
            (only_ticks s.base.orders (u.slots g.k).orders) (part_moves f e g.k s (comes g.input) t g.moves.sent g.moves.moves));
      }

  pub idle_leads : RunsKeep IsIdle
  idle_leads = runs_keep IsIdle idle_happens
