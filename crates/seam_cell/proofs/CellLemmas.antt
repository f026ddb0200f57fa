-- Cells after what they hear of ghosts, and a cell without entities.
use Rattle.std.proofs.Common.{◌≡◌, ◌<◌, ℕ, Bool, true, false, not, ◌&&◌, List, [], ◌∷◌, length, Option, None, Some}
use Rattle.std.proofs.Common.{refl, sym, ap}
use Rattle.std.proofs.Common.{◌∙◌, arith, map, is_some}
use Rattle.std.specs.List.{filter}
use Rattle.std.specs.Ordering.{nat_cmp}
use Rattle.std.specs.FinMap as table
use Rattle.seam_node_steps.specs.Prelude.{IsTree, Ghost, ghost_after, From, Call as CallData, GhostCopy, RealView, GhostSet, GhostDrop}
use Rattle.seam_node_steps.specs.Prelude.{is_small, cell_count, Map, set_at, number_of, NextPlace, SlotStep, unless_stray, ghost_set}
use Rattle.seam_node_steps.specs.Prelude.{ghost_drop, stray_ghost_set, stray_call, call_next_place, slot_steps, CellView, slot_of, stepped}
use Rattle.seam_node_steps.specs.Prelude.{cell_steps, real_is_ready, has_witness, AreLegal, boundaries_of}
use Rattle.seam_entity.specs.declared.message.Msg.TheVariants.{Call as CallTo}
use Rattle.seam_node_steps.specs.CellCases.{call}
use Rattle.seam_node_steps.proofs.Slots.{set_at-same}
use Rattle.seam_cell_parts.specs.declared.context.CellContext.{CellContext}
use Rattle.seam_cell_parts.specs.declared.reals.Reals.{Reals}
use Rattle.seam_cell_parts.specs.declared.remotes.Remotes.{Remotes}
use Rattle.seam_cell_parts.specs.declared.lists.Lists.{Lists}
use Rattle.seam_cell_parts.specs.Kept.{marked, AreWhole}

pub third_decides : (a b c : Bool) → a ≡ true → b ≡ true → not c ≡ not (a && (b && c))
third_decides true true c e f = refl
third_decides true false c e f = cc
third_decides false b c e f = cc

module _ (c : CellView) (from e beat : ℕ) (now : Map (Ghost GhostCopy)) where
  abbrev pub Heard : Option GhostCopy → Type 0
  Heard copy = now ≡ set_at c.ghosts e (ghost_after (table.get c.ghosts e) (record { beat = beat; copy = copy }))

  -- the cell with the ghosts that the book has then
  with_ghosts : (copy : Option GhostCopy) → Heard copy → record c { ghosts = now }
      ≡ record c {
        reals = set_at c.reals e (table.get c.reals e);
        nexts = set_at c.nexts e (table.get c.nexts e);
        ghosts = set_at c.ghosts e (ghost_after (table.get c.ghosts e) (record { beat = beat; copy = copy }));
      }
  with_ghosts copy h = λ i. record c {
    reals = sym (set_at-same c.reals e) i;
    nexts = sym (set_at-same c.nexts e) i;
    ghosts = h i;
  }

  pub ghost_dropped : is_small beat ≡ true → Heard None → record c { ghosts = now } ≡ (cell_steps c (From from (GhostDrop e beat))).state
  ghost_dropped small h =
      with_ghosts None h ∙ ap (λ b. (stepped c e (unless_stray (not b) (ghost_drop (slot_of c e) beat))).state) (sym small)

  pub ghost_set_here : (copy : GhostCopy) → table.get c.reals e ≡ None → stray_ghost_set c.here beat copy ≡ false → Heard (Some copy) →
      record c { ghosts = now } ≡ (cell_steps c (From from (GhostSet e beat copy))).state
  ghost_set_here copy none right h =
      with_ghosts (Some copy) h
      ∙ (ap (λ o. (stepped c e (unless_stray false (ghost_set (slot_of c e) beat copy o))).state) (sym none)
      ∙ ap (λ b. (stepped c e (unless_stray b (ghost_set (slot_of c e) beat copy (table.get c.reals e)))).state) (sym right))

pub stray_set : (c : CellView) (from e beat : ℕ) (copy : GhostCopy) → stray_ghost_set c.here beat copy ≡ true →
    c ≡ (cell_steps c (From from (GhostSet e beat copy))).state
stray_set c from e beat copy stray =
    ap (λ b. (stepped c e (unless_stray b (ghost_set (slot_of c e) beat copy (table.get c.reals e)))).state) (sym stray)

-- ---- a call whose real is not here

module _ (c : CellView) (from : ℕ) (k : CallData) (gone : is_some (table.get c.reals k.entity) ≡ false) where
  without_real : (o : Option RealView) → is_some o ≡ false → o ≡ None
  without_real None e = refl
  without_real (Some r) e = cc

  Slotted : Option RealView → Option NextPlace → SlotStep
  Slotted o n = unless_stray (stray_call c.here k o n) (call c.here (boundaries_of c) (record (slot_of c k.entity) { next = n }) k o)

  passed_step : (n : Option NextPlace) → Slotted None n ≡ call_next_place k n
  unfolding Slotted
  passed_step None = refl
  passed_step (Some n) = refl

  passed_slot : slot_steps c.here (boundaries_of c) (slot_of c k.entity) (CallTo k) ≡ call_next_place k (table.get c.nexts k.entity)
  unfolding Slotted
  passed_slot =
      ap (λ o. Slotted o (table.get c.nexts k.entity)) (without_real (table.get c.reals k.entity) gone)
      ∙ passed_step (table.get c.nexts k.entity)

  rests_there : (n : Option NextPlace) → (stepped c k.entity (call_next_place k n)).state ≡ c
  rests_there None = refl
  rests_there (Some n) = refl

  pub passed_state : (cell_steps c (From from (CallTo k))).state ≡ c
  passed_state = ap (λ t. (stepped c k.entity t).state) passed_slot ∙ rests_there (table.get c.nexts k.entity)

  pub passed_sent : (cell_steps c (From from (CallTo k))).sent ≡ (call_next_place k (table.get c.nexts k.entity)).sent
  passed_sent = ap (λ t. t.sent) passed_slot

-- ---- a cell without entities

no_length : {A : Type 0} (xs : List A) → length xs ≡ 0 → xs ≡ []
no_length [] e = refl
no_length (x ∷ xs) e = absurd (omega arith)

no_entries : table.entries (table.empty {X = RealView} {R = nat_cmp}) ≡ []
no_entries = no_length _ (sym (table.len-entries table.empty) ∙ table.len-empty nat_cmp _)

marked_none : (test : ℕ × RealView → Bool) → marked test table.empty ≡ []
marked_none test = ap (λ es. map number_of (filter test es)) no_entries

nothing_there : {X : Type 0} (m : Map X) (e : ℕ) (x : X) → m ≡ table.empty → table.get m e ≡ Some x → ⊥
nothing_there m e x is there = let f : None ≡ Some x = sym (table.get-empty nat_cmp e) ∙ sym (ap (λ n. table.get n e) is) ∙ there in cc

-- a cell without entities is one
pub empty_whole : (k : CellContext) (r : Reals) (p : Remotes) (l : Lists) → k.me < cell_count → AreLegal k.settings → IsTree k.bounds.tree →
    k.bounds.tree.size ≡ k.settings.size → r.items.items ≡ table.empty → p.nexts.items ≡ table.empty → r.ready ≡ [] → r.witnesses ≡ [] →
    AreWhole k r p l
empty_whole k r p l me legal tree size reals nexts ready witnesses = record {
  cell = record {
    cell = record {
      me_in = me;
      bases = legal.in_range.some_bases;
      cells = tree.cells_to;
      nexts = λ e n there. absurd (nothing_there p.nexts.items e n nexts there);
      keys = λ e q there. absurd (nothing_there r.items.items e q reals there);
    };
    legal = legal;
    size = size;
    there = λ e q there. absurd (nothing_there r.items.items e q reals there);
  };
  marks = record {
    ready = ready ∙ sym (ap (marked real_is_ready) reals ∙ marked_none real_is_ready);
    witnesses = witnesses ∙ sym (ap (marked has_witness) reals ∙ marked_none has_witness);
  };
}
