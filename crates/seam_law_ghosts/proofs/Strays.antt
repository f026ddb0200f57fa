-- A message to a cell is never stray, nor a task of one: for an entity that no one reaps, in a round.
use Rattle.seam_law_ghosts.proofs.Prelude.{◌≡◌, ℕ, ◌<◌, ◌⊎◌, true, false, ◌&&◌, is_some, List, ◌∷◌, length, Option, None, Some, refl, ap}
use Rattle.seam_law_ghosts.proofs.Prelude.{◌∙◌, arith, inl, inr, slice_get, eq-eqb, Division, link, letter, Occurs, From, Call as CallData}
use Rattle.seam_law_ghosts.proofs.Prelude.{RealView, Msg, Hand, GhostSet, GhostDrop, Tick, Reap, limit, is_small, cell_count, fits_copy}
use Rattle.seam_law_ghosts.proofs.Prelude.{may_call, NextPlace, about, is_stray, stray_call, stray_hand, may_come, NodeView, World}
use Rattle.seam_law_ghosts.proofs.Prelude.{letters_of, more_letter, Frame, IsTreeOf, here_at, IsFrame, Has, concerned, kept_if, mine}
use Rattle.seam_law_ghosts.proofs.Prelude.{entity_flow, RealFits, real_burden, real_in, reaped_by, FindsTurn, all_two, may_land}
use Rattle.seam_entity.specs.declared.message.Msg.TheVariants.{Call}
use Rattle.seam_law_ghosts.proofs.Sending.{FitsNode}
use Rattle.seam_node_steps.specs.Prelude.{Boundaries, Bounds}
use Rattle.seam_law_calls.proofs.Holds.{denied, either}

-- ---- a message on a link, as its entity sees it

kept_by : (o : Option ℕ) (e : ℕ) (m : Msg) → o ≡ Some e → kept_if (concerned e o) m ≡ Some m
kept_by None e m h = cc
kept_by (Some x) e m h =
    let same : x ≡ e = cc in
    ap (λ b. kept_if b m) (eq-eqb x e same)

pub mine_is : (e : ℕ) (m : Msg) → about m ≡ Some e → mine e m ≡ Some m
mine_is e m h = kept_by (about m) e m h

pub seen_first : (e : ℕ) (w : World) (a k : ℕ) (m : Msg) (ms : List Msg) → link w.rows a k ≡ m ∷ ms → about m ≡ Some e →
    (entity_flow e w).mail a k ≡ m ∷ letters_of (mine e) ms
seen_first e w a k m ms at h = ap (letters_of (mine e)) at ∙ ap (λ o. more_letter o (letters_of (mine e) ms)) (mine_is e m h)

-- the event that feeds it
abbrev pub feeds : (w : World) (a k : ℕ) (s : NodeView) (m : Msg) (ms : List Msg) → slice_get w.nodes k ≡ Some s →
    link w.rows a k ≡ m ∷ ms →
    Occurs w (record { node = k; from = Some a })
feeds w a k s m ms node at =
    record { node = s; input = From a m; is_node = node; is_fed = ap (letter a) at }

-- ---- by kinds

module _ (f : Frame) (frame : IsFrame f) (e ty k : ℕ) (known : ty < length f.defs) (low : k < cell_count) (tree : Division)
    (of : IsTreeOf f tree) (s : Has) where
  call_by : (c : CallData) (r : Option RealView) (n : Option NextPlace) → (is_some r ≡ true) ⊎ (is_some n ≡ true) →
      ((q : RealView) → r ≡ Some q → may_call (here_at f k) q c ≡ true) → stray_call (here_at f k) c r n ≡ false
  call_by c (Some q) n place may = denied (may_call (here_at f k) q c) (may q refl)
  call_by c None (Some n) place may = refl
  call_by c None None (inl h) may = cc
  call_by c None None (inr h) may = cc

  hand_by : (r : RealView) (o : Option RealView) → o ≡ None → may_come (here_at f k) tree r ≡ true →
      stray_hand (here_at f k) tree r o ≡ false
  hand_by r None is may = denied (may_come (here_at f k) tree r) may
  hand_by r (Some q) is may = cc

  pub kind_fits : (m : Msg) → FitsNode f k m → reaped_by m ≡ None → ((c : CallData) → m ≡ Call c → FindsTurn f k s c) →
      ((r : RealView) (bs : Option Boundaries) → m ≡ Hand r bs → (real_in s ≡ None) × RealFits f e ty k r × (real_burden r < limit)) →
      is_stray (here_at f k) tree s.cell.slot m ≡ false
  kind_fits (Call c) fits spared turn hand =
      let t = turn c refl in
      call_by c s.cell.slot.real s.cell.slot.next (either (is_some s.cell.slot.real) (is_some s.cell.slot.next) t.place) t.may
  kind_fits (Hand r bs) fits spared turn hand =
      let h = hand r bs refl in
      hand_by r s.cell.slot.real h.0 (may_land f frame e ty k tree of r known h.1 h.2)
  kind_fits (GhostSet x n c) fits spared turn hand =
      denied (is_small n && (is_small c.version && fits_copy (here_at f k) c)) (all_two _ _ fits.0 (all_two _ _ fits.1 fits.2))
  kind_fits (GhostDrop x n) fits spared turn hand = denied (is_small n) fits
  kind_fits Tick fits spared turn hand = refl
  kind_fits (Bounds b) fits spared turn hand = refl
  kind_fits (Reap x) fits spared turn hand = cc
  kind_fits _ fits spared turn hand = absurd (omega (arith, fits, low))
