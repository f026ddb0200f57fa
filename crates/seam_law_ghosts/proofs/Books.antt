-- The beats of books never fall, and so versions of copies do not.
use Rattle.seam_law_ghosts.proofs.Prelude.{◌≡◌, ℕ, ◌+◌, ◌<◌, ◌≤◌, List, length, Option, None, Some, sym, ap, ◌∙◌, subst, inl, inr, arith}
use Rattle.seam_law_ghosts.proofs.Prelude.{cases_eq, happens, GhostCopy, RealView, Msg, World, node_steps, comes, greater_entry, Frame, Has}
use Rattle.seam_law_ghosts.proofs.Prelude.{entity_flow, IsSpared, IsFrame, Entry, book_entry, GhostMoves, IsTable, IsTrue, goes, room}
use Rattle.seam_law_ghosts.proofs.Prelude.{calm_of, spared_happens, EachKeeps, RunsKeep, runs_keep}
use Rattle.seam_law_ghosts.specs.GhostMoves as ghost
use Rattle.seam_law_ghosts.proofs.Greater.{greater_up}
use Rattle.seam_law_ghosts.proofs.Steps.{ghost_moves}
use Rattle.seam_law_ghosts.proofs.Telling.{true_happens}

module _ (f : Frame) (e k : ℕ) (s : Has) (i : Option Msg) (t : Has) (sent : List (ℕ × Msg)) where
  kept : book_entry t ≡ book_entry s → (book_entry s).0 ≤ (book_entry t).0
  kept is = let at = ap (λ p. p.0) is in omega (arith, at)

  heard : (p : Entry) → book_entry t ≡ greater_entry (book_entry s) (Some p) → (book_entry s).0 ≤ (book_entry t).0
  heard p is = subst (λ q. (book_entry s).0 ≤ q.0) (sym is) (greater_up (book_entry s) p)

  pub book_rises : GhostMoves f e k s i t sent → (book_entry s).0 ≤ (book_entry t).0
  book_rises (ghost.rests none real book z) = kept book
  book_rises (ghost.touches r q none has real alike account book z) = kept book
  book_rises (ghost.misses m h none missed real book z) = kept book
  book_rises (ghost.ignores n c r h has real book z) = kept book
  book_rises (ghost.hears p h none real book z) = heard p book
  book_rises (ghost.lands r bs h has real book z) = heard (r.beat, None) book
  book_rises (ghost.stays r q changed haunts own none has acts real book z) = kept book
  book_rises (ghost.goes r q changed j haunts apart goal none has acts real book z) = heard _ book
  book_rises (ghost.reaped r h has real book z) = heard (r.beat + 1, None) book

module _ (f : Frame) (frame : IsFrame f) (e ty : ℕ) (known : ty < length f.defs) (start : RealView) (first : ℕ → GhostCopy)
    (origin : World) where
  pub record HasRisen (w : World) : Type 0 where
    pub is : IsTrue f e ty start first w
    pub spared : IsSpared e w
    pub books : (k : ℕ) → (book_entry ((entity_flow e origin).slot k)).0 ≤ (book_entry ((entity_flow e w).slot k)).0

  risen_happens : EachKeeps HasRisen
  risen_happens w v o x =
      let has = x.is.one.has in
      let calm = calm_of f e w v o has.fits.frame x.spared in
      let g = goes f frame e ty known w v o has calm in
      let moves = g.moves.0 in
      let up = book_rises f e g.k _ (comes g.input) _ moves.sent
      (ghost_moves f e ty g.k _ (comes g.input) _ moves.sent (room f frame e ty known w v o has calm) (has.fits.reals g.k)
      moves.moves) in
      record {
        is = true_happens f frame e ty known start first w v o x.is calm;
        spared = spared_happens f e w v o has.fits.frame x.spared;
        books = λ k. elim (cases_eq k g.k) [
          | inl same ↦
              let old = x.books k in
              let here = subst (λ n. (book_entry ((entity_flow e w).slot n)).0
              ≤ (book_entry ((entity_flow e (happens node_steps w v)).slot n)).0) (sym same) up in
              omega (arith, old, here)
          | inr apart ↦
              let old = x.books k in
              let here = ap (λ s. (book_entry s).0) (g.others k apart) in
              omega (arith, old, here)
        ];
      }

  pub risen_leads : RunsKeep HasRisen
  risen_leads = runs_keep HasRisen risen_happens

  -- a copy that is in a cell's book now is no older than the one that was there at the origin
  pub copies_rise : (w : World) → HasRisen w → IsTable e origin start first → (k : ℕ) (c d : GhostCopy) →
      (book_entry ((entity_flow e origin).slot k)).1 ≡ Some c → (book_entry ((entity_flow e w).slot k)).1 ≡ Some d → c.version ≤ d.version
  copies_rise w x told k c d was now =
      let old = told.books k in
      let new = x.is.told.books k in
      let at = (book_entry ((entity_flow e origin).slot k)).0 in
      let a : c ≡ x.is.table at = old.copy c was ∙ sym (x.is.kept at old.low) in
      let b = new.copy d now in
      let up = x.is.told.rises at (book_entry ((entity_flow e w).slot k)).0 (x.books k) new.low in
      let va = ap (λ y. y.version) a in
      let vb = ap (λ y. y.version) b in
      omega (arith, up, va, vb)
