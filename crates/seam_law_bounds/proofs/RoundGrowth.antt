-- What a round adds to the numbers of a world.
use Rattle.seam_law_bounds.proofs.Prelude.{◌≡◌, ℕ, ◌+◌, ◌*◌, ◌≤◌, ◌⊎◌, List, length, Option, None, Some, refl, sym, ap, ◌∙◌, subst, arith}
use Rattle.seam_law_bounds.proofs.Prelude.{inl, inr, slice_get, AllByRecursion, mul-le-mul_left, Batch, RealView, WitnessView, CellView}
use Rattle.seam_law_bounds.proofs.Prelude.{loaded, World, Cell, slot_at, letters_of, Frame, has_of, has_none, real_in, real_of, sent_of}
use Rattle.seam_law_bounds.proofs.Prelude.{sent_by, HasToldAtMost, real_at, framed, numbers_of, MayBeLoaded, AreCopiesBetweenRounds}
use Rattle.seam_law_bounds.proofs.Prelude.{GoesThroughRound, HadSameReal, having_looked, looked_by, LooksAmong, LooksFit, Always, AreAtMost}
use Rattle.seam_law_bounds.proofs.Prelude.{burden_leads, gone_leads, in_frame, frame_loaded, no_mail, no_held, weighs, real_room, Somewhere}
use Rattle.seam_law_bounds.proofs.Prelude.{Nowhere, search_real, called_between, cell_at}
use Rattle.std.specs.FinMap as table
use Rattle.seam_law_rounds.proofs.Loaded.{real_loaded}
use Rattle.seam_law_rounds.proofs.Ticking.{looks_loaded}
use Rattle.seam_law_bounds.proofs.There.{had_loaded}
use Rattle.seam_law_clients.proofs.Reaping.{stays}
use Rattle.seam_law_bounds.proofs.ToldCounts.{tells_few}
use Rattle.seam_law_bounds.proofs.Telling.{tells_at_most}

module _ (f : Frame) (w : World) (b : Batch) (may : MayBeLoaded f w b) where
  abbrev g : Frame
  g = framed f b

  abbrev start : World
  start = loaded w b

  -- ---- as it is loaded

  numbers_loaded : (n : ℕ) → AreAtMost numbers_of n w → AreAtMost numbers_of n start
  numbers_loaded n low e k =
      had_loaded (λ r. numbers_of r ≤ n) (λ h x. omega arith) (λ h r le. le) (λ r le. le) e w b k (λ r at. low e k r at)

  told_loaded : (n : ℕ) → AreAtMost sent_by n w → AreAtMost sent_by n start
  told_loaded n low e k =
      had_loaded (λ r. sent_by r ≤ n) (λ h x. omega arith) (λ h r le. omega arith) (λ r le. le) e w b k (λ r at. low e k r at)

  module _ (copies : AreCopiesBetweenRounds f w) (v : World) (round : GoesThroughRound w b v) where
    -- ---- the numbers of reals

    calls_by : (n : ℕ) → AreAtMost numbers_of n w → (e k : ℕ) (q : RealView) → real_at e round.called k ≡ Some q →
        Somewhere e start ⊎ Nowhere e start → numbers_of q ≤ n + (3 * length b.orders + 2)
    calls_by n low e k q at (inl p) =
        let first = numbers_loaded n low e p.0 p.1 p.2 in
        let loaded = real_loaded f w b may.begin e p.0 p.1 p.2 in
        let none = no_held p.1.orders loaded.settled.none_held in
        let load = weighs f w b may.begin e p.0 p.1 loaded in
        let less = burden_leads g e start round.called round.call_events (in_frame f w b may.begin) round.calls in
        let its = real_room e round.called k q at in
        omega (arith, first, none, load, less, its)
    calls_by n low e k q at (inr none) =
        let gone = gone_leads g (frame_loaded f w b may.begin) e start round.called round.call_events
        (in_frame f w b may.begin)
        (record { slots = none; mail = λ x y. ap (letters_of real_of) (no_mail f w b may.begin e x y) }) round.calls in
        absurd (let z = sym (gone.slots k) ∙ at in cc)

    -- a real of the end, as the calls left it
    before_looks : ((e k : ℕ) (q : RealView) → real_at e v k ≡ Some q → HadSameReal e k q round.reaped) → (e k : ℕ) (q : RealView) →
        real_at e v k ≡ Some q → (r : RealView) × (real_at e round.reaped k ≡ Some r) × (real_at e round.called k ≡ Some r) ×
        (numbers_of q ≡ numbers_of r)
    before_looks leave e k q at =
        let was = leave e k q at in (
          was.real,
          was.here,
          stays g round.called (called_between f w b may copies v round) round.gone round.may round.reap_events round.reaped round.reaps e k
              was.real was.here,
          ap numbers_of was.same,
        )

    pub numbers_most : ((e k : ℕ) (q : RealView) → real_at e v k ≡ Some q → HadSameReal e k q round.reaped) → (n : ℕ) →
        AreAtMost numbers_of n w → AreAtMost numbers_of (n + (3 * length b.orders + 2)) v
    numbers_most leave n low e k q at =
        let was = before_looks leave e k q at in
        subst (λ m. m ≤ n + (3 * length b.orders + 2)) (sym was.3) (calls_by n low e k was.0 was.2 (search_real e start))

    -- ---- what witnesses told

    module _ (us ws : List ℕ)
        (few : (u : World) → LooksAmong us (λ k. ws) u →
        LooksFit (record { bases = 0; lines = length us; witnesses = λ k. length ws }) u) (among : Always (LooksAmong us (λ k. ws)) start)
        (among_reaped : LooksAmong us (λ k. ws) round.reaped) where
      abbrev lines : ℕ
      lines = 1 + length us

      module _ (n : ℕ) (low : AreAtMost sent_by n w) (e : ℕ) where
        told_first : HasToldAtMost e n start
        told_first = record {
          cells = λ k r at. told_loaded n low e k r at;
          hands = λ a k.
              subst (AllByRecursion (λ m. (r : RealView) → real_of m ≡ Some r → sent_by r ≤ n))
              (sym (no_mail f w b may.begin e a k)) tt;
        }

        told_called : (k : ℕ) (q : RealView) → real_at e round.called k ≡ Some q → sent_by q ≤ n + lines * (16 * length b.orders)
        told_called k q at =
            let all = (tells_at_most g may.begin.fits.tree.cells_to us ws few start among e n (in_frame f w b may.begin) told_first
            round.called round.call_events round.calls).cells k q at in
            let left = mul-le-mul_left lines (looks_loaded f w b may.begin may.parts may.brings e) in
            omega (arith, all, left)

        -- one look more
        told_looked : (k : ℕ) (r : RealView) (cell : CellView) → slice_get round.reaped.nodes k ≡ Some (Cell cell) →
            real_at e round.reaped k ≡ Some r → table.get cell.reals e ≡ Some r → (o : Option WitnessView) →
            r.witness ≡ o → sent_by (having_looked cell e r) ≤ sent_by r + lines
        told_looked k r cell node at here None none =
            let now = ap (λ o. sent_by (looked_by cell e r o)) none in omega (arith, now)
        told_looked k r cell node at here (Some x) has =
            let few_lines = tells_few us ws few round.reaped among_reaped k cell node e r x here has in
            let now = ap (λ o. sent_by (looked_by cell e r o)) has in
            let was = ap sent_of has in
            omega (arith, now, was, few_lines)

        pub told_end : (leave : (e k : ℕ) (q : RealView) → real_at e v k ≡ Some q → HadSameReal e k q round.reaped)
            (looked : (e k : ℕ) (r : RealView) → real_at e round.reaped k ≡ Some r → (cell : CellView) →
            slice_get round.reaped.nodes k ≡ Some (Cell cell) → real_at e v k ≡ Some (having_looked cell e r))
            (k : ℕ) (q : RealView) → real_at e v k ≡ Some q → sent_by q ≤ n + lines * (16 * length b.orders + 1)
        told_end leave looked k q at =
            let was = before_looks leave e k q at in
            let cell = cell_at e k round.reaped was.0 (slice_get round.reaped.nodes k) refl was.1 in
            let here = cell_has cell.0 k was.0 cell.1 was.1 in
            let same : having_looked cell.0 e was.0 ≡ q = (let z = sym (looked e k was.0 was.1 cell.0 cell.1) ∙ at in cc) in
            let look = told_looked k was.0 cell.0 cell.1 was.1 here was.0.witness refl in
            let first = told_called k was.0 was.2 in
            let is = ap sent_by same in
            let split : lines * (16 * length b.orders + 1) ≡ lines * (16 * length b.orders) + lines = omega arith in
            omega (arith, look, first, is, split)
          where
            cell_has : (cell : CellView) (k : ℕ) (r : RealView) → slice_get round.reaped.nodes k ≡ Some (Cell cell) →
                real_at e round.reaped k ≡ Some r → table.get cell.reals e ≡ Some r
            cell_has cell k r node at = sym (ap (λ o. real_in (slot_at (has_of e) has_none o)) node) ∙ at
