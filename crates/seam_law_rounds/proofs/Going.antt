-- What a loaded world has of each of its entities, and what it keeps of that over every list of events.
use Rattle.seam_law_rounds.proofs.Prelude.{◌≡◌, ℕ, ◌+◌, ◌<◌, List, arith, Some, sym, ap, ◌∙◌, IsQuiet, Event, Batch, RealView, holders}
use Rattle.seam_law_rounds.proofs.Prelude.{World, node_has_work, loaded, limit, letters_of, TokenPlace, In, On, Frame, entity_flow, burden}
use Rattle.seam_law_rounds.proofs.Prelude.{real_of, IsOne, IsSpared, IsFrame, HasOne, AllLead, from_sender, CellCallsInTurn, RunsTo}
use Rattle.seam_law_rounds.proofs.Prelude.{real_at, calls_of, next_from, IsSettled, framed, MayBegin, counted_one, one_counts}
use Rattle.seam_law_calls.proofs.CellRuns.{Kept, kept_leads}
use Rattle.seam_law_calls.proofs.Quieting.{all_executed}
use Rattle.seam_law_rounds.proofs.Framing.{many_loaded, in_frame}
use Rattle.seam_law_rounds.proofs.Ready.{has_one, spared_by, all_lead}
use Rattle.seam_law_rounds.proofs.Loaded.{Loaded, no_mail, real_loaded}
use Rattle.seam_law_rounds.proofs.Room.{room}
use Rattle.seam_law_rounds.proofs.Turns.{are_calls, calls_in_turn}

module _ (f : Frame) (w : World) (b : Batch) (begin : MayBegin f w b) where
  pub frame_loaded : IsFrame (framed f b)
  frame_loaded = record { defs = begin.between.frame.defs; tree = begin.fits.tree; later = tt }

  -- the real that one holder has is at a node
  home_by : (e : ℕ) (p : TokenPlace) (r : RealView) → IsOne e (loaded w b) p r →
      (k : ℕ) × (q : RealView) × (real_at e (loaded w b) k ≡ Some q)
  home_by e (In k) r one = (k, r, one.here)
  home_by e (On x y) r one =
      let none = ap (letters_of real_of) (no_mail f w b begin e x y) in
      absurd (let z = sym none ∙ one.here in cc)

  home_of : (e : ℕ) → holders (loaded w b) e ≡ 1 → (k : ℕ) × (q : RealView) × (real_at e (loaded w b) k ≡ Some q)
  home_of e one = let o = counted_one (loaded w b) e one in home_by e o.0 o.1 o.2

  module _ (e home : ℕ) (r : RealView) (here : real_at e (loaded w b) home ≡ Some r) where
    abbrev pub its : Loaded f w b begin e home r
    its = real_loaded f w b begin e home r here

    abbrev pub settled_loaded : IsSettled (framed f b) e home r (loaded w b)
    settled_loaded = its.settled

    pub room_loaded : burden e (loaded w b) + 1 < limit
    room_loaded = room f w b begin e home r its

    pub one_loaded : HasOne (framed f b) e r.ty (loaded w b)
    one_loaded =
        let more = room_loaded in
        has_one (framed f b) (loaded w b) e home r its.settled (no_mail f w b begin e) (in_frame f w b begin)
        (omega (arith, more))

    pub spared_loaded : IsSpared e (loaded w b)
    spared_loaded = spared_by (framed f b) (loaded w b) e home r its.settled (no_mail f w b begin e) its.spared

    pub lead_loaded : AllLead (entity_flow e (loaded w b))
    lead_loaded =
        all_lead (framed f b) (loaded w b) e home r its.settled (no_mail f w b begin e) (in_frame f w b begin)
        (many_loaded f w b begin.between) its.nexts

    -- what a run keeps
    abbrev pub Keeps : World → Type 0
    Keeps v =
        Kept (framed f b) frame_loaded e r.ty its.settled.type (λ s. next_from s r) (calls_of b e)
        (are_calls f w b begin e home r here)
        v

    pub kept_loaded : Keeps (loaded w b)
    kept_loaded = record {
      has = one_loaded;
      spared = spared_loaded;
      lead = lead_loaded;
      turns = calls_in_turn f w b begin e home r here;
      room = room_loaded;
    }

    module _ (v : World) (es : List Event) (run : RunsTo (loaded w b) es v) where
      pub kept_after : Keeps v
      kept_after =
          kept_leads (framed f b) frame_loaded e r.ty its.settled.type (λ s. next_from s r) (calls_of b e)
          (are_calls f w b begin e home r here) (loaded w b) v es kept_loaded run

      pub one_after : holders v e ≡ 1
      one_after = one_counts v e kept_after.has.place kept_after.has.real kept_after.has.one

      pub lead_after : AllLead (entity_flow e v)
      lead_after = kept_after.lead

      pub each_waits_once : CellCallsInTurn e (λ s. next_from s r) (calls_of b e) v
      each_waits_once = kept_after.turns

      pub all_were_executed : IsQuiet node_has_work v → (k : ℕ) (q : RealView) → real_at e v k ≡ Some q → (s : ℕ) →
          letters_of (from_sender s) q.done ≡ calls_of b e s
      all_were_executed quiet k q there s =
          all_executed (framed f b) e v kept_after.has.fits.frame quiet (λ x. next_from x r) (calls_of b e) kept_after.turns k q there s

  module _ (e : ℕ) (one : holders (loaded w b) e ≡ 1) (v : World) (es : List Event) (run : RunsTo (loaded w b) es v) where
    abbrev at : (k : ℕ) × (q : RealView) × (real_at e (loaded w b) k ≡ Some q)
    at = home_of e one

    pub keeps_one : holders v e ≡ 1
    keeps_one = one_after e at.0 at.1 at.2 v es run

    pub keeps_leading : AllLead (entity_flow e v)
    keeps_leading = lead_after e at.0 at.1 at.2 v es run
