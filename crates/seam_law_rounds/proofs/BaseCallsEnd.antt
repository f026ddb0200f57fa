-- Where the calls of a batch leave the world quiet, the record of base parts holds again.
use Rattle.seam_law_rounds.proofs.Prelude.{◌≡◌, ℕ, ◌≤◌, ◌+◌, ◌^◌, ◌<◌, ◌⊎◌, cond, List, [], ◌∷◌, Some, refl, sym, ap, ◌∙◌, subst, arith}
use Rattle.seam_law_rounds.proofs.Prelude.{inl, inr, eq-eqb, append-nil, append_cancel_left, IsQuiet, Event, item_at, Call as CallData}
use Rattle.seam_law_rounds.proofs.Prelude.{Batch, order_or, RealView, PartView, World, node_has_work, loaded, Flow, letters_of, number_from}
use Rattle.seam_law_rounds.proofs.Prelude.{Desk, Post, Mail, desk_of, parcel_of, AreInTurn, Frame, entity_flow, real_of, desk_for}
use Rattle.seam_law_rounds.proofs.Prelude.{part_desk, as_base_sender, home_of, HasBaseCalls, SeesFew, RunsTo, real_at, framed, numbers_of}
use Rattle.seam_law_rounds.proofs.Prelude.{next_to, base_calls_of, HasSettledPart, HasPartsBetweenRounds, MayBeLoaded, AreFor, lines_of}
use Rattle.seam_law_rounds.proofs.Prelude.{HasSmallNumbers, sole_here, held_is_due, burden_leads, gone_leads, version_room}
use Rattle.seam_law_rounds.proofs.Prelude.{base_burden_leads, all_executed, few_leads}
use Rattle.std.specs.FinMap as table
use Rattle.seam_law_rounds.proofs.Framing.{in_frame}
use Rattle.seam_law_rounds.proofs.Loaded.{no_mail, real_loaded}
use Rattle.seam_law_rounds.proofs.Room.{few_more as few_burden, real_room}
use Rattle.seam_law_rounds.proofs.Going.{frame_loaded, Keeps, kept_after}
use Rattle.seam_law_rounds.proofs.Shape.{Somewhere, Nowhere, search_real}
use Rattle.seam_law_rounds.proofs.Ticking.{few_loaded}
use Rattle.seam_law_rounds.proofs.PartsLoaded.{LoadedPart}
use Rattle.seam_law_rounds.proofs.Serving.{ends}
use Rattle.seam_law_rounds.proofs.PartTurns.{few_more}
use Rattle.seam_law_rounds.proofs.PartsGoing.{its_part, few_lines, told, sees_after, calls_then, serves_after}

-- ---- in a quiet world a part whose calls are in turn is settled

module _ (f : Frame) (e ty : ℕ) (first : ℕ → ℕ) (batch : ℕ → List CallData) (v : World) (h : HasBaseCalls f e ty first batch v)
    (quiet : IsQuiet node_has_work v) where
  abbrev part : PartView
  part = h.part.part

  module _ (s : ℕ) where
    abbrev seen : Flow (Post CallData) (Mail CallData)
    seen = as_base_sender s (entity_flow e v)

    abbrev turn : AreInTurn (first s) (batch s) seen
    turn = h.turns s

    abbrev desk : Desk CallData
    desk = desk_for s part.orders part.done

    desk_there : (seen.slot (home_of f e)).desk ≡ Some desk
    desk_there = ap (part_desk s) h.part.here

    desk_is : desk ≡ turn.desk
    desk_is = (sole_here desk_of parcel_of seen turn.place turn.desk desk (home_of f e) turn.in_turn.sole desk_there).1

    rest_none : turn.in_turn.rest ≡ []
    rest_none =
        let all = all_executed f e v h.part.frame quiet first batch h.turns (home_of f e) part h.part.here s in
        let done : turn.desk.done ≡ batch s = sym (ap (λ (d : Desk CallData). d.done) desk_is) ∙ all in
        append_cancel_left turn.desk.done turn.in_turn.rest []
        (sym turn.in_turn.parts ∙ (sym done ∙ sym (append-nil turn.desk.done)))

    none_by : (ps : List (ℕ × CallData)) → (order_or (table.get part.orders s)).held ≡ ps → ps ≡ []
    none_by [] is = refl
    none_by (p ∷ ps) is =
        let here : item_at p.0 (order_or (table.get part.orders s)).held ≡ Some p.1 =
        ap (item_at p.0) is ∙ ap (λ c. cond c (Some p.1) (item_at p.0 ps)) (eq-eqb p.0 p.0 refl) in
        let due = held_is_due (first s) (batch s) seen turn.place turn.desk turn.in_turn (home_of f e) p.0 p.1 desk desk_there here in
        absurd (let z = sym (ap (λ l. item_at p.0 (number_from turn.desk.order.next l)) rest_none) ∙ due in cc)

    held_none : (order_or (table.get part.orders s)).held ≡ []
    held_none = none_by (order_or (table.get part.orders s)).held refl

    next_one : 1 ≤ next_to s part
    next_one =
        let one = turn.in_turn.in_order.from_one in
        let same = ap (λ (d : Desk CallData). d.order.next) desk_is in
        omega (arith, one, same)

  pub quiet_settled : HasSettledPart f e ty v
  quiet_settled = record {
    part = part;
    here = h.part.here;
    others = h.part.others;
    type = h.part.type;
    none_held = held_none;
    from_one = next_one;
  }

-- ---- after a round's calls

module _ (f : Frame) (w : World) (b : Batch) (may : MayBeLoaded f w b) (v : World) (es : List Event) (run : RunsTo (loaded w b) es v) where
  abbrev g : Frame
  g = framed f b

  module _ (e home : ℕ) (r : RealView) (here : real_at e (loaded w b) home ≡ Some r) where
    abbrev its : LoadedPart f w b e r.ty
    its = its_part f w b may e home r here

    abbrev first : ℕ → ℕ
    first s = next_to s its.settled.part

    -- its real keeps its type
    same_type : (k : ℕ) (q : RealView) → real_at e v k ≡ Some q → r.ty ≡ q.ty
    same_type k q at =
        let kept : Keeps f w b may.begin e home r here v =
        kept_after f w b may.begin e home r here v es run in
        sym (kept.has.fits.reals k q at).type

  -- what is true of an entity of the loaded world and its real in v is true of each real in v
  each_by : (P : ℕ → ℕ → RealView → Type 0) →
      ((e home : ℕ) (r : RealView) → real_at e (loaded w b) home ≡ Some r → (k : ℕ) (q : RealView) → real_at e v k ≡ Some q → P e k q) →
      (e k : ℕ) (q : RealView) → real_at e v k ≡ Some q → Somewhere e (loaded w b) ⊎ Nowhere e (loaded w b) → P e k q
  each_by P its e k q at (inl p) = its e p.0 p.1 p.2 k q at
  each_by P its e k q at (inr n) =
      let gone = gone_leads g (frame_loaded f w b may.begin) e (loaded w b) v es (in_frame f w b may.begin)
      (record { slots = n; mail = λ x y. ap (letters_of real_of) (no_mail f w b may.begin e x y) }) run in
      absurd (let z = sym (gone.slots k) ∙ at in cc)

  each : (P : ℕ → ℕ → RealView → Type 0) →
      ((e home : ℕ) (r : RealView) → real_at e (loaded w b) home ≡ Some r → (k : ℕ) (q : RealView) → real_at e v k ≡ Some q → P e k q) →
      (e k : ℕ) (q : RealView) → real_at e v k ≡ Some q → P e k q
  each P its e k q at = each_by P its e k q at (search_real e (loaded w b))

  calls_of_it : (e home : ℕ) (r : RealView) (here : real_at e (loaded w b) home ≡ Some r) →
      HasBaseCalls g e r.ty (first e home r here) (base_calls_of b e) v
  calls_of_it e home r here = calls_then f w b may e home r here v es run

  -- ---- its numbers

  few_numbers : (e home : ℕ) (r : RealView) → real_at e (loaded w b) home ≡ Some r → (k : ℕ) (q : RealView) →
      real_at e v k ≡ Some q → numbers_of q < 2 ^ 61 + 2 ^ 60
  few_numbers e home r here k q at =
      let few = few_burden f w b may.begin e home r (real_loaded f w b may.begin e home r here) in
      let less = burden_leads g e (loaded w b) v es (in_frame f w b may.begin) run in
      let its = real_room e v k q at in
      omega (arith, few, less, its)

  few_shown : (e home : ℕ) (r : RealView) → real_at e (loaded w b) home ≡ Some r → (k : ℕ) (q : RealView) → real_at e v k ≡ Some q →
      (p : PartView) → ((entity_flow e v).slot (home_of g e)).base.part ≡ Some p → lines_of q p < 2 ^ 61 + 2 ^ 60
  few_shown e home r here k q at p there =
      let few = few_lines f w b may e home r here in
      let sent = (told f w b may e home r here v es run).cells k q at in
      let more = few_more f w b may e home r here (its e home r here) in
      let less = base_burden_leads g e (loaded w b) v es (in_frame f w b may.begin) run in
      let version = version_room e v (home_of g e) p there in
      omega (arith, few, sent, more, less, version)

  pub calls_end_small : HasSmallNumbers g v
  calls_end_small = record {
    reals = each (λ e k q. numbers_of q < 2 ^ 61 + 2 ^ 60) few_numbers;
    clients =
        each
        (λ e k q. (p : PartView) → ((entity_flow e v).slot (home_of g e)).base.part ≡ Some p → lines_of q p < 2 ^ 61 + 2 ^ 60)
        few_shown;
  }

  module _ (quiet : IsQuiet node_has_work v) where
    settled_at : (e home : ℕ) (r : RealView) → real_at e (loaded w b) home ≡ Some r → (k : ℕ) (q : RealView) →
        real_at e v k ≡ Some q → HasSettledPart g e q.ty v
    settled_at e home r here k q at =
        subst (λ t. HasSettledPart g e t v) (same_type e home r here k q at)
        (quiet_settled g e r.ty (first e home r here) (base_calls_of b e) v (calls_of_it e home r here) quiet)

    are_at : (e home : ℕ) (r : RealView) → real_at e (loaded w b) home ≡ Some r → (k : ℕ) (q : RealView) → real_at e v k ≡ Some q →
        (p : PartView) → ((entity_flow e v).slot (home_of g e)).base.part ≡ Some p → AreFor q.witness p.proxy p.version
    are_at e home r here k q at p there =
        ends g e r.ty v (calls_of_it e home r here).part.frame quiet k q at p there
        (serves_after f w b may e home r here v es run)

    pub calls_end_with_parts : HasPartsBetweenRounds g v
    calls_end_with_parts = record {
      parts = each (λ e k q. HasSettledPart g e q.ty v) settled_at;
      clients =
          each
          (λ e k q. (p : PartView) → ((entity_flow e v).slot (home_of g e)).base.part ≡ Some p → AreFor q.witness p.proxy p.version)
          are_at;
      entities = λ e le.
          (few_leads g (loaded w b) v es (in_frame f w b may.begin)
          (few_loaded f w b may.begin may.parts may.brings) run e le).cells;
      views = each (λ e k q. SeesFew q) (λ e home r here. sees_after f w b may e home r here v es run);
    }
