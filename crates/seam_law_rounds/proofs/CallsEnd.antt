-- Where the calls of a batch leave the world quiet, the record between rounds holds again.
use Rattle.seam_law_rounds.proofs.Prelude.{◌≡◌, ℕ, ◌+◌, ◌<◌, ◌≤◌, ◌⊎◌, cond, is_some, List, [], ◌∷◌, None, Some, refl, sym, ap, ◌∙◌, subst}
use Rattle.seam_law_rounds.proofs.Prelude.{arith, inl, inr, AllByRecursion, eq-eqb, append-nil, append_cancel_left, IsQuiet, Event, item_at}
use Rattle.seam_law_rounds.proofs.Prelude.{Call as CallData, Batch, order_or, RealView, Msg, cell_count, World, node_has_work, loaded, Flow}
use Rattle.seam_law_rounds.proofs.Prelude.{letters_of, NotAbove, AllBring, TokenPlace, In, On, number_from, Desk, desk_of, parcel_of}
use Rattle.seam_law_rounds.proofs.Prelude.{AreInTurn, Frame, Has, mine, entity_flow, RealFits, real_in, real_of, IsOne, OneFrom, desk_for}
use Rattle.seam_law_rounds.proofs.Prelude.{real_desk, as_sender, RunsTo, real_at, calls_of, next_from, IsSettled, IsBetweenRounds, framed}
use Rattle.seam_law_rounds.proofs.Prelude.{as_entry, route_entry, sent_route, MayBegin, quiet_links, sole_here, held_is_due, gone_leads}
use Rattle.seam_law_rounds.proofs.Prelude.{one_leads, frame_leads}
use Rattle.std.specs.FinMap as table
use Rattle.seam_law_rounds.proofs.Framing.{in_frame, many_loaded}
use Rattle.seam_law_rounds.proofs.Loaded.{no_mail, keeps_loaded}
use Rattle.seam_law_rounds.proofs.Ready.{one_at_home}
use Rattle.seam_law_rounds.proofs.Going.{frame_loaded, settled_loaded, one_loaded, spared_loaded, Keeps, kept_after, all_were_executed}
use Rattle.seam_law_rounds.proofs.Shape.{Somewhere, Nowhere, search_real, keeps_leads, many_leads}
use Rattle.seam_law_rounds.proofs.Publics.{public_low}
use Rattle.seam_law_rounds.proofs.RoadMoves.{IsGoodRoute}
use Rattle.seam_law_rounds.proofs.RoadRuns.{IsRouted, routed_leads, quiet_route}

-- where there is one real, no other node has one
others_by : (e : ℕ) (w : World) (p : TokenPlace) (r : RealView) (k : ℕ) → IsOne e w p r → p ≡ In k → (j : ℕ) → (j ≡ k → ⊥) →
    real_at e w j ≡ None
others_by e w (In x) r k one is j n = one.others j (λ at. n (let same : x ≡ k = let z = is in cc in at ∙ same))
others_by e w (On x y) r k one is j n = cc

module _ (f : Frame) (w : World) (b : Batch) (begin : MayBegin f w b) where
  abbrev pub g : Frame
  g = framed f b

  -- ---- routes

  module _ (e home : ℕ) (r : RealView) (here : real_at e (loaded w b) home ≡ Some r) where
    abbrev pub settled : IsSettled g e home r (loaded w b)
    settled = settled_loaded f w b begin e home r here

    abbrev pub then : Flow Has Msg
    then = entity_flow e (loaded w b)

    pub entry_is : (k : ℕ) → cell_count ≤ k → k < cell_count + f.settings.bases → route_entry (then.slot k) ≡ (r.generation, home)
    entry_is k high low = ap as_entry (settled.routes k high low)

    abbrev pub routed_loaded : IsRouted g e (loaded w b)
    routed_loaded = record {
      place = In home;
      real = r;
      one = one_at_home g (loaded w b) e home r settled (no_mail f w b begin e);
      good = λ a k. subst (AllByRecursion IsGoodRoute) (sym (no_mail f w b begin e a k)) tt;
      there = λ k high low. ap is_some (settled.routes k high low);
      known = λ k high low. record {
        here = subst (NotAbove r.generation home) (sym (entry_is k high low)) (inr (refl, refl));
        away = λ x. subst (AllBring sent_route (NotAbove r.generation home)) (sym (no_mail f w b begin e x k)) tt;
        found = inl (entry_is k high low);
      };
    }

  module _ (v : World) (es : List Event) (run : RunsTo (loaded w b) es v) (quiet : IsQuiet node_has_work v) where
    still : (e x y : ℕ) → (entity_flow e v).mail x y ≡ []
    still e x y =
        ap (letters_of (mine e))
        (quiet_links node_has_work v (frame_leads g (loaded w b) v es (in_frame f w b begin) run).sound.square quiet x y)

    module _ (e home : ℕ) (r : RealView) (here : real_at e (loaded w b) home ≡ Some r) (k : ℕ) (q : RealView)
        (at : real_at e v k ≡ Some q) where
      abbrev kept : Keeps f w b begin e home r here v
      kept = kept_after f w b begin e home r here v es run

      -- ---- its calls

      module _ (s : ℕ) where
        abbrev turn : AreInTurn (next_from s r) (calls_of b e s) (as_sender s (entity_flow e v))
        turn = kept.turns s

        desk_there : ((as_sender s (entity_flow e v)).slot k).desk ≡ Some (desk_for s q.orders q.done)
        desk_there = ap (real_desk s) at

        desk_is : desk_for s q.orders q.done ≡ turn.desk
        desk_is =
            (sole_here desk_of parcel_of (as_sender s (entity_flow e v)) turn.place turn.desk (desk_for s q.orders q.done) k
            turn.in_turn.sole desk_there).1

        rest_none : turn.in_turn.rest ≡ []
        rest_none =
            let all = all_were_executed f w b begin e home r here v es run quiet k q at s in
            let done : turn.desk.done ≡ calls_of b e s = sym (ap (λ (d : Desk CallData). d.done) desk_is) ∙ all in
            append_cancel_left turn.desk.done turn.in_turn.rest []
            (sym turn.in_turn.parts ∙ (sym done ∙ sym (append-nil turn.desk.done)))

        none_by : (ps : List (ℕ × CallData)) → (order_or (table.get q.orders s)).held ≡ ps → ps ≡ []
        none_by [] is = refl
        none_by (p ∷ ps) is =
            let first : item_at p.0 (order_or (table.get q.orders s)).held ≡ Some p.1 =
            ap (item_at p.0) is ∙ ap (λ c. cond c (Some p.1) (item_at p.0 ps)) (eq-eqb p.0 p.0 refl) in
            let due =
            held_is_due (next_from s r) (calls_of b e s) (as_sender s (entity_flow e v)) turn.place turn.desk turn.in_turn k p.0 p.1
            (desk_for s q.orders q.done) desk_there first in
            absurd (let z = sym (ap (λ l. item_at p.0 (number_from turn.desk.order.next l)) rest_none) ∙ due in cc)

        held_none : (order_or (table.get q.orders s)).held ≡ []
        held_none = none_by (order_or (table.get q.orders s)).held refl

        next_one : 1 ≤ next_from s q
        next_one =
            let one = turn.in_turn.in_order.from_one in
            let same = ap (λ (d : Desk CallData). d.order.next) desk_is in
            omega (arith, one, same)

      -- ---- its real

      replayed : OneFrom g e r.ty (one_loaded f w b begin e home r here).real v
      replayed =
          one_leads g (frame_loaded f w b begin) e r.ty (settled e home r here).type (loaded w b) v es
          (one_loaded f w b begin e home r here) (spared_loaded f w b begin e home r here) run

      start_low : (one_loaded f w b begin e home r here).real.public ≤ (one_loaded f w b begin e home r here).real.version
      start_low =
          let one = one_loaded f w b begin e home r here in
          let same = (sole_here real_in real_of (entity_flow e (loaded w b)) one.place one.real r home one.one here).1 in
          subst (λ (x : RealView). x.public ≤ x.version) same (settled e home r here).public

      public_then : q.public ≤ q.version
      public_then =
          let has = replayed.has in
          let same = (sole_here real_in real_of (entity_flow e v) has.place has.real q k has.one at).1 in
          subst (λ (x : RealView). x.public ≤ x.version) (sym same) (public_low g _ has.real start_low replayed.replays)

      settled_then : IsSettled g e k q v
      settled_then =
          let has = kept.has in
          let place = (sole_here real_in real_of (entity_flow e v) has.place has.real q k has.one at).0 in
          let fit = has.fits.reals k q at in
          let type = fit.type in
          let old = (settled e home r here).type in
          record {
            here = at;
            others = others_by e v has.place has.real k has.one place;
            type = omega (arith, type, old);
            fits = subst (λ t. RealFits g e t k q) (sym type) fit;
            public = public_then;
            routes = quiet_route g e v
                (routed_leads g e (frame_loaded f w b begin) r.ty old (loaded w b) v es (one_loaded f w b begin e home r here)
                (spared_loaded f w b begin e home r here) (routed_loaded e home r here) run) (still e) k q at;
            none_held = held_none;
            from_one = next_one;
          }

    settled_by : (e k : ℕ) (q : RealView) → real_at e v k ≡ Some q → Somewhere e (loaded w b) ⊎ Nowhere e (loaded w b) → IsSettled g e k q v
    settled_by e k q at (inl p) = settled_then e p.0 p.1 p.2 k q at
    settled_by e k q at (inr n) =
        let gone = gone_leads g (frame_loaded f w b begin) e (loaded w b) v es (in_frame f w b begin)
        (record { slots = n; mail = λ x y. ap (letters_of real_of) (no_mail f w b begin e x y) }) run in
        absurd (let z = sym (gone.slots k) ∙ at in cc)

    pub calls_end_between : IsBetweenRounds g v
    calls_end_between = record {
      frame = frame_loaded f w b begin;
      nodes = frame_leads g (loaded w b) v es (in_frame f w b begin) run;
      many = many_leads (loaded w b) v es run ∙ many_loaded f w b begin.between;
      quiet = quiet;
      settled = λ e k q at. settled_by e k q at (search_real e (loaded w b));
      kept = λ e k q at. keeps_leads e (loaded w b) v es (keeps_loaded w b e) run;
    }
