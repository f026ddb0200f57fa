-- Clients in a round: what the records between rounds say of each entity is what its witness needs, to tell its client rightly.
use Rattle.seam_law_clients.proofs.Prelude.{◌≡◌, ℕ, ◌+◌, ◌⊎◌, Bool, true, false, is_some, List, [], length, Option, None, Some, refl, sym}
use Rattle.seam_law_clients.proofs.Prelude.{ap, ◌∙◌, subst, arith, inl, inr, option_map, slice_get, AllByRecursion, Event, properties_of}
use Rattle.seam_law_clients.proofs.Prelude.{Batch, Shown, RealView, WitnessView, Here, properties, has_any, PartView, ProxyView, line_if}
use Rattle.seam_law_clients.proofs.Prelude.{base_text, new_proxy, proxy_begins, part_begins, loaded, World, node_steps, node_has_work}
use Rattle.seam_law_clients.proofs.Prelude.{slot_at, letters_of, Frame, here_at, has_of, has_none, entity_flow, real_in, real_of}
use Rattle.seam_law_clients.proofs.Prelude.{HasNoProxy, sent_by, home_of, proxy_of, order_in, updates_at, shown_in, lines_in, shown_at}
use Rattle.seam_law_clients.proofs.Prelude.{HasClient, HasRoomFor, RunsTo, real_at, MayBeMade, framed, AreInStep, AreFor, MayBeLoaded}
use Rattle.seam_law_clients.proofs.Prelude.{IsServed, bare, served, FitsWitness, ClientsFit, FitsWithin, IsTrueBetween, TellsRightly}
use Rattle.seam_law_clients.proofs.Prelude.{true_between, leads_nowhere, sole_here, gone_leads, in_frame, frame_loaded, spared_loaded}
use Rattle.seam_law_clients.proofs.Prelude.{no_mail, Creation, nowhere, once, creation_of, middle, Somewhere, Nowhere, search_real}
use Rattle.seam_law_clients.proofs.Prelude.{bare_leads, client_leads, seen_leads, part_at, is_among, part_peopled, bare_peopled, part_if}
use Rattle.seam_law_clients.proofs.Prelude.{PartFrom, part_there, are_for_loaded, most_told, its_part, few_lines, told, serves_after}
use Rattle.seam_law_clients.proofs.Prelude.{ClientReplica, after_all_shown, ShowsRightly, IsQuiet}
use Rattle.std.specs.FinMap as table
use Rattle.seam_defs.specs.declared.flags.Group.TheVariants as group
use Rattle.seam_law_rounds.specs.Prelude.{NeverShown}
use Rattle.seam_law_rounds.proofs.PartTurns.{few_more}
use Rattle.seam_law_clients.proofs.Starts.{rightly_starts, shown_rightly}
use Rattle.seam_law_clients.proofs.Along.{rightly_leads}
use Rattle.seam_law_clients.proofs.Ending.{not_shown}

-- ---- a client that was shown no update

abbrev NoneShown : Option ProxyView → Type 0
NoneShown o = letters_of shown_in (lines_in o) ≡ []

begun_none : (o : Option ProxyView) → NoneShown (option_map proxy_begins o)
begun_none None = refl
begun_none (Some x) = refl

begun_from : (o : Option PartView) (p : PartView) → option_map part_begins o ≡ Some p → NoneShown p.proxy
begun_from None p is = absurd (let z = is in cc)
begun_from (Some q) p is =
    let same : part_begins q ≡ p = cc in
    subst (λ (z : PartView). NoneShown z.proxy) same (begun_none q.proxy)

-- the line of the base part is no update
line_none : (due : Bool) (h : Here) (p : PartView) → NoneShown (Some (line_if due (base_text h p) new_proxy))
line_none true h p = refl
line_none false h p = refl

joined_none : (joins : Bool) (h : Here) (p : PartView) → NoneShown p.proxy → NoneShown (part_if joins h p).proxy
joined_none true h p none =
    line_none (has_any (properties_of (properties h p.ty) group.BaseClient)) h (record p { proxy = Some new_proxy })
joined_none false h p none = none

-- ---- what the two remember within a round

fits_within : (f : Frame) (w : World) (r : RealView) (x : WitnessView) (c : ClientReplica) → FitsWitness f w r x c → FitsWithin f r x c
fits_within f w r x c fits = record {
  others = fits.others;
  view = fits.view;
  radius = fits.radius;
  hysteresis = fits.hysteresis;
  told = fits.told;
  not_ahead = fits.not_ahead;
  own = fits.own;
}

-- ---- a round

module _ (f : Frame) (w : World) (b : Batch) (may : MayBeLoaded f w b) where
  abbrev g : Frame
  g = framed f b

  abbrev start : World
  start = loaded w b

  -- ---- no client was shown an update yet

  module _ (e : ℕ) where
    abbrev home : ℕ
    home = home_of f e

    before_none : (p : PartView) (y : PartFrom f w b may.begin may.parts e home p) → Creation e b.creates → NoneShown y.part.proxy
    before_none p y (nowhere others) = begun_from (part_at e y.node) y.part (sym (part_peopled e b y.node others) ∙ y.was)
    before_none p y (once first c later is at others more) =
        let made : MayBeMade f w c =
        middle (MayBeMade f w) first c later (subst (AllByRecursion (MayBeMade f w)) is may.begin.fits.creates) in
        let new : (j : ℕ) → (entity_flow e w).slot j ≡ has_none = subst (λ q. (j : ℕ) → (entity_flow q w).slot j ≡ has_none) at made.new in
        let no_part = ap (λ o. (slot_at (has_of e) has_none o).base.part) (sym y.there) ∙ ap (λ h. h.base.part) (new home) in
        ap (λ o. letters_of shown_in (lines_in o)) (bare_peopled e b y.node no_part y.part y.was)

    none_at_start : (p : PartView) → ((entity_flow e start).slot home).base.part ≡ Some p → NoneShown p.proxy
    none_at_start p there =
        let y = part_there f w b may.begin may.parts e home p (slice_get w.nodes home) refl there in
        subst (λ (z : PartView). NoneShown z.proxy) y.is
        (joined_none (is_among e b.clients) (here_at f home) y.part (before_none p y (creation_of e b.creates may.begin.fits.once)))

  -- ---- an entity with a witness

  module _ (e k : ℕ) (r : RealView) (here : real_at e start k ≡ Some r) where
    abbrev most : ℕ
    most = sent_by r + most_told

    serves_loaded : IsServed g e r.ty start
    serves_loaded = serves_after f w b may e k r here start [] (leads_nowhere node_has_work node_steps start)

    room_loaded : HasRoomFor e most start
    room_loaded =
        let few = few_lines f w b may e k r here in
        let more = few_more f w b may e k r here (its_part f w b may e k r here) in
        omega (arith, few, more)

    module _ (x : WitnessView) (has : r.witness ≡ Some x) where
      -- it has a client
      client_of : IsServed g e r.ty start → (first : ℕ) × HasClient g e r.ty first start
      client_of (bare none unseen) = absurd (let z = sym (ap is_some has) ∙ unseen.cells k r here in cc)
      client_of (served first low client seen) = (first, client)

      abbrev first : ℕ
      first = (client_of serves_loaded).0

      client : HasClient g e r.ty first start
      client = (client_of serves_loaded).1

      in_step : (o : Option WitnessView) (p : Option ProxyView) (y : ProxyView) (version : ℕ) → o ≡ Some x → p ≡ Some y →
          AreFor o p version → AreInStep x y version
      in_step o p y version is at are =
          subst (λ (q : Option ProxyView). AreFor (Some x) q version) at (subst (λ (q : Option WitnessView). AreFor q p version) is are)

      -- whose first update is the witness's next
      due : x.sent + 1 ≡ first
      due =
          let step =
          in_step r.witness client.part.proxy client.proxy client.part.version has client.has
          (are_for_loaded f w b may.begin may.parts e k r here client.part client.here) in
          let order : updates_at ((entity_flow e start).slot (home e)) ≡ client.proxy.updates =
          ap (λ o. order_in (proxy_of o)) client.here ∙ ap order_in client.has in
          let none : shown_at ((entity_flow e start).slot (home e)) ≡ [] =
          ap (λ o. letters_of shown_in (lines_in (proxy_of o))) client.here ∙ none_at_start e client.part client.here in
          let many = ap length none in
          let same = ap (λ o. o.next) order in
          let next = client.delivery.next in
          let its = step.next in
          omega (arith, many, same, next, its)

      module _ (v : World) (es : List Event) (run : RunsTo start es v) where
        client_then : HasClient g e r.ty first v
        client_then =
            client_leads g e r.ty first most start v es client (spared_loaded f w b may.begin e k r here) room_loaded run
            (told f w b may e k r here v es run)

        tells_rightly : (c : ClientReplica) → FitsWitness g start r x c → IsTrueBetween g e (true_between g e start v) start v →
            TellsRightly g e r.ty first (true_between g e start v) c v
        tells_rightly c fits true_ =
            rightly_leads g e r.ty first most (true_between g e start v) c start v
            (λ u m. told f w b may e k r here u m.before m.from) true_ es
            (rightly_starts g e r.ty first (true_between g e start v) start client k r here x has due c (fits_within g start r x c fits))
            client (spared_loaded f w b may.begin e k r here) room_loaded run

  -- ---- an entity without a witness

  none_shown : (o : Option PartView) → HasNoProxy o → letters_of shown_in (lines_in (proxy_of o)) ≡ []
  none_shown None none = refl
  none_shown (Some p) none = ap (λ o. letters_of shown_in (lines_in o)) (none p refl)

  module _ (v : World) (es : List Event) (run : RunsTo start es v) (e k : ℕ) (r : RealView)
      (here : real_at e start k ≡ Some r) (unseen : r.witness ≡ None) where
    bare_shown : IsServed g e r.ty start → shown_at ((entity_flow e v).slot (home_of g e)) ≡ []
    bare_shown (bare none each) =
        none_shown ((entity_flow e v).slot (home_of g e)).base.part
        (bare_leads g e start v es (in_frame f w b may.begin) (spared_loaded f w b may.begin e k r here) none run
        (home_of g e))
    bare_shown (served n low client seen) = absurd (let z = sym (ap is_some unseen) ∙ seen.cells k r here in cc)

    pub nothing_shown : shown_at ((entity_flow e v).slot (home_of g e)) ≡ []
    nothing_shown = bare_shown (serves_loaded e k r here)

  -- ---- over a list of events

  module _ (clients : ℕ → ClientReplica) (fit : ClientsFit g clients start) (v : World) (es : List Event) (run : RunsTo start es v)
      (true_ : (e : ℕ) → IsTrueBetween g e (true_between g e start v) start v) where
    abbrev shown : ℕ → List Shown
    shown e = shown_at ((entity_flow e v).slot (home_of g e))

    abbrev shows : ℕ → ClientReplica
    shows e = after_all_shown (clients e) (shown e)

    pub client_shown : (e k : ℕ) (r : RealView) → real_at e start k ≡ Some r → (x : WitnessView) →
        r.witness ≡ Some x → ShowsRightly (true_between g e start v) e (clients e) (shown e)
    client_shown e k r here x has =
        shown_rightly g e r.ty (first e k r here x has) (true_between g e start v) v (clients e)
        (tells_rightly e k r here x has v es run (clients e) (fit.each e k r here x has) (true_ e))

    -- ---- where it is quiet

    -- what is so of each witness that told rightly is so of each that is there
    module _ (E : ℕ → RealView → WitnessView → Type 0)
        (ends : (e k first : ℕ) (r : RealView) (x : WitnessView) → real_at e start k ≡ Some r → r.witness ≡ Some x →
        (h : TellsRightly g e r.ty first (true_between g e start v) (clients e) v) → HasClient g e r.ty first v →
        E e h.one.real h.witness) where
      module _ (e j : ℕ) (q : RealView) (there : real_at e v j ≡ Some q) (y : WitnessView) (seen : q.witness ≡ Some y) where
        ends_told : (k n : ℕ) (r : RealView) (x : WitnessView) → real_at e start k ≡ Some r → r.witness ≡ Some x →
            (h : TellsRightly g e r.ty n (true_between g e start v) (clients e) v) → HasClient g e r.ty n v → E e q y
        ends_told k n r x here has h client =
            let one : q ≡ h.one.real = (sole_here real_in real_of (entity_flow e v) h.one.place h.one.real q j h.one.one there).1 in
            let same : h.witness ≡ y = some_is (sym h.has ∙ (ap (λ (z : RealView). z.witness) (sym one) ∙ seen)) in
            subst (λ (z : RealView). E e z y) (sym one)
            (subst (λ (z : WitnessView). E e h.one.real z) same (ends e k n r x here has h client))
          where
            some_is : {a b : WitnessView} → Some a ≡ Some b → a ≡ b
            some_is h = cc

        ends_by : (k : ℕ) (r : RealView) → real_at e start k ≡ Some r → (o : Option WitnessView) → r.witness ≡ o →
            IsServed g e r.ty start → E e q y
        ends_by k r here (Some x) has serves =
            ends_told k (first e k r here x has) r x here has
            (tells_rightly e k r here x has v es run (clients e) (fit.each e k r here x has) (true_ e))
            (client_then e k r here x has v es run)
        ends_by k r here None has (bare none each) =
            let still = seen_leads g e false start v es (in_frame f w b may.begin) each run in
            absurd (let z = sym (ap is_some seen) ∙ still.cells j q there in cc)
        ends_by k r here None has (served n low client each) = absurd (let z = sym (ap is_some has) ∙ each.cells k r here in cc)

        ends_where : Somewhere e start ⊎ Nowhere e start → E e q y
        ends_where (inl p) = ends_by p.0 p.1 p.2 p.1.witness refl (serves_loaded e p.0 p.1 p.2)
        ends_where (inr n) =
            let gone = gone_leads g (frame_loaded f w b may.begin) e start v es (in_frame f w b may.begin)
            (record { slots = n; mail = λ a k. ap (letters_of real_of) (no_mail f w b may.begin e a k) }) run in
            absurd (let z = sym (gone.slots j) ∙ there in cc)

      each_ends : (e j : ℕ) (q : RealView) → real_at e v j ≡ Some q → (y : WitnessView) → q.witness ≡ Some y → E e q y
      each_ends e j q there y seen = ends_where e j q there y seen (search_real e start)

    pub clients_fit : ((e ty first : ℕ) (c : ClientReplica) (r : RealView) (x : WitnessView) → FitsWitness g start r x c →
        (h : TellsRightly g e ty first (true_between g e start v) c v) → HasClient g e ty first v →
        FitsWitness g v h.one.real h.witness (after_all_shown c (shown e))) → ClientsFit g shows v
    clients_fit ends = record {
      each = each_ends (λ e q y. FitsWitness g v q y (shows e))
          (λ e k n r x here has h client. ends e r.ty n (clients e) r x (fit.each e k r here x has) h client);
    }

    -- whom no client was shown, and who has no real, none is shown
    pub never_shown_called : IsQuiet node_has_work v → (n : ℕ) → NeverShown start n → Nowhere n start → NeverShown v n
    never_shown_called quiet n never gone =
        each_ends (λ e q y. table.get y.view.shown n ≡ None) (λ e k m r x here has h client.
        not_shown g start v e r.ty m (clients e) h client quiet n
        (ap (λ z. table.get z.shown n) (fit.each e k r here x has).others ∙ never e k r here x has) gone)
