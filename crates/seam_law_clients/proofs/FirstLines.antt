-- What a client was shown of the base part where a batch is loaded: the part, where it was just attached, and nothing else.
use Rattle.seam_law_clients.proofs.Prelude.{◌≡◌, ℕ, Bool, true, false, cond, eqb, List, [], ◌++◌, Option, None, Some, refl, sym, ap, ◌∙◌}
use Rattle.seam_law_clients.proofs.Prelude.{subst, option_map, slice_get, AllByRecursion, list_any, IsQuiet, Event, properties_of, Batch}
use Rattle.seam_law_clients.proofs.Prelude.{Here, properties, RealView, has_any, PartView, ProxyView, line_if, base_text, World}
use Rattle.seam_law_clients.proofs.Prelude.{node_has_work, new_proxy, proxy_begins, part_begins, loaded, slot_at, letters_of, Frame}
use Rattle.seam_law_clients.proofs.Prelude.{here_at, has_of, has_none, entity_flow, from_sender, home_of, RunsTo, real_at, MayBeMade}
use Rattle.seam_law_clients.proofs.Prelude.{framed, base_calls_of, MayBeLoaded, base_lines, line_where, first_lines, ShowsItsPart, in_frame}
use Rattle.seam_law_clients.proofs.Prelude.{spared_loaded, Creation, nowhere, once, creation_of, middle, part_at, is_among, part_peopled}
use Rattle.seam_law_clients.proofs.Prelude.{bare_peopled, part_if, PartFrom, part_there, its_part, executed_then}
use Rattle.seam_defs.specs.declared.flags.Group.TheVariants as group
use Rattle.seam_law_clients.proofs.BaseLines.{shows_its_part}
use Rattle.seam_law_clients.proofs.Loading.{among_is}

some_is : {A : Type 0} {a b : A} → Some a ≡ Some b → a ≡ b
some_is h = cc

module _ (h : Here) (p : PartView) where
  -- one that is attached
  new_lines : (due : Bool) → base_lines (line_if due (base_text h p) new_proxy).lines ≡ line_where due (base_text h p)
  new_lines true = refl
  new_lines false = refl

-- one that was there begins the round with no lines
begun_lines : (o : Option ProxyView) (x : ProxyView) → option_map proxy_begins o ≡ Some x → x.lines ≡ []
begun_lines None x is = absurd (let z = is in cc)
begun_lines (Some y) x is = ap (λ (z : ProxyView). z.lines) (sym (some_is is))

begun_part : (o : Option PartView) (p : PartView) (x : ProxyView) → option_map part_begins o ≡ Some p → p.proxy ≡ Some x → x.lines ≡ []
begun_part None p x is has = absurd (let z = is in cc)
begun_part (Some q) p x is has = begun_lines q.proxy x (ap (λ (z : PartView). z.proxy) (some_is is) ∙ has)

module _ (f : Frame) (w : World) (b : Batch) (may : MayBeLoaded f w b) where
  abbrev start : World
  start = loaded w b

  module _ (e : ℕ) where
    abbrev home : ℕ
    home = home_of f e

    abbrev From : PartView → Type 0
    From p = PartFrom f w b may.begin may.parts e home p

    old_lines : (p : PartView) (y : From p) (x : ProxyView) → y.part.proxy ≡ Some x → Creation e b.creates → x.lines ≡ []
    old_lines p y x has (nowhere others) = begun_part (part_at e y.node) y.part x (sym (part_peopled e b y.node others) ∙ y.was) has
    old_lines p y x has (once first c later is at others more) =
        let made : MayBeMade f w c =
        middle (MayBeMade f w) first c later (subst (AllByRecursion (MayBeMade f w)) is may.begin.fits.creates) in
        let new : (j : ℕ) → (entity_flow e w).slot j ≡ has_none = subst (λ q. (j : ℕ) → (entity_flow q w).slot j ≡ has_none) at made.new in
        let none = ap (λ o. (slot_at (has_of e) has_none o).base.part) (sym y.there) ∙ ap (λ s. s.base.part) (new home) in
        absurd (let z = sym (bare_peopled e b y.node none y.part y.was) ∙ has in cc)

    lines_by : (p : PartView) (y : From p) (x : ProxyView) (joins : Bool) → is_among e b.clients ≡ joins →
        part_if joins (here_at f home) y.part ≡ p → p.proxy ≡ Some x → base_lines x.lines ≡ cond joins (first_lines (here_at f home) p) []
    lines_by p y x true is made has =
        let h = here_at f home in
        let due = has_any (properties_of (properties h y.part.ty) group.BaseClient) in
        let q : PartView = record y.part { proxy = Some new_proxy } in
        let same : line_if due (base_text h q) new_proxy ≡ x = some_is (ap (λ (z : PartView). z.proxy) made ∙ has) in
        ap (λ (z : ProxyView). base_lines z.lines) (sym same) ∙ new_lines h q due ∙ ap (first_lines h) made
    lines_by p y x false is made has =
        ap base_lines (old_lines p y x (ap (λ (z : PartView). z.proxy) made ∙ has) (creation_of e b.creates may.begin.fits.once))

    pub loaded_lines : (p : PartView) (x : ProxyView) → ((entity_flow e start).slot home).base.part ≡ Some p → p.proxy ≡ Some x →
        base_lines x.lines ≡ cond (list_any (λ q. eqb q e) b.clients) (first_lines (here_at f home) p) []
    loaded_lines p x there has =
        let y = part_there f w b may.begin may.parts e home p (slice_get w.nodes home) refl there in
        subst (λ j. base_lines x.lines ≡ cond j (first_lines (here_at f home) p) []) (sym (among_is e b.clients))
        (lines_by p y x (is_among e b.clients) refl y.is has)

    -- ---- in the round

    module _ (k : ℕ) (r : RealView) (here : real_at e start k ≡ Some r) (v : World) (es : List Event) (run : RunsTo start es v)
        (p : PartView) (x : ProxyView) (there : ((entity_flow e start).slot home).base.part ≡ Some p) (has : p.proxy ≡ Some x) where
      pub round_shows : ShowsItsPart (here_at f home) p x ((entity_flow e v).slot home).base.part
      round_shows =
          shows_its_part (framed f b) e start v es (in_frame f w b may.begin)
          (spared_loaded f w b may.begin e k r here) run home p x there has

      idle : p.done ≡ []
      idle =
          let its = its_part f w b may e k r here in
          let same : its.settled.part ≡ p = some_is (sym its.settled.here ∙ there) in
          ap (λ (q : PartView). q.done) (sym same) ∙ its.idle

      pub all_called : IsQuiet node_has_work v → (h : ShowsItsPart (here_at f home) p x ((entity_flow e v).slot home).base.part) → (s : ℕ) →
          letters_of (from_sender s) h.calls ≡ base_calls_of b e s
      all_called quiet h s =
          ap (letters_of (from_sender s)) (sym (h.done ∙ ap (λ l. l ++ h.calls) idle))
          ∙ executed_then f w b may e k r here v es run quiet home h.part h.is s
