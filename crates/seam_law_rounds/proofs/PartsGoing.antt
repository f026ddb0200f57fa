-- What a loaded world has of each base part, and what it keeps of that over every list of events.
use Rattle.seam_law_rounds.proofs.Prelude.{◌≡◌, ℕ, ◌+◌, ◌^◌, ◌<◌, ◌≤◌, List, ◌∷◌, Some, sym, ap, ◌∙◌, subst, arith, inl, inr, cases_eq}
use Rattle.seam_law_rounds.proofs.Prelude.{IsQuiet, Event, Batch, RealView, Msg, Update, PartView, World, node_has_work, loaded, letters_of}
use Rattle.seam_law_rounds.proofs.Prelude.{Frame, entity_flow, from_sender, sent_by, home_of, HasBaseCalls, FindsClient, NothingIsStray}
use Rattle.seam_law_rounds.proofs.Prelude.{SeesFew, looks_left, RunsTo, real_at, framed, next_to, base_calls_of, MayBeLoaded, lines_of}
use Rattle.seam_law_rounds.proofs.Prelude.{IsServed, bare, served, alone_leads, all_executed, alone_without_stray, client_without_stray}
use Rattle.seam_law_rounds.proofs.Prelude.{both_leads}
use Rattle.seam_call.specs.declared.shown.Update.{Update as UpdateData}
use Rattle.seam_law_rounds.proofs.Framing.{in_frame}
use Rattle.seam_law_rounds.proofs.Loaded.{no_mail}
use Rattle.seam_law_rounds.proofs.Going.{frame_loaded, settled_loaded, one_loaded, spared_loaded}
use Rattle.seam_law_rounds.proofs.Ticking.{most_told, TellsFew, tells_few, sees_then, few_loaded, looks_loaded}
use Rattle.seam_law_rounds.proofs.Attaching.{are_for_loaded, lines_loaded, sees_loaded}
use Rattle.seam_law_rounds.proofs.Updates.{update_finds}
use Rattle.seam_law_rounds.proofs.Serving.{HasItStill, starts, HasNumbers, serves_then}
use Rattle.seam_law_rounds.proofs.PartsLoaded.{LoadedPart, part_loaded}
use Rattle.seam_law_rounds.proofs.PartTurns.{few_more, calls_loaded, routes_loaded}

module _ (f : Frame) (w : World) (b : Batch) (may : MayBeLoaded f w b) (e k : ℕ) (r : RealView)
    (here : real_at e (loaded w b) k ≡ Some r) where
  pub its_part : LoadedPart f w b e r.ty
  its_part = part_loaded f w b may.begin may.parts may.brings e k r here

  -- the part that is at the base node is this one
  part_is : (p : PartView) → ((entity_flow e (loaded w b)).slot (home_of f e)).base.part ≡ Some p → its_part.settled.part ≡ p
  part_is p at = let z = sym its_part.settled.here ∙ at in cc

  pub base_calls_loaded : (p : PartView) → ((entity_flow e (loaded w b)).slot (home_of f e)).base.part ≡ Some p →
      HasBaseCalls (framed f b) e r.ty (λ s. next_to s p) (base_calls_of b e) (loaded w b)
  base_calls_loaded p at =
      subst (λ (x : PartView). HasBaseCalls (framed f b) e r.ty (λ s. next_to s x) (base_calls_of b e) (loaded w b)) (part_is p at)
      (calls_loaded f w b may e k r here its_part)

  -- the real and the part, with nothing on its way
  still_loaded : HasItStill (framed f b) e r.ty r its_part.settled.part (loaded w b)
  still_loaded = record {
    frame = frame_loaded f w b may.begin;
    known = (settled_loaded f w b may.begin e k r here).type;
    one = one_loaded f w b may.begin e k r here;
    spared = spared_loaded f w b may.begin e k r here;
    still = no_mail f w b may.begin e;
    real = λ j q at. elim (cases_eq j k) [
      | inl is ↦ let z = sym here ∙ (ap (λ i. real_at e (loaded w b) i) (sym is) ∙ at) in cc
      | inr n ↦ absurd (let z = sym ((settled_loaded f w b may.begin e k r here).others j n) ∙ at in cc)
    ];
    here = its_part.settled.here;
    others = its_part.settled.others;
  }

  pub few_lines : lines_of r its_part.settled.part < 2 ^ 61
  few_lines =
      lines_loaded f w b may.begin may.parts e may.brings k r here its_part.settled.part its_part.settled.here its_part.small

  serves_loaded : IsServed (framed f b) e r.ty (loaded w b)
  serves_loaded =
      let few = few_lines in
      starts (framed f b) e r.ty r its_part.settled.part (loaded w b) still_loaded
      (are_for_loaded f w b may.begin may.parts e k r here its_part.settled.part its_part.settled.here)
      (omega (arith, few))

  module _ (v : World) (es : List Event) (run : RunsTo (loaded w b) es v) where
    abbrev g : Frame
    g = framed f b

    abbrev first : ℕ → ℕ
    first s = next_to s its_part.settled.part

    abbrev loaded_calls : HasBaseCalls g e r.ty first (base_calls_of b e) (loaded w b)
    loaded_calls = calls_loaded f w b may e k r here its_part

    looks_few : looks_left e (loaded w b) ≤ 2 ^ 23
    looks_few =
        let left = looks_loaded f w b may.begin may.parts may.brings e in
        let few = may.begin.fits.few in
        omega (arith, left, few)

    pub told : TellsFew e r v
    told =
        tells_few g e r.ty r its_part.settled.part (loaded w b) still_loaded
        (few_loaded f w b may.begin may.parts may.brings)
        (sees_loaded f w b may.begin may.parts e k r here) (2 ^ 23) looks_few (omega arith) v es run

    pub sees_after : (j : ℕ) (q : RealView) → real_at e v j ≡ Some q → SeesFew q
    sees_after =
        (sees_then g e r.ty r its_part.settled.part (loaded w b) still_loaded
        (few_loaded f w b may.begin may.parts may.brings)
        (sees_loaded f w b may.begin may.parts e k r here) (2 ^ 23) looks_few (omega arith) v es run).cells

    abbrev most : ℕ
    most = sent_by r + most_told

    numbers : HasNumbers e most (loaded w b) v
    numbers =
        let few = few_lines in
        let more = few_more f w b may e k r here its_part in
        record { room = omega (arith, few, more); most = told }

    calls_by : IsServed g e r.ty (loaded w b) → HasBaseCalls g e r.ty first (base_calls_of b e) v
    calls_by (bare none unseen) =
        (alone_leads g e r.ty first (base_calls_of b e) (loaded w b) v es (record { calls = loaded_calls; alone = none }) run).calls
    calls_by (served update low client seen) =
        (both_leads g e r.ty first (base_calls_of b e) update most (loaded w b) v es
        (record { calls = loaded_calls; client = client }) numbers.room run told).calls

    pub calls_then : HasBaseCalls g e r.ty first (base_calls_of b e) v
    calls_then = calls_by serves_loaded

    pub serves_after : IsServed g e r.ty v
    serves_after =
        serves_then g e r.ty (loaded w b) v es run (in_frame f w b may.begin) still_loaded.spared most numbers serves_loaded

    pub calls_once : (p : PartView) → ((entity_flow e (loaded w b)).slot (home_of f e)).base.part ≡ Some p →
        HasBaseCalls g e r.ty (λ s. next_to s p) (base_calls_of b e) v
    calls_once p at =
        subst (λ (x : PartView). HasBaseCalls g e r.ty (λ s. next_to s x) (base_calls_of b e) v) (part_is p at) calls_then

    pub executed_then : IsQuiet node_has_work v → (j : ℕ) (q : PartView) → ((entity_flow e v).slot j).base.part ≡ Some q → (s : ℕ) →
        letters_of (from_sender s) q.done ≡ base_calls_of b e s
    executed_then quiet j q there s =
        all_executed g e v calls_then.part.frame quiet first (base_calls_of b e) calls_then.turns j q there s

    strays_by : IsServed g e r.ty (loaded w b) → NothingIsStray g e v
    strays_by (bare none unseen) =
        alone_without_stray g e r.ty first (base_calls_of b e) (loaded w b) v es loaded_calls (routes_loaded f w b may e k r here its_part)
        run still_loaded.frame still_loaded.known still_loaded.one none
    strays_by (served update low client seen) =
        client_without_stray g e r.ty first (base_calls_of b e) (loaded w b) v es loaded_calls
        (routes_loaded f w b may e k r here its_part) run update most client numbers.room told

    pub none_strays : NothingIsStray g e v
    none_strays = strays_by serves_loaded

    pub update_finds_it : (a j : ℕ) (u : UpdateData) (ms : List Msg) → (entity_flow e v).mail a j ≡ Update u ∷ ms →
        FindsClient g e j ((entity_flow e v).slot j).base u
    update_finds_it a j u ms at =
        update_finds g e r.ty (loaded w b) v es run (in_frame f w b may.begin) still_loaded.spared most numbers
        still_loaded.still a j u ms at serves_loaded
