-- No input of a base node is stray: of an entity that is there, by the laws of its part; of one that is not, since only ticks come.
use Rattle.seam_law_clients.proofs.Prelude.{ℕ, ◌⊎◌, List, inl, inr, Event, Batch, World, loaded, reaps_loaded, look_loaded, Frame}
use Rattle.seam_law_clients.proofs.Prelude.{RunsTo, NothingIsStray, IsUnknown, NoneIsStrayAtBases, IsBetweenRounds, framed, AreReapable}
use Rattle.seam_law_clients.proofs.Prelude.{HasPartsBetweenRounds, HasSmallNumbers, MayBeLoaded, in_frame, frame_leads, Somewhere, Nowhere}
use Rattle.seam_law_clients.proofs.Prelude.{search_real, none_strays, frame_reaps, frame_look}
use Rattle.seam_law_clients.proofs.Prelude.{none_at_bases, nobody, unknown_in_round, unknown_leads, unknown_reaps, unknown_look}
use Rattle.seam_law_clients.proofs.LastBases.{reaps_stray_none_of, looks_stray_none_of}

module _ (f : Frame) (w : World) (b : Batch) (may : MayBeLoaded f w b) (v : World) (es : List Event) (run : RunsTo (loaded w b) es v) where
  abbrev g : Frame
  g = framed f b

  round_by : (e : ℕ) → Somewhere e (loaded w b) ⊎ Nowhere e (loaded w b) → NothingIsStray g e v ⊎ IsUnknown g e v
  round_by e (inl p) = inl (none_strays f w b may e p.0 p.1 p.2 v es run)
  round_by e (inr n) = inr (unknown_in_round f w b may.begin e (nobody f w b may.begin e n) v es run)

  pub round_strays_none : NoneIsStrayAtBases v
  round_strays_none =
      none_at_bases g v (frame_leads g (loaded w b) v es (in_frame f w b may.begin) run) (λ e. round_by e (search_real e (loaded w b)))

module _ (f : Frame) (u : World) (between : IsBetweenRounds f u) (parts : HasPartsBetweenRounds f u) (small : HasSmallNumbers f u) where
  module _ (es : List ℕ) (may : AreReapable u es) (vs : List Event) (v : World) (run : RunsTo (reaps_loaded u es) vs v) where
    reaps_by : (e : ℕ) → Somewhere e u ⊎ Nowhere e u → NothingIsStray f e v ⊎ IsUnknown f e v
    reaps_by e (inl p) = inl (reaps_stray_none_of f u between parts small es may vs v run e p.0 p.1 p.2)
    reaps_by e (inr n) = inr (unknown_leads f e (reaps_loaded u es) v vs (unknown_reaps f u between es may e n) run)

    pub reaps_strays_none : NoneIsStrayAtBases v
    reaps_strays_none =
        none_at_bases f v (frame_leads f (reaps_loaded u es) v vs (frame_reaps f u between es may) run)
        (λ e. reaps_by e (search_real e u))

  module _ (vs : List Event) (v : World) (run : RunsTo (look_loaded u) vs v) where
    looks_by : (e : ℕ) → Somewhere e u ⊎ Nowhere e u → NothingIsStray f e v ⊎ IsUnknown f e v
    looks_by e (inl p) = inl (looks_stray_none_of f u between parts small vs v run e p.0 p.1 p.2)
    looks_by e (inr n) = inr (unknown_leads f e (look_loaded u) v vs (unknown_look f u between e n) run)

    pub looks_strays_none : NoneIsStrayAtBases v
    looks_strays_none =
        none_at_bases f v (frame_leads f (look_loaded u) v vs (frame_look f u between) run) (λ e. looks_by e (search_real e u))
