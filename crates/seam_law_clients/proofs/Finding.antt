-- No update comes without a client: of an entity that is there, by the laws of its client; of one that is not, since none tells it.
use Rattle.seam_law_clients.proofs.Prelude.{refl}
use Rattle.seam_law_clients.proofs.Prelude.{◌≡◌, ℕ, ◌⊎◌, List, [], ◌∷◌, None, Some, sym, ap, ◌∙◌, subst, inl, inr, AllByRecursion, Event}
use Rattle.seam_law_clients.proofs.Prelude.{Batch, RealView, Msg, World, node_has_work, ordered_at, loaded, look_loaded, letters_of, Frame}
use Rattle.seam_law_clients.proofs.Prelude.{IsInFrame, mine, entity_flow, real_of, update_in, FindsClient, RunsTo, real_at, IsBetweenRounds}
use Rattle.seam_law_clients.proofs.Prelude.{framed, HasPartsBetweenRounds, MayBeLoaded, HasSmallNumbers, quiet_links, Update as UpdateData}
use Rattle.seam_law_clients.proofs.Prelude.{in_frame, no_mail, Somewhere, Nowhere, search_real, look_framed, look_cell, reals_stay, tick}
use Rattle.seam_law_clients.proofs.Prelude.{unseen_told_none, update_finds_it, look_finds}
use Rattle.seam_node_steps.specs.Prelude.{Update}

-- one that is nowhere, with nothing on its way, is told nothing
module _ (f : Frame) (e : ℕ) (w v : World) (es : List Event) (frame : IsInFrame f w) (run : RunsTo w es v)
    (nowhere : (k : ℕ) → real_at e w k ≡ None) (no_mail_there : (a k : ℕ) → (entity_flow e w).mail a k ≡ []) where
  none_comes : (a k : ℕ) (u : UpdateData) (ms : List Msg) → {P : Type 0} → (entity_flow e v).mail a k ≡ Update u ∷ ms → P
  none_comes a k u ms at =
      let silent =
      unseen_told_none f e w v es frame
      (record {
        cells = λ j r here. absurd (let z = sym (nowhere j) ∙ here in cc);
        hands = λ x j. subst (AllByRecursion (λ m. (r : RealView) → real_of m ≡ Some r → _)) (sym (no_mail_there x j)) tt;
      })
      (λ x j. subst (AllByRecursion (λ m. update_in m ≡ None)) (sym (no_mail_there x j)) tt) run a k in
      let all : AllByRecursion (λ m. update_in m ≡ None) (Update u ∷ ms) = subst (AllByRecursion (λ m. update_in m ≡ None)) at silent in
      absurd (let z = all.0 in cc)

-- ---- in a round

module _ (f : Frame) (w : World) (b : Batch) (may : MayBeLoaded f w b) (v : World) (es : List Event) (run : RunsTo (loaded w b) es v)
    (e a k : ℕ) (u : UpdateData) (ms : List Msg) (at : (entity_flow e v).mail a k ≡ Update u ∷ ms) where
  round_by : Somewhere e (loaded w b) ⊎ Nowhere e (loaded w b) → FindsClient (framed f b) e k ((entity_flow e v).slot k).base u
  round_by (inl p) = update_finds_it f w b may e p.0 p.1 p.2 v es run a k u ms at
  round_by (inr n) =
      none_comes (framed f b) e (loaded w b) v es (in_frame f w b may.begin) run n (no_mail f w b may.begin e) a k u
      ms at

  pub round_finds : FindsClient (framed f b) e k ((entity_flow e v).slot k).base u
  round_finds = round_by (search_real e (loaded w b))

-- ---- where witnesses look

module _ (f : Frame) (u : World) (between : IsBetweenRounds f u) (parts : HasPartsBetweenRounds f u) (small : HasSmallNumbers f u)
    (vs : List Event) (v : World) (run : RunsTo (look_loaded u) vs v) (e a k : ℕ) (m : UpdateData)
    (ms : List Msg) (at : (entity_flow e v).mail a k ≡ Update m ∷ ms) where
  looks_by : Somewhere e u ⊎ Nowhere e u → FindsClient f e k ((entity_flow e v).slot k).base m
  looks_by (inl p) = look_finds f u between parts small vs v run e p.0 p.1 p.2 a k m ms at
  looks_by (inr n) =
      none_comes f e (look_loaded u) v vs (look_framed f u between.nodes tick refl) run
      (λ j. reals_stay e (ordered_at tick) (look_cell e tick) u j ∙ n j)
      (λ x j. ap (letters_of (mine e)) (quiet_links node_has_work u between.nodes.sound.square between.quiet x j)) a k m ms at

  pub look_finds_it : FindsClient f e k ((entity_flow e v).slot k).base m
  look_finds_it = looks_by (search_real e u)
