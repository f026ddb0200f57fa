-- A net whose nodes are seen through a function: its events and runs are seen as those of the net that is seen.
use Rattle.std.proofs.Common.{◌≡◌, ℕ, Bool, List, [], ◌∷◌, Option, None, Some, map, set, refl, sym, ap, ◌∙◌, subst}
use Rattle.std.specs.Prelude.{slice_get, option_map}
use Rattle.std.proofs.lemmas.List.{map-set}
use Rattle.std.proofs.lemmas.Option.{slice_get-map}
use Rattle.seam_machine.specs.Views.{Stepped, NetView}
use Rattle.seam_machine.specs.Nets.{input_from, rows_after_feeding, send_all, happens, happens_by, is_ready, enabled, run, AllEnabled}
use Rattle.seam_machine.specs.Nets.{LeadsTo}
use Rattle.seam_net_runs.specs.Seen.{seen, SeesSteps, SeesWork}
use Rattle.seam_machine.specs.declared.machines.Input.{Input}
use Rattle.seam_machine.specs.declared.machines.Input.TheVariants.{Task, From}
use Rattle.seam_machine.specs.declared.machines.Event.{Event}

module _ {N V M : Type 0} (f : N → V) (steps : N → Input M → Stepped N M) (seen_steps : V → Input M → Stepped V M)
    (sees : SeesSteps f steps seen_steps) where
  seen_by : (w : NetView N M) (k : ℕ) (from : Option ℕ) (o : Option N) (i : Option (Input M)) →
      seen f (happens_by steps w k from o i) ≡ happens_by seen_steps (seen f w) k from (option_map f o) i
  seen_by w k from (Some s) (Some i) =
      let one : map f (set w.nodes k (steps s i).state) ≡ set (map f w.nodes) k (seen_steps (f s) i).state =
      map-set f w.nodes k (steps s i).state ∙ ap (set (map f w.nodes) k) (sees.state s i) in
      let two : send_all (rows_after_feeding w.rows k from) k (steps s i).sent
      ≡ send_all (rows_after_feeding w.rows k from) k (seen_steps (f s) i).sent =
      ap (send_all (rows_after_feeding w.rows k from) k) (sees.sent s i) in
      λ j. record { nodes = one j; rows = two j }
  seen_by w k from (Some s) None = refl
  seen_by w k from None i = refl

  -- an event is seen as that event
  pub seen_happens : (w : NetView N M) (e : Event) → seen f (happens steps w e) ≡ happens seen_steps (seen f w) e
  seen_happens w e =
      seen_by w e.node e.from (slice_get w.nodes e.node) (input_from w.rows e.node e.from)
      ∙ ap (λ o. happens_by seen_steps (seen f w) e.node e.from o (input_from w.rows e.node e.from)) (sym (slice_get-map f w.nodes e.node))

  -- and so is a run
  pub seen_run : (w : NetView N M) (es : List Event) → seen f (run steps w es) ≡ run seen_steps (seen f w) es
  seen_run w [] = refl
  seen_run w (e ∷ es) = seen_run (happens steps w e) es ∙ ap (λ v. run seen_steps v es) (seen_happens w e)

module _ {N V M : Type 0} (f : N → V) (has_work : N → Bool) (seen_work : V → Bool) (works : SeesWork f has_work seen_work) where
  ready_by : (o : Option N) (i : Option (Input M)) → is_ready seen_work (option_map f o) i ≡ is_ready has_work o i
  ready_by (Some s) (Some Task) = works s
  ready_by (Some s) (Some (From a m)) = refl
  ready_by (Some s) None = refl
  ready_by None i = refl

  pub seen_enabled : (w : NetView N M) (e : Event) → enabled seen_work (seen f w) e ≡ enabled has_work w e
  seen_enabled w e =
      ap (λ o. is_ready seen_work o (input_from w.rows e.node e.from)) (slice_get-map f w.nodes e.node)
      ∙ ready_by (slice_get w.nodes e.node) (input_from w.rows e.node e.from)

  module _ (steps : N → Input M → Stepped N M) (seen_steps : V → Input M → Stepped V M) (sees : SeesSteps f steps seen_steps) where
    each_seen : (w : NetView N M) (es : List Event) → AllEnabled has_work steps w es → AllEnabled seen_work seen_steps (seen f w) es
    each_seen w [] a = tt
    each_seen w (e ∷ es) a =
        let P : NetView V M → Type 0 = λ v. AllEnabled seen_work seen_steps v es in
        (seen_enabled w e ∙ a.0, subst P (seen_happens f steps seen_steps sees w e) (each_seen (happens steps w e) es a.1))

    pub seen_leads : (w v : NetView N M) (es : List Event) → LeadsTo has_work steps w es v →
        LeadsTo seen_work seen_steps (seen f w) es (seen f v)
    seen_leads w v es a = record { each = each_seen w es a.each; is_run = ap (seen f) a.is_run ∙ seen_run f steps seen_steps sees w es }
