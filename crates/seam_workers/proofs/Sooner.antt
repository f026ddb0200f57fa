-- Events that happen before the workers start.
use Rattle.std.proofs.Common.{◌≡◌, ℕ, ◌+◌, ◌⊎◌, Bool, true, List, [], ◌∷◌, ◌++◌, length, Some, refl, sym, ap, ◌∙◌, inl, inr}
use Rattle.std.specs.Prelude.{slice_get}
use Rattle.std.proofs.lemmas.Bool.{cases_eq}
use Rattle.std.proofs.lemmas.Option.{slice_get_within}
use Rattle.seam_machine.specs.Views.{Stepped, NetView}
use Rattle.seam_machine.specs.Nets.{happens, run, AllEnabled, LeadsTo}
use Rattle.seam_machine.specs.declared.machines.Input.{Input}
use Rattle.seam_machine.specs.declared.machines.Event.{Event}
use Rattle.seam_machine.proofs.Occurring.{occurs, node_there}
use Rattle.seam_machine.proofs.Writes.{slice_get-append_left, slice_get-append_right}
use Rattle.seam_workers.specs.Rejoined.{HasEventOf}

pub event_sooner : (k : ℕ) (es ds : List Event) → HasEventOf k es → HasEventOf k (es ++ ds)
event_sooner k es ds h = (h.0, h.1, slice_get-append_left es ds h.0 (slice_get_within es h.0 h.1 h.2) ∙ h.2, h.3)

pub event_later : (k : ℕ) (es ds : List Event) → HasEventOf k ds → HasEventOf k (es ++ ds)
event_later k es ds h = (length es + h.0, h.1, slice_get-append_right es ds (length es + h.0) h.0 refl ∙ h.2, h.3)

module _ {N M : Type 0} (has_work : N → Bool) (steps : N → Input M → Stepped N M) where
  -- a node has an event, or stays as it was
  event_or_same : (k : ℕ) (s : N) (w : NetView N M) (es : List Event) → AllEnabled has_work steps w es → slice_get w.nodes k ≡ Some s
      → HasEventOf k es ⊎ (slice_get (run steps w es).nodes k ≡ Some s)
  event_or_same k s w [] a at = inr at
  event_or_same k s w (e ∷ es) a at = elim (cases_eq k e.node) [
    | inl h ↦ inl (0, e, refl, sym h)
    | inr h ↦ elim (event_or_same k s (happens steps w e) es a.1 (node_there steps w e (occurs has_work w e a.0) k h ∙ at)) [
      | inl more ↦ inl (event_later k (e ∷ []) es more)
      | inr same ↦ inr same
    ]
  ]

  -- each node with a task has an event among those that happened first, or among the later ones
  pub tasks_join : (w v : NetView N M) (es ds : List Event) → LeadsTo has_work steps w es v
      → ((k : ℕ) (s : N) → slice_get v.nodes k ≡ Some s → has_work s ≡ true → HasEventOf k ds)
      → (k : ℕ) (s : N) → slice_get w.nodes k ≡ Some s → has_work s ≡ true → HasEventOf k (es ++ ds)
  tasks_join w v es ds first later k s at work = elim (event_or_same k s w es first.each at) [
    | inl h ↦ event_sooner k es ds h
    | inr same ↦ event_later k es ds (later k s (ap (λ (x : NetView N M). slice_get x.nodes k) first.is_run ∙ same) work)
  ]
