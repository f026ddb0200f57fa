-- Runs of events: joined, parted, gone on with, what they keep, and how long they can be.
use Rattle.std.proofs.Common.{◌≡◌, ℕ, ◌+◌, ◌<◌, ◌≤◌, Bool, true, List, [], ◌∷◌, ◌++◌, length, refl, sym, ap, ◌∙◌, subst, arith}
use Rattle.std.proofs.lemmas.List.{length-append}
use Rattle.seam_machine.specs.Views.{Stepped, NetView}
use Rattle.seam_machine.specs.Nets.{happens, enabled, run, AllEnabled, LeadsTo}
use Rattle.seam_net_runs.specs.Weights.{counted, Lowers}
use Rattle.seam_net_runs.specs.Finishing.{EndsWithin}
use Rattle.seam_machine.specs.declared.machines.Input.{Input}
use Rattle.seam_machine.specs.declared.machines.Event.{Event}

module _ {N M : Type 0} (has_work : N → Bool) (steps : N → Input M → Stepped N M) where
  pub run-append : (w : NetView N M) (es ds : List Event) → run steps w (es ++ ds) ≡ run steps (run steps w es) ds
  run-append w [] ds = refl
  run-append w (e ∷ es) ds = run-append (happens steps w e) es ds

  enabled_join : (w : NetView N M) (es ds : List Event) → AllEnabled has_work steps w es → AllEnabled has_work steps (run steps w es) ds →
      AllEnabled has_work steps w (es ++ ds)
  enabled_join w [] ds a b = b
  enabled_join w (e ∷ es) ds a b = (a.0, enabled_join (happens steps w e) es ds a.1 b)

  enabled_part : (w : NetView N M) (es ds : List Event) → AllEnabled has_work steps w (es ++ ds) →
      AllEnabled has_work steps w es × AllEnabled has_work steps (run steps w es) ds
  enabled_part w [] ds a = (tt, a)
  enabled_part w (e ∷ es) ds a = let h = enabled_part (happens steps w e) es ds a.1 in ((a.0, h.0), h.1)

  pub leads_nowhere : (w : NetView N M) → LeadsTo has_work steps w [] w
  leads_nowhere w = record { each = tt; is_run = refl }

  pub leads_by_one : (w : NetView N M) (e : Event) → enabled has_work w e ≡ true → LeadsTo has_work steps w (e ∷ []) (happens steps w e)
  leads_by_one w e h = record { each = (h, tt); is_run = refl }

  pub leads_join : (w v u : NetView N M) (es ds : List Event) → LeadsTo has_work steps w es v → LeadsTo has_work steps v ds u →
      LeadsTo has_work steps w (es ++ ds) u
  leads_join w v u es ds a b =
      let P : NetView N M → Type 0 = λ x. AllEnabled has_work steps x ds in
      record {
        each = enabled_join w es ds a.each (subst P a.is_run b.each);
        is_run = b.is_run ∙ (ap (λ x. run steps x ds) a.is_run ∙ sym (run-append w es ds));
      }

  pub leads_part : (w u : NetView N M) (es ds : List Event) → LeadsTo has_work steps w (es ++ ds) u →
      LeadsTo has_work steps w es (run steps w es) × LeadsTo has_work steps (run steps w es) ds u
  leads_part w u es ds a =
      let h = enabled_part w es ds a.each in
      (record { each = h.0; is_run = refl }, record { each = h.1; is_run = a.is_run ∙ run-append w es ds })

  pub leads_extend : (w v : NetView N M) (es : List Event) (e : Event) → LeadsTo has_work steps w es v → enabled has_work v e ≡ true →
      LeadsTo has_work steps w (es ++ e ∷ []) (happens steps v e)
  leads_extend w v es e a h = leads_join w v (happens steps v e) es (e ∷ []) a (leads_by_one v e h)

  -- while an event is enabled, fewer have happened than may
  pub fewer : (w v : NetView N M) (es : List Event) (e : Event) (n : ℕ) → EndsWithin has_work steps w n → LeadsTo has_work steps w es v →
      enabled has_work v e ≡ true → length es < n
  fewer w v es e n ends leads can =
      let one = ends (es ++ e ∷ []) (happens steps v e) (leads_extend w v es e leads can) in
      let many = length-append es (e ∷ []) in
      omega (arith, one, many)

  -- what each enabled event keeps, a run keeps
  pub run_keeps : (P : NetView N M → Type 0) → ((w : NetView N M) (e : Event) → P w → enabled has_work w e ≡ true → P (happens steps w e)) →
      (w : NetView N M) (es : List Event) → P w → AllEnabled has_work steps w es → P (run steps w es)
  run_keeps P keeps w [] p a = p
  run_keeps P keeps w (e ∷ es) p a = run_keeps P keeps (happens steps w e) es (keeps w e p a.0) a.1

  pub leads_keeps : (P : NetView N M → Type 0) →
      ((w : NetView N M) (e : Event) → P w → enabled has_work w e ≡ true → P (happens steps w e)) → (w v : NetView N M) (es : List Event) →
      P w → LeadsTo has_work steps w es v → P v
  leads_keeps P keeps w v es p a = subst P (sym a.is_run) (run_keeps P keeps w es p a.each)

  -- the number falls with each event, but for those of the kind: so a run is no longer than the number and its events of the kind
  pub run_ends : (kind : NetView N M → Event → Bool) (n : NetView N M → ℕ) (P : NetView N M → Type 0) →
      ((w : NetView N M) (e : Event) → P w → enabled has_work w e ≡ true → P (happens steps w e) × Lowers steps kind n w e) →
      (w : NetView N M) (es : List Event) → P w → AllEnabled has_work steps w es →
      length es + n (run steps w es) ≤ n w + counted steps kind w es
  run_ends kind n P low w [] p a = omega arith
  run_ends kind n P low w (e ∷ es) p a =
      let h = low w e p a.0 in
      let more = run_ends kind n P low (happens steps w e) es h.0 a.1 in
      let fall = h.1 in
      omega (arith, more, fall)

  pub leads_end : (kind : NetView N M → Event → Bool) (n : NetView N M → ℕ) (P : NetView N M → Type 0) →
      ((w : NetView N M) (e : Event) → P w → enabled has_work w e ≡ true → P (happens steps w e) × Lowers steps kind n w e) →
      (w v : NetView N M) (es : List Event) → P w → LeadsTo has_work steps w es v → length es + n v ≤ n w + counted steps kind w es
  leads_end kind n P low w v es p a = let h = run_ends kind n P low w es p a.each in let e = ap n a.is_run in omega (arith, h, e)
