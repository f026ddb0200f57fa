-- Each call to a base part with a client once, over every list of events in which its witness tells no more than there is room for.
use Rattle.seam_law_calls.proofs.Prelude.{◌≡◌, ℕ, ◌+◌, ◌≤◌, true, List, [], ◌∷◌, length, refl, sym, ap, subst, arith, happens, run}
use Rattle.seam_law_calls.proofs.Prelude.{AllEnabled, Event, Call as CallData, RealView, may_show, World, node_steps, node_has_work, Frame}
use Rattle.seam_law_calls.proofs.Prelude.{IsSpared, sent_of, sent_by, HasBaseCalls, EachReal, HasToldAtMost, HasClient, HasRoomFor, RunsTo}
use Rattle.seam_law_calls.proofs.Prelude.{occurs}
use Rattle.seam_law_calls.proofs.OneReal.{one_leads, spared_happens}
use Rattle.seam_law_calls.proofs.PartEasing.{base_burden_happens}
use Rattle.seam_law_calls.proofs.WitnessKept.{each_weaker, each_happens}
use Rattle.seam_law_calls.proofs.BaseRuns.{kept_happens}
use Rattle.seam_law_calls.proofs.ClientRuns.{one_of, part_may_show, client_happens}
use Rattle.seam_law_calls.proofs.Keeping.{run_keeps, FramedKeep}

-- ---- what witnesses told never falls

abbrev AtLeast : ℕ → RealView → Type 0
AtLeast m r = m ≤ sent_by r

module _ (f : Frame) (e m : ℕ) where
  told_leads : FramedKeep f (EachReal e (AtLeast m))
  told_leads =
      run_keeps f (EachReal e (AtLeast m)) (λ x a o frame all.
      each_happens (AtLeast m) (λ r q same le. let a = ap sent_of same in omega (arith, a, le)) f e x a o frame
      (λ k n r q y z shown at wit wit' sum le.
      let a = ap sent_of wit in
      let b = ap sent_of wit' in
      omega (arith, le, a, b, sum)) all)

-- a witness that told at most n in the end told at most n before
told_before : (f : Frame) (e ty first n : ℕ) (w v : World) (es : List Event) (h : HasClient f e ty first w) → IsSpared e w →
    RunsTo w es v → HasToldAtMost e n v → HasToldAtMost e n w
told_before f e ty first n w v es h spared run most =
    let number = first + length h.issued in
    let one = (one_leads f h.frame e ty h.known w v es h.one spared run).has in
    let started = one_of (λ r. sent_by r + 1 ≡ number) e w h.one.place h.one.real h.one.one h.told in
    let least =
    each_weaker (λ r. sent_by r + 1 ≡ number) (AtLeast (sent_by h.one.real)) e w (λ r is. omega (arith, is, started)) h.told in
    let then =
    one_of (AtLeast (sent_by h.one.real)) e v one.place one.real one.one
    (told_leads f e (sent_by h.one.real) w v es h.one.fits.frame least run) in
    let few = one_of (λ r. sent_by r ≤ n) e v one.place one.real one.one most in
    each_weaker (λ r. sent_by r + 1 ≡ number) (λ r. sent_by r ≤ n) e w (λ r is. omega (arith, is, started, then, few)) h.told

-- ---- a run

module _ (f : Frame) (e ty : ℕ) (first : ℕ → ℕ) (batch : ℕ → List CallData) (update n : ℕ) where
  pub record Both (w : World) : Type 0 where
    pub calls : HasBaseCalls f e ty first batch w
    pub client : HasClient f e ty update w

  lines : (w : World) (h : Both w) → HasToldAtMost e n w → HasRoomFor e n w → may_show h.calls.part.part.proxy ≡ true
  lines w h most room = part_may_show f e ty update n w h.client most room h.calls.part.part h.calls.part.here

  both_run : (w : World) (es : List Event) → Both w → HasRoomFor e n w → AllEnabled node_has_work node_steps w es →
      HasToldAtMost e n (run node_steps w es) → Both (run node_steps w es)
  both_run w [] h room on most = h
  both_run w (v ∷ es) h room on most =
      let o = occurs node_has_work w v on.0 in
      let now =
      told_before f e ty update n w (run node_steps w (v ∷ es)) (v ∷ es) h.client h.calls.spared (record { each = on; is_run = refl })
      most in
      let less = base_burden_happens f e w v o h.calls.part.frame in
      both_run (happens node_steps w v) es
      (record {
        calls = kept_happens f e ty first batch w v o h.calls (lines w h now room);
        client = client_happens f e ty update n w v o h.client h.calls.spared now room;
      }) (omega (arith, less, room)) on.1 most

  pub both_leads : (w v : World) (es : List Event) → Both w → HasRoomFor e n w → RunsTo w es v → HasToldAtMost e n v → Both v
  both_leads w v es h room r most =
      subst Both (sym r.is_run) (both_run w es h room r.each (subst (HasToldAtMost e n) r.is_run most))

-- ---- a client, whatever is called

module _ (f : Frame) (e ty update n : ℕ) where
  record Served (w : World) : Type 0 where
    client : HasClient f e ty update w
    spared : IsSpared e w

  client_run : (w : World) (es : List Event) → Served w → HasRoomFor e n w → AllEnabled node_has_work node_steps w es →
      HasToldAtMost e n (run node_steps w es) → Served (run node_steps w es)
  client_run w [] h room on most = h
  client_run w (v ∷ es) h room on most =
      let o = occurs node_has_work w v on.0 in
      let now =
      told_before f e ty update n w (run node_steps w (v ∷ es)) (v ∷ es) h.client h.spared (record { each = on; is_run = refl }) most in
      let less = base_burden_happens f e w v o h.client.one.fits.frame in
      client_run (happens node_steps w v) es
      (record {
        client = client_happens f e ty update n w v o h.client h.spared now room;
        spared = spared_happens f e w v o h.client.one.fits.frame h.spared;
      }) (omega (arith, less, room)) on.1 most

  pub client_leads : (w v : World) (es : List Event) → HasClient f e ty update w → IsSpared e w → HasRoomFor e n w →
      RunsTo w es v → HasToldAtMost e n v → HasClient f e ty update v
  client_leads w v es h spared room r most =
      let end = client_run w es (record { client = h; spared = spared }) room r.each (subst (HasToldAtMost e n) r.is_run most) in
      subst (HasClient f e ty update) (sym r.is_run) end.client
