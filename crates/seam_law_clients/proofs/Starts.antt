-- Where a client's witness begins to tell, and where it was shown all.
use Rattle.seam_law_clients.proofs.Prelude.{◌≡◌, ℕ, ◌+◌, List, [], ◌∷◌, length, Some, refl, sym, ap, ◌∙◌, subst, arith, IsQuiet, Shown}
use Rattle.seam_law_clients.proofs.Prelude.{RealView, WitnessView, World, node_has_work, Delivery, Frame, entity_flow, real_in, real_of}
use Rattle.seam_law_clients.proofs.Prelude.{sent_of, sent_by, home_of, updates_at, shown_at, tells, HasClient, real_at, FitsWithin}
use Rattle.seam_law_clients.proofs.Prelude.{TellsRightly, sole_here, each_weaker, one_of, all_shown, ClientReplica, after_all_shown, Truth}
use Rattle.seam_law_clients.proofs.Prelude.{ShowsRightly}
use Rattle.seam_law_clients.proofs.Reals.{each_of}
use Rattle.seam_law_clients.proofs.Tells.{Tells}
use Rattle.seam_law_clients.proofs.InTurn.{rightly_first}

pub none_of : (us : List Shown) → length us ≡ 0 → us ≡ []
none_of [] is = refl
none_of (u ∷ us) is = absurd (omega (arith, is))

-- where the world is quiet all that the witness told was shown
pub all_told : (f : Frame) (e ty first : ℕ) (P : List Shown → RealView → WitnessView → Type 0) (w : World) (h : Tells f e ty first P w) →
    HasClient f e ty first w → IsQuiet node_has_work w → shown_at ((entity_flow e w).slot (home_of f e)) ≡ h.told
all_told f e ty first P w h client quiet = all_shown f e w client.one.fits.frame quiet ty first (record {
  frame = client.frame;
  known = client.known;
  one = client.one;
  part = client.part;
  here = client.here;
  proxy = client.proxy;
  has = client.has;
  lines = client.lines;
  issued = h.told;
  told =
      each_weaker (λ r. r.witness ≡ Some h.witness) (λ r. sent_by r + 1 ≡ first + length h.told) e w
      (λ r is. let a = ap sent_of is in let b = h.number in omega (arith, a, b))
      (each_of (λ r. r.witness ≡ Some h.witness) e w h.one.place h.one.real h.one.one h.has);
  delivery = h.delivery;
})

module _ (f : Frame) (e ty first : ℕ) (t : Truth) (w : World) where
  -- a witness whose next number is the first tells rightly
  pub rightly_starts : (h : HasClient f e ty first w) (k : ℕ) (r : RealView) → real_at e w k ≡ Some r → (x : WitnessView) →
      r.witness ≡ Some x → x.sent + 1 ≡ first → (c : ClientReplica) → FitsWithin f r x c → TellsRightly f e ty first t c w
  rightly_starts h k r here x has due c fits =
      let same : r ≡ h.one.real =
      (sole_here real_in real_of (entity_flow e w) h.one.place h.one.real r k h.one.one here).1 in
      let its : h.one.real.witness ≡ Some x = ap (λ (y : RealView). y.witness) (sym same) ∙ has in
      let sent = one_of (λ y. sent_by y + 1 ≡ first + length h.issued) e w h.one.place h.one.real h.one.one h.told in
      let is = ap sent_of its in
      let none : h.issued ≡ [] = none_of h.issued (omega (arith, sent, is, due)) in
      record {
        one = h.one;
        witness = x;
        has = its;
        told = [];
        number = let s : x.sent + 1 ≡ first + length {A = Shown} [] = omega (arith, due) in s;
        delivery =
            subst (λ us. Delivery updates_at shown_at tells (entity_flow e w) (home_of f e) first us) none h.delivery;
        rightly = record { in_turn = tt; true_ = tt };
        fits = subst (λ y. FitsWithin f y x c) same fits;
      }

  module _ (c : ClientReplica) (h : TellsRightly f e ty first t c w) where
    abbrev shown : List Shown
    shown = shown_at ((entity_flow e w).slot (home_of f e))

    -- what was shown is a first part of what was told
    pub shown_rightly : ShowsRightly t e c shown
    shown_rightly = rightly_first t e c shown h.delivery.rest (subst (ShowsRightly t e c) h.delivery.parts h.rightly)

    pub shown_all : HasClient f e ty first w → IsQuiet node_has_work w → shown ≡ h.told
    shown_all client quiet = all_told f e ty first (λ us r x. Unit {0}) w (record {
      one = h.one;
      witness = h.witness;
      has = h.has;
      told = h.told;
      number = h.number;
      delivery = h.delivery;
      holds = tt;
    }) client quiet

    pub fits_shown : HasClient f e ty first w → IsQuiet node_has_work w → FitsWithin f h.one.real h.witness (after_all_shown c shown)
    fits_shown client quiet = subst (λ us. FitsWithin f h.one.real h.witness (after_all_shown c us)) (sym (shown_all client quiet)) h.fits
