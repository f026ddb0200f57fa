-- A load keeps the record of clients: one that it attaches shows nothing, and each other shows what it did.
use Rattle.seam_law_clients.proofs.Prelude.{◌≡◌, ℕ, ◌≤◌, Bool, true, false, cond, eqb, ◌||◌, List, [], ◌∷◌, ◌++◌, None, Some, refl, sym, ap}
use Rattle.seam_law_clients.proofs.Prelude.{◌∙◌, subst, arith, slice_get, AllByRecursion, list_any, nat_cmp, Create, Batch, real_begins}
use Rattle.seam_law_clients.proofs.Prelude.{Here, new_witness, RealView, WitnessView, World, loaded, slot_at, Frame, here_at, has_of}
use Rattle.seam_law_clients.proofs.Prelude.{has_none, entity_flow, real_in, real_at, MayBeMade, framed, MayBeLoaded, FitsWitness}
use Rattle.seam_law_clients.proofs.Prelude.{ClientsFit, clients_loaded, Creation, nowhere, once, creation_of, middle, is_among}
use Rattle.seam_law_clients.proofs.Prelude.{real_peopled, unseen_peopled, real_if, RealFrom, real_there, ClientReplica, new_client}
use Rattle.std.specs.List.{IsDistinct}
use Rattle.std.specs.FinMap as table
use Rattle.seam_law_rounds.specs.Prelude.{NeverShown}

-- ---- a new client fits a new witness

new_fits : (f : Frame) (w : World) (r : RealView) → FitsWitness f w r (new_witness f.settings) (new_client f.settings)
unfolding IsDistinct
new_fits f w r = record {
  others = refl;
  view = record { once = tt; shown = tt };
  radius = refl;
  hysteresis = refl;
  told = refl;
  not_ahead = λ version at. absurd (let z = at in cc);
  own = λ shown at. absurd (let z = at in cc);
  others_not_ahead = λ x j version q at here. absurd (let z = sym (table.get-empty nat_cmp x) ∙ at in cc);
}

-- ---- what a client shows

pub among_is : (e : ℕ) (qs : List ℕ) → list_any (λ q. eqb q e) qs ≡ is_among e qs
among_is e [] = refl
among_is e (q ∷ qs) = ap (λ b. eqb q e || b) (among_is e qs)

-- ---- the record

-- as a real begins the round, with or without a witness more
begun_public : (joins : Bool) (h : Here) (q r : RealView) → real_begins (real_if joins h q) ≡ r → r.public ≡ q.public
begun_public true h q r is = ap (λ (y : RealView). y.public) (sym is)
begun_public false h q r is = ap (λ (y : RealView). y.public) (sym is)

module _ (f : Frame) (w : World) (b : Batch) (may : MayBeLoaded f w b) where
  abbrev g : Frame
  g = framed f b

  abbrev start : World
  start = loaded w b

  abbrev From : ℕ → ℕ → RealView → Type 0
  From e k r = RealFrom f w b may.begin may.parts e k r

  from : (e k : ℕ) (r : RealView) → real_at e start k ≡ Some r → From e k r
  from e k r at = real_there f w b may.begin may.parts e k r (slice_get w.nodes k) refl at

  creation : (e : ℕ) → Creation e b.creates
  creation e = creation_of e b.creates may.begin.fits.once

  may_make : (e : ℕ) (first : List Create) (c : Create) (later : List Create) → b.creates ≡ first ++ c ∷ later → c.entity ≡ e →
      MayBeMade f w c
  may_make e first c later is at = middle (MayBeMade f w) first c later (subst (AllByRecursion (MayBeMade f w)) is may.begin.fits.creates)

  is_new : (e : ℕ) (first : List Create) (c : Create) (later : List Create) → b.creates ≡ first ++ c ∷ later → c.entity ≡ e →
      (j : ℕ) → (entity_flow e w).slot j ≡ has_none
  is_new e first c later is at =
      subst (λ q. (j : ℕ) → (entity_flow q w).slot j ≡ has_none) at (may_make e first c later is at).new

  -- the real that it had
  was_there : (e k : ℕ) (r : RealView) (y : From e k r) → AllByRecursion (λ c. c.entity ≡ e → ⊥) b.creates → real_at e w k ≡ Some y.real
  was_there e k r y others =
      ap (λ o. real_in (slot_at (has_of e) has_none o)) y.there ∙ (sym (real_peopled e b y.node others) ∙ y.was)

  module _ (e k : ℕ) (r : RealView) (here : real_at e w k ≡ Some r) (x : WitnessView) (has : r.witness ≡ Some x) (c : ClientReplica)
      (began : FitsWitness f w r x c) where
    -- what it was shown of others is not ahead of them
    not_ahead_by : (y j version : ℕ) (q : RealView) → table.get x.view.shown y ≡ Some version → (from_ : From y j q) →
        Creation y b.creates → version ≤ q.public
    not_ahead_by y j version q shown n (nowhere others) =
        let le = began.others_not_ahead y j version n.real shown (was_there y j q n others) in
        let same = begun_public (is_among y b.clients) (here_at f j) n.real q n.is in
        omega (arith, le, same)
    not_ahead_by y j version q shown n (once first d later is at others more) =
        let none = (may_make y first d later is at).unshown e k r here x has in
        absurd (let z = sym none ∙ ap (table.get x.view.shown) at ∙ shown in cc)

    pub still_fits : FitsWitness g start (real_begins r) x c
    still_fits = record {
      others = began.others;
      view = began.view;
      radius = began.radius;
      hysteresis = began.hysteresis;
      told = began.told;
      not_ahead = began.not_ahead;
      own = began.own;
      others_not_ahead = λ y j version q shown there.
          not_ahead_by y j version q shown (from y j q there) (creation y);
    }

  -- ---- where a witness is from

  module _ (e k : ℕ) (r : RealView) (x : WitnessView) (has : r.witness ≡ Some x) where
    -- its real had it, or it is new
    data IsFrom : Type 0 where
      had : (q : RealView) → real_at e w k ≡ Some q → q.witness ≡ Some x → real_begins q ≡ r → is_among e b.clients ≡ false → IsFrom
      gets : new_witness f.settings ≡ x → is_among e b.clients ≡ true → IsFrom

    kept_by : (y : From e k r) → is_among e b.clients ≡ false → real_begins y.real ≡ r → Creation e b.creates → IsFrom
    kept_by y not is (nowhere others) =
        had y.real (was_there e k r y others) (ap (λ (z : RealView). z.witness) is ∙ has) is not
    kept_by y not is (once first c later eq at others more) =
        let none = ap (λ o. real_in (slot_at (has_of e) has_none o)) (sym y.there) ∙ ap real_in (is_new e first c later eq at k) in
        absurd (let z = sym (unseen_peopled e b y.node none y.real y.was) ∙ (ap (λ (z : RealView). z.witness) is ∙ has) in cc)

    from_by : (y : From e k r) (joins : Bool) → is_among e b.clients ≡ joins → IsFrom
    from_by y true is = gets (new_is (ap (λ j. real_begins (real_if j (here_at f k) y.real)) (sym is) ∙ y.is)) is
      where
        new_is : real_begins (real_if true (here_at f k) y.real) ≡ r → new_witness f.settings ≡ x
        new_is made = let z = ap (λ (y : RealView). y.witness) made ∙ has in cc
    from_by y false is =
        kept_by y is (ap (λ j. real_begins (real_if j (here_at f k) y.real)) (sym is) ∙ y.is) (creation e)

    witness_from : real_at e start k ≡ Some r → IsFrom
    witness_from here = from_by (from e k r here) (is_among e b.clients) refl

  module _ (clients : ℕ → ClientReplica) (fit : ClientsFit f clients w) (e k : ℕ) (r : RealView) (x : WitnessView)
      (has : r.witness ≡ Some x) where
    abbrev Fits : Bool → Type 0
    Fits joins = FitsWitness g start r x (cond joins (new_client f.settings) (clients e))

    fits_by : IsFrom e k r x has → Fits (is_among e b.clients)
    fits_by (had q at seen is not) =
        subst Fits (sym not)
        (subst (λ z. FitsWitness g start z x (clients e)) is (still_fits e k q at x seen (clients e) (fit.each e k q at x seen)))
    fits_by (gets is joins) =
        subst Fits (sym joins) (subst (λ z. FitsWitness g start r z (new_client f.settings)) is (new_fits g start r))

  pub clients_fit_loaded : (clients : ℕ → ClientReplica) → ClientsFit f clients w → ClientsFit g (clients_loaded f b clients) start
  clients_fit_loaded clients fit = record {
    each = λ e k r here x has.
        subst (λ j. FitsWitness g start r x (cond j (new_client f.settings) (clients e))) (sym (among_is e b.clients))
        (fits_by clients fit e k r x has (witness_from e k r x has here));
  }

  -- whom no client was shown, none has been shown as the batch is loaded
  pub never_shown_loaded : (n : ℕ) → NeverShown w n → NeverShown start n
  never_shown_loaded n never e k r here x has = by (witness_from e k r x has here)
    where
      by : IsFrom e k r x has → table.get x.view.shown n ≡ None
      by (had q at seen is not) = never e k q at x seen
      by (gets is joins) = ap (λ (z : WitnessView). table.get z.view.shown n) (sym is) ∙ table.get-empty nat_cmp n
