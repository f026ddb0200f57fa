-- What is true of an entity's one real is true of each; and a client fits a witness as its real goes on.
use Rattle.seam_law_clients.proofs.Prelude.{◌≡◌, ℕ, ◌+◌, List, [], ◌∷◌, length, Option, None, Some, refl, sym, ap, ◌∙◌, subst, arith, inl}
use Rattle.seam_law_clients.proofs.Prelude.{inr, option_map, AllByRecursion, cases_eq, State, own_of, type_of, Call, RealView, WitnessView}
use Rattle.seam_law_clients.proofs.Prelude.{Msg, World, letters_of, more_letter, TokenPlace, In, On, Frame, entity_flow, real_in, real_of}
use Rattle.seam_law_clients.proofs.Prelude.{IsOne, Replays, account_of, after_calls, EachReal, version_in, own_now, FitsWithin, sole_here}
use Rattle.seam_law_clients.proofs.Prelude.{replay_version, OfReal, ClientReplica}

module _ (P : RealView → Type 0) where
  hands_by : (m : Msg) (ms : List Msg) (o : Option RealView) → real_of m ≡ o → AllByRecursion P (more_letter o (letters_of real_of ms)) →
      (AllByRecursion P (letters_of real_of ms) → AllByRecursion (OfReal P) ms) → AllByRecursion (OfReal P) (m ∷ ms)
  hands_by m ms None is h more = ((λ r has. let no = sym is ∙ has in absurd cc), more h)
  hands_by m ms (Some q) is h more = ((λ r has. let one : q ≡ r = let z = sym is ∙ has in cc in subst P one h.0), more h.1)

  -- what is true of the reals that letters carry
  of_hands : (ms : List Msg) → AllByRecursion P (letters_of real_of ms) → AllByRecursion (OfReal P) ms
  of_hands [] h = tt
  of_hands (m ∷ ms) h = hands_by m ms (real_of m) refl h (of_hands ms)

  of_none : (ms : List Msg) → letters_of real_of ms ≡ [] → AllByRecursion (OfReal P) ms
  of_none ms is = of_hands ms (subst (AllByRecursion P) (sym is) tt)

  pub each_of : (e : ℕ) (w : World) (p : TokenPlace) (r : RealView) → IsOne e w p r → P r → EachReal e P w
  each_of e w (In j) r one h = record {
    cells = λ k q has.
        let is = sole_here real_in real_of (entity_flow e w) (In j) r q k one has in subst P (sym is.1) h;
    hands = λ a k. of_none ((entity_flow e w).mail a k) (one.mail a k);
  }
  each_of e w (On x y) r one h = record {
    cells = λ k q has. absurd (let z = sym (one.slots k) ∙ has in cc);
    hands = λ a k. by a k;
  }
    where
      here : AllByRecursion (OfReal P) ((entity_flow e w).mail x y)
      here = of_hands ((entity_flow e w).mail x y) (subst (AllByRecursion P) (sym one.here) (h, tt))

      by : (a k : ℕ) → AllByRecursion (OfReal P) ((entity_flow e w).mail a k)
      by a k = elim (cases_eq a x) [
        | inl is ↦ elim (cases_eq k y) [
          | inl too ↦
              subst (λ b. AllByRecursion (OfReal P) ((entity_flow e w).mail b k)) (sym is)
              (subst (λ b. AllByRecursion (OfReal P) ((entity_flow e w).mail x b)) (sym too) here)
          | inr n ↦ of_none ((entity_flow e w).mail a k) (one.others a k (λ u v. n v))
        ]
        | inr n ↦ of_none ((entity_flow e w).mail a k) (one.others a k (λ u v. n u))
      ]

-- ---- a real that goes on

module _ (f : Frame) (r q : RealView) (p : Replays f r q) (v : WitnessView) (c : ClientReplica) (fits : FitsWithin f r v c) where
  version_is : q.version ≡ r.version + length p.further
  version_is = replay_version f r q p

  same_own : p.further ≡ [] → own_now f q ≡ own_now f r
  same_own none =
      let state : q.state ≡ r.state =
      ap (λ a. a.state) (p.account ∙ ap (after_calls (type_of f.defs r.ty) (account_of r)) none) in
      ap (λ t. own_of (type_of f.defs t).properties q.state) p.type ∙ ap (own_of (type_of f.defs r.ty).properties) state

  own_by : (ks : List Call) → p.further ≡ ks → (shown : State) → c.own ≡ Some (q.version, shown) → shown ≡ own_now f q
  own_by [] none shown has =
      let is = version_is in
      let many = ap length none in
      let same : q.version ≡ r.version = omega (arith, is, many) in
      fits.own shown (has ∙ ap (λ n. Some (n, shown)) same) ∙ sym (same_own none)
  own_by (k ∷ ks) some shown has =
      let is = version_is in
      let many = ap length some in
      let le = fits.not_ahead q.version (sym fits.told ∙ ap (option_map version_in) has) in
      absurd (omega (arith, is, many, le))

  -- the client fits the witness as well when the real has executed calls
  pub fits_on : FitsWithin f q v c
  fits_on = record {
    others = fits.others;
    view = fits.view;
    radius = fits.radius;
    hysteresis = fits.hysteresis;
    told = fits.told;
    not_ahead = λ version told. let le = fits.not_ahead version told in let is = version_is in omega (arith, le, is);
    own = own_by p.further refl;
  }
