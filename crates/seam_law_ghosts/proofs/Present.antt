-- What others may see of the real is true, and stays so.
use Rattle.seam_law_ghosts.proofs.Prelude.{◌≡◌, ◌+◌, ◌-◌, ◌≤◌, Bool, true, false, ◌&&◌, eqb, List, [], ◌∷◌, ◌++◌, length, refl, sym, ap}
use Rattle.seam_law_ghosts.proofs.Prelude.{◌∙◌, subst, arith, length-append, Value, Number, Text, Deed, State, TypeDef, ghost_of, after}
use Rattle.seam_law_ghosts.proofs.Prelude.{part_of_deed, same_value, same_values, same_state, same_shown, changes, type_of, Call, GhostCopy}
use Rattle.seam_law_ghosts.proofs.Prelude.{RealView, public_after, Frame, Account, account_of, after_call, after_calls, Replays, shown_at}
use Rattle.seam_law_ghosts.proofs.Prelude.{IsTrueCopy, both}
use Rattle.std.proofs.Common.{take}
use Rattle.std.proofs.lemmas.Bool.Decides.{Decides-int_eq, Decides-eqb}
use Rattle.std.proofs.lemmas.Slice.Eq.{slice_eq-Decides, bytes_eq-Decides}
use Rattle.std.specs.Bool.{Decides}
use Rattle.std.proofs.lemmas.List.{take-append-le, take_all}
use Rattle.seam_defs.specs.declared.flags.Part.TheVariants as part
use Rattle.seam_law_ghosts.proofs.Making.{Did, same, one, did_calls}
use Rattle.seam_law_calls.proofs.Holds.{not_false}

-- ---- states of which others see the same

value-Decides : (a b : Value) → Decides (same_value a b) (a ≡ b)
value-Decides (Number a) (Number b) = let d = Decides-int_eq a b in ((λ t. ap Number (d.0 t)), (λ e. d.1 (let h : a ≡ b = cc in h)))
value-Decides (Number a) (Text b) = ((λ t. cc), (λ e. cc))
value-Decides (Text a) (Number b) = ((λ t. cc), (λ e. cc))
value-Decides (Text a) (Text b) = let d = bytes_eq-Decides a b in ((λ t. ap Text (d.0 t)), (λ e. d.1 (let h : a ≡ b = cc in h)))

same_states : (a b : State) → a.pos.x ≡ b.pos.x → a.pos.z ≡ b.pos.z → a.props ≡ b.props → a ≡ b
same_states a b x z p = λ i. record { pos = record { x = x i; z = z i }; props = p i }

same_is : (a b : State) → same_state a b ≡ true → a ≡ b
same_is a b h =
    let two = both (eqb a.pos.x b.pos.x && eqb a.pos.z b.pos.z) (same_values a.props b.props) h in
    let place = both (eqb a.pos.x b.pos.x) (eqb a.pos.z b.pos.z) two.0 in
    same_states a b ((Decides-eqb a.pos.x b.pos.x).0 place.0) ((Decides-eqb a.pos.z b.pos.z).0 place.1)
    ((slice_eq-Decides value-Decides a.props b.props (same_values a.props b.props) refl).0 two.1)

-- a deed of the cell part that changes nothing that others see
unseen_is : (t : TypeDef) (s : State) (d : Deed) → part_of_deed t d ≡ part.Cell → changes t s d ≡ false →
    ghost_of t.properties s ≡ ghost_of t.properties (after t s d)
unseen_is t s d is h =
    let test = not_false (same_shown t.properties (part_of_deed t d) s (after t s d)) h in
    same_is (ghost_of t.properties s) (ghost_of t.properties (after t s d))
    (subst (λ p. same_shown t.properties p s (after t s d) ≡ true) is test)

-- ---- versions count calls

version_is : (t : TypeDef) (a : Account) (ks : List Call) → (after_calls t a ks).version ≡ a.version + length ks
version_is t a [] = omega arith
version_is t a (k ∷ ks) = let more = version_is t (after_call t a k) ks in omega (arith, more)

more_calls : (t : TypeDef) (a : Account) (ks ls : List Call) → after_calls t a (ks ++ ls) ≡ after_calls t (after_calls t a ks) ls
more_calls t a [] ls = refl
more_calls t a (k ∷ ks) ls = more_calls t (after_call t a k) ks ls

did_account : (f : Frame) (r q : RealView) (d : Did f r q) → account_of q ≡ after_calls (type_of f.defs r.ty) (account_of r) (did_calls d)
did_account f r q (same n t a) = a
did_account f r q (one c n t p a) = a

pub did_entity : (f : Frame) (r q : RealView) → Did f r q → q.entity ≡ r.entity
did_entity f r q (same n t a) = n
did_entity f r q (one c n t p a) = n

pub did_type : (f : Frame) (r q : RealView) → Did f r q → q.ty ≡ r.ty
did_type f r q (same n t a) = t
did_type f r q (one c n t p a) = t

module _ (f : Frame) (start : RealView) where
  pub account_then : (r q : RealView) (a : Replays f start r) (d : Did f r q) →
      account_of q ≡ after_calls (type_of f.defs start.ty) (account_of start) (a.further ++ did_calls d)
  account_then r q a d =
      did_account f r q d
      ∙ (ap (λ t. after_calls (type_of f.defs t) (account_of r) (did_calls d)) a.type
      ∙ (ap (λ x. after_calls (type_of f.defs start.ty) x (did_calls d)) a.account
      ∙ sym (more_calls (type_of f.defs start.ty) (account_of start) a.further (did_calls d))))

  -- a real that replays the start's calls does so after a move
  abbrev pub replays_then : (r q : RealView) → Replays f start r → Did f r q → Replays f start q
  replays_then r q a d = record {
    further = a.further ++ did_calls d;
    entity = did_entity f r q d ∙ a.entity;
    type = did_type f r q d ∙ a.type;
    account = account_then r q a d;
  }

  pub replay_version : (q : RealView) (p : Replays f start q) → q.version ≡ start.version + length p.further
  replay_version q p =
      ap (λ a. a.version) p.account ∙ version_is (type_of f.defs start.ty) (account_of start) p.further

  -- more calls change nothing of what is true
  pub true_more : (further more : List Call) (c : GhostCopy) → IsTrueCopy f start further c → IsTrueCopy f start (further ++ more) c
  true_more further more c h =
      let n = length-append further more in
      let low = h.reached in
      let short : c.version - start.version ≤ length further = omega (arith, low) in
      record {
        reached = omega (arith, n, low);
        is = h.is ∙ ap (λ l. shown_at f start.ty c.version (after_calls (type_of f.defs start.ty) (account_of start) l).state)
            (sym (take-append-le (c.version - start.version) further more short));
        public = ap (λ l. (after_calls (type_of f.defs start.ty) (account_of start) l).public)
            (take-append-le (c.version - start.version) further more short) ∙ h.public;
      }

  abbrev pub shown_of : RealView → GhostCopy
  shown_of r = shown_at f r.ty r.public r.state

  -- where the last call was one that others may see
  true_last : (q : RealView) (p : Replays f start q) → q.public ≡ q.version → IsTrueCopy f start p.further (shown_of q)
  true_last q p last =
      let v = replay_version q p in
      let all : take (q.public - start.version) p.further ≡ p.further =
      take_all (q.public - start.version) p.further (omega (arith, v, last)) in
      record {
        reached = omega (arith, v, last);
        is =
            ap (λ t. shown_at f t q.public q.state) p.type
            ∙ (ap (λ a. shown_at f start.ty q.public a.state) p.account
            ∙ ap (λ l. shown_at f start.ty q.public (after_calls (type_of f.defs start.ty) (account_of start) l).state) (sym all));
        public = ap (λ l. (after_calls (type_of f.defs start.ty) (account_of start) l).public) all
            ∙ ap (λ a. a.public) (sym p.account);
      }

  pub same_shown_of : (r q : RealView) → q.ty ≡ r.ty → q.public ≡ r.public →
      ghost_of (type_of f.defs r.ty).properties r.state ≡ ghost_of (type_of f.defs r.ty).properties q.state → shown_of r ≡ shown_of q
  same_shown_of r q t p s =
      let one : shown_at f r.ty r.public q.state ≡ shown_of q = ap (λ x. shown_at f x r.public q.state) (sym t)
      ∙ ap (λ n. shown_at f q.ty n q.state) (sym p) in
      (λ i. record { ty = r.ty; version = r.public; state = s i }) ∙ one

  -- where a call changes nothing that others may see, they see the same
  pub unseen_same : (r q : RealView) (c : Call) → q.ty ≡ r.ty → part_of_deed (type_of f.defs r.ty) c.deed ≡ part.Cell →
      account_of q ≡ after_call (type_of f.defs r.ty) (account_of r) c → changes (type_of f.defs r.ty) r.state c.deed ≡ false →
      (q.public ≡ r.public) × (shown_of r ≡ shown_of q)
  unseen_same r q c t part is b =
      let public : q.public ≡ r.public = ap (λ x. x.public) is ∙ ap (λ x. public_after x (r.version + 1) r.public) b in
      let unseen = unseen_is (type_of f.defs r.ty) r.state c.deed part b in
      (public, same_shown_of r q t public (unseen ∙ ap (λ x. ghost_of (type_of f.defs r.ty).properties x.state) (sym is)))

  one_by : (r q : RealView) (a : Replays f start r) (c : Call) (n : q.entity ≡ r.entity) (t : q.ty ≡ r.ty)
      (part : part_of_deed (type_of f.defs r.ty) c.deed ≡ part.Cell) (is : account_of q ≡ after_call (type_of f.defs r.ty) (account_of r) c)
      → IsTrueCopy f start a.further (shown_of r) → (b : Bool) → changes (type_of f.defs r.ty) r.state c.deed ≡ b →
      IsTrueCopy f start (a.further ++ c ∷ []) (shown_of q) × (r.public ≤ q.public)
  one_by r q a c n t part is h true b =
      let public : q.public ≡ r.version + 1 = ap (λ x. x.public) is ∙ ap (λ x. public_after x (r.version + 1) r.public) b in
      let version : q.version ≡ r.version + 1 = ap (λ x. x.version) is in
      let low = h.reached in
      let v = replay_version r a in (
        true_last q (replays_then r q a (one c n t part is)) (public ∙ sym version),
        omega (arith, public, low, v),
      )
  one_by r q a c n t part is h false b =
      let same = unseen_same r q c t part is b in
      let public = same.0 in (
        true_more a.further (c ∷ []) (shown_of q) (subst (IsTrueCopy f start a.further) same.1 h),
        omega (arith, public),
      )

  -- what others may see is true after a move too, and the public version has not fallen
  pub present_after : (r q : RealView) (a : Replays f start r) (d : Did f r q) → IsTrueCopy f start a.further (shown_of r) →
      IsTrueCopy f start (a.further ++ did_calls d) (shown_of q) × (r.public ≤ q.public)
  present_after r q a (same n t is) h =
      let public : q.public ≡ r.public = ap (λ x. x.public) is in
      let shown = same_shown_of r q t public (ap (λ x. ghost_of (type_of f.defs r.ty).properties x.state) (sym is)) in
      (true_more a.further [] (shown_of q) (subst (IsTrueCopy f start a.further) shown h), omega (arith, public))
  present_after r q a (one c n t part is) h = one_by r q a c n t part is h (changes (type_of f.defs r.ty) r.state c.deed) refl

  -- at the start it is
  pub present_first : start.public ≤ start.version → IsTrueCopy f start [] (shown_of start)
  present_first low = record {
    reached = omega (arith, low);
    is = ap (λ l. shown_at f start.ty start.public (after_calls (type_of f.defs start.ty) (account_of start) l).state)
        (sym (take_all (start.public - start.version) [] (omega arith)));
    public = ap (λ l. (after_calls (type_of f.defs start.ty) (account_of start) l).public)
        (take_all (start.public - start.version) [] (omega arith));
  }
