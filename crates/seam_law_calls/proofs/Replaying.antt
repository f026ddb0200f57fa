-- Reals replay their calls.
use Rattle.seam_law_calls.proofs.Prelude.{◌≡◌, ℕ, Bool, List, [], ◌∷◌, ◌++◌, Option, refl, sym, ap, ◌∙◌, TypeDef, type_of, Call, RealView}
use Rattle.seam_law_calls.proofs.Prelude.{Msg, Frame, here_at, AtCell, Acts, surveys, calls, readies, Account, account_of, after_call}
use Rattle.seam_law_calls.proofs.Prelude.{after_calls, Replays}

after_more : (t : TypeDef) (a : Account) (ks ls : List Call) → after_calls t a (ks ++ ls) ≡ after_calls t (after_calls t a ks) ls
after_more t a [] ls = refl
after_more t a (k ∷ ks) ls = after_more t (after_call t a k) ks ls

module _ (f : Frame) where
  pub replays_none : (r : RealView) → Replays f r r
  replays_none r = record { further = []; entity = refl; type = refl; account = refl }

  pub replays_on : (r q p : RealView) → Replays f r q → Replays f q p → Replays f r p
  replays_on r q p a b = record {
    further = a.further ++ b.further;
    entity = b.entity ∙ a.entity;
    type = b.type ∙ a.type;
    account =
        b.account
        ∙ (ap (λ t. after_calls (type_of f.defs t) (account_of q) b.further) a.type
        ∙ (ap (λ x. after_calls (type_of f.defs r.ty) x b.further) a.account
        ∙ sym (after_more (type_of f.defs r.ty) (account_of r) a.further b.further)));
  }

  -- why a real settles is a call, or none
  pub acts_replays : (k e : ℕ) (s u : AtCell) (i : Option Msg) (r q : RealView) (changed : Bool) → Acts (here_at f k) e s i r u q changed →
      Replays f r q
  acts_replays k e s u i r q changed (surveys n a b c) = replays_none r
  acts_replays k e s u i r q changed (calls c a b d g) = record { further = c ∷ []; entity = refl; type = refl; account = refl }
  acts_replays k e s u i r q changed (readies o c a b d g) = record { further = c ∷ []; entity = refl; type = refl; account = refl }
