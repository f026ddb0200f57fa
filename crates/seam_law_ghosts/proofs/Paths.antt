-- Positions along calls.
use Rattle.seam_law_ghosts.proofs.Prelude.{◌≡◌, List, [], ◌∷◌, ◌++◌, refl, sym, ap, ◌∙◌, append-nil, append_assoc, append_cancel_left, Pos}
use Rattle.seam_law_ghosts.proofs.Prelude.{last_of, TypeDef, after, type_of, Call, RealView, Frame, Account, account_of, after_call}
use Rattle.seam_law_ghosts.proofs.Prelude.{after_calls, Replays, positions_after, path_of}

module _ (t : TypeDef) where
  -- the last position is that of the state after the calls
  last_by : (p : Pos) (a : Account) (cs : List Call) → p ≡ a.state.pos →
      last_of p (positions_after t a.state cs) ≡ (after_calls t a cs).state.pos
  last_by p a [] is = is
  last_by p a (c ∷ cs) is = last_by (after t a.state c.deed).pos (after_call t a c) cs refl

  positions_last : (a : Account) (cs : List Call) (c : Call) → positions_after t a.state (cs ++ c ∷ [])
      ≡ positions_after t a.state cs ++ (after t (after_calls t a cs).state c.deed).pos ∷ []
  positions_last a [] c = refl
  positions_last a (x ∷ xs) c = ap (λ ps. (after t a.state x.deed).pos ∷ ps) (positions_last (after_call t a x) xs c)

  done_is : (a : Account) (cs : List Call) → (after_calls t a cs).done ≡ a.done ++ cs
  done_is a [] = sym (append-nil a.done)
  done_is a (c ∷ cs) = done_is (after_call t a c) cs ∙ append_assoc a.done (c ∷ []) cs

module _ (f : Frame) (start r : RealView) (p : Replays f start r) where
  -- the further calls are those that were appended to its list
  pub further_done : r.done ≡ start.done ++ p.further
  further_done = ap (λ (a : Account). a.done) p.account ∙ done_is (type_of f.defs start.ty) (account_of start) p.further

  -- it is at the last position of its path
  pub is_at_last : r.state.pos ≡ last_of start.state.pos (path_of f start p.further)
  is_at_last =
      ap (λ (a : Account). a.state.pos) p.account
      ∙ sym (last_by (type_of f.defs start.ty) start.state.pos (account_of start) p.further refl)

  -- the path after one more call
  pub path_more : (c : Call) → path_of f start (p.further ++ c ∷ [])
      ≡ path_of f start p.further ++ (after (type_of f.defs r.ty) r.state c.deed).pos ∷ []
  path_more c =
      positions_last (type_of f.defs start.ty) (account_of start) p.further c
      ∙ ap (λ (a : Account). path_of f start p.further ++ (after (type_of f.defs start.ty) a.state c.deed).pos ∷ []) (sym p.account)
      ∙ ap (λ ty. path_of f start p.further ++ (after (type_of f.defs ty) r.state c.deed).pos ∷ []) (sym p.type)

  module _ (q : RealView) (n : Replays f start q) where
    further_by : (cs : List Call) → q.done ≡ r.done ++ cs → n.further ≡ p.further ++ cs
    further_by cs more =
        append_cancel_left start.done n.further (p.further ++ cs)
        (sym (further_done_of q n) ∙ more ∙ ap (λ ds. ds ++ cs) further_done ∙ append_assoc start.done p.further cs)
      where
        further_done_of : (q : RealView) (n : Replays f start q) → q.done ≡ start.done ++ n.further
        further_done_of q n =
            ap (λ (a : Account). a.done) n.account ∙ done_is (type_of f.defs start.ty) (account_of start) n.further

    -- the same calls
    pub same_further : q.done ≡ r.done → n.further ≡ p.further
    same_further same = further_by [] (same ∙ sym (append-nil r.done)) ∙ append-nil p.further

    -- one call more
    pub more_further : (c : Call) → q.done ≡ r.done ++ c ∷ [] → n.further ≡ p.further ++ c ∷ []
    more_further c more = further_by (c ∷ []) more
