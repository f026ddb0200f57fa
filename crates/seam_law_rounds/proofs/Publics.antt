-- The public version stays at most the version.
use Rattle.seam_law_rounds.proofs.Prelude.{ℕ, ◌+◌, ◌≤◌, Bool, true, false, List, [], ◌∷◌, sym, subst, arith, type_of, TypeDef}
use Rattle.seam_law_rounds.proofs.Prelude.{Call as CallData, RealView, public_after, Frame, Account, account_of, after_call, after_calls}
use Rattle.seam_law_rounds.proofs.Prelude.{Replays}

after_low : (b : Bool) (v p : ℕ) → p ≤ v → public_after b (v + 1) p ≤ v + 1
after_low true v p low = omega arith
after_low false v p low = omega (arith, low)

calls_low : (t : TypeDef) (a : Account) (ks : List CallData) → a.public ≤ a.version →
    (after_calls t a ks).public ≤ (after_calls t a ks).version
calls_low t a [] low = low
calls_low t a (k ∷ ks) low = calls_low t (after_call t a k) ks (after_low _ a.version a.public low)

pub public_low : (f : Frame) (start r : RealView) → start.public ≤ start.version → Replays f start r → r.public ≤ r.version
public_low f start r low q =
    subst (λ (a : Account). a.public ≤ a.version) (sym q.account)
    (calls_low (type_of f.defs start.ty) (account_of start) q.further low)
