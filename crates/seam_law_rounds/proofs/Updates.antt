-- An update that comes finds the client that it is for.
use Rattle.seam_law_rounds.proofs.Prelude.{◌≡◌, ℕ, List, [], ◌∷◌, None, sym, subst, arith, AllByRecursion, Event, Msg, Update, World, Frame}
use Rattle.seam_law_rounds.proofs.Prelude.{IsInFrame, entity_flow, IsSpared, update_in, FindsClient, NoUpdateComes, RunsTo, IsServed, bare}
use Rattle.seam_law_rounds.proofs.Prelude.{served, client_leads, finds_client, base_burden_leads, unseen_told_none}
use Rattle.seam_call.specs.declared.shown.Update.{Update as UpdateData}
use Rattle.seam_law_rounds.proofs.Serving.{HasNumbers}

module _ (f : Frame) (e ty : ℕ) (w v : World) (es : List Event) (run : RunsTo w es v) (frame : IsInFrame f w)
    (spared : IsSpared e w) (n : ℕ) (numbers : HasNumbers e n w v) (still : (a k : ℕ) → (entity_flow e w).mail a k ≡ []) where
  nothing : NoUpdateComes e w
  nothing a k = subst (AllByRecursion (λ m. update_in m ≡ None)) (sym (still a k)) tt

  module _ (a k : ℕ) (u : UpdateData) (ms : List Msg) (at : (entity_flow e v).mail a k ≡ Update u ∷ ms) where
    pub update_finds : IsServed f e ty w → FindsClient f e k ((entity_flow e v).slot k).base u
    update_finds (bare none unseen) =
        let all : AllByRecursion (λ m. update_in m ≡ None) (Update u ∷ ms) =
        subst (AllByRecursion (λ m. update_in m ≡ None)) at (unseen_told_none f e w v es frame unseen nothing run a k) in
        absurd (let z = all.0 in cc)
    update_finds (served first low client seen) =
        let less = base_burden_leads f e w v es frame run in
        let room = numbers.room in
        finds_client f e ty first n v (client_leads f e ty first n w v es client spared numbers.room run numbers.most) numbers.most
        (omega (arith, less, room)) a k u ms at
