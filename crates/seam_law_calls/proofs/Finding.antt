-- Calls find their way after every list of events.
use Rattle.seam_law_calls.proofs.Prelude.{◌≡◌, ℕ, ◌<◌, Bool, true, false, not, ◌&&◌, ◌||◌, is_some, List, [], ◌∷◌, ◌++◌, length, None}
use Rattle.seam_law_calls.proofs.Prelude.{Some, refl, letters_of, more_letter, letters_of-append, mine, is_call, is_hand, has_hand}
use Rattle.seam_law_calls.proofs.Prelude.{CallsFindTheirWay}
use Rattle.seam_law_calls.proofs.Prelude.{sym, ap, ◌∙◌, subst, AllByRecursion, happens, Event, Call as CallData, Msg, RouteView, World}
use Rattle.seam_law_calls.proofs.Prelude.{node_steps, Flow, comes, Frame, Has, entity_flow, IsSpared, IsFrame, HasOne, is_visited, follow}
use Rattle.seam_law_calls.proofs.Prelude.{NamesVisited, AllLead, RunsTo}
use Rattle.seam_entity.specs.declared.message.Msg.TheVariants.{Call}
use Rattle.seam_law_calls.proofs.Holds.{both}
use Rattle.seam_law_calls.proofs.Lists.{mine_own}
use Rattle.seam_law_calls.proofs.OneReal.{goes, room, one_keeps}
use Rattle.seam_law_calls.proofs.WayMoves.{leads}
use Rattle.seam_law_calls.proofs.Leading.{lead_goes}

module _ (f : Frame) (frame : IsFrame f) (e ty : ℕ) (known : ty < length f.defs) where
  pub ways_lead : (w v : World) (es : List Event) → HasOne f e ty w → IsSpared e w → AllLead (entity_flow e w) →
      RunsTo w es v → AllLead (entity_flow e v)
  ways_lead w v es has spared lead run =
      one_keeps f frame e ty known (λ x. AllLead (entity_flow e x)) (λ x a o one its calm was.
      let g = goes f frame e ty known x a o one calm in
      lead_goes g g.moves.0.sent g.moves.0.items
      (leads f e g.k ((entity_flow e x).slot g.k) (comes g.input) ((entity_flow e (happens node_steps x a)).slot g.k) g.moves.0.sent
      (room f frame e ty known x a o one calm) g.moves.1.1 g.moves.0.moves) was) w v es has spared run lead

first_by : (v a : Bool) → ((not true || v) && a) ≡ true → v ≡ true
first_by true a h = refl
first_by false a h = cc

-- a call that is the first of its link finds the real, or the next place
pub first_finds : (w : Flow Has Msg) → AllLead w → (a k : ℕ) (c : CallData) (ms : List Msg) → w.mail a k ≡ Call c ∷ ms →
    is_visited (w.slot k) ≡ true
first_finds w lead a k c ms at =
    first_by (is_visited (w.slot k)) (follow (is_visited (w.slot k) || false) ms)
    (sym (ap (follow (is_visited (w.slot k))) at) ∙ lead.calls a k)

-- with no letter and no next place, and every route to a cell that has the real, all lead there
pub starts_leading : (w : Flow Has Msg) → ((a k : ℕ) → w.mail a k ≡ []) → ((k : ℕ) → (w.slot k).cell.slot.next ≡ None) →
    ((k : ℕ) (r : RouteView) → (w.slot k).base.route ≡ Some r → is_some (w.slot r.cell).cell.slot.real ≡ true) → AllLead w
starts_leading w mail nexts routes = record {
  nexts = λ k n h. let z = sym (nexts k) ∙ h in absurd cc;
  routes = λ k r h. ap (λ b. b || is_some (w.slot r.cell).cell.slot.next) (routes k r h);
  currents = λ a k. subst (AllByRecursion (NamesVisited w)) (sym (mail a k)) tt;
  calls = λ a k. ap (follow (is_visited (w.slot k))) (mail a k);
}

-- a call that is not the first comes after what is before it
after_by : (v a b : Bool) → ((v || a) || b) ≡ true → (v || (a || b)) ≡ true
after_by true a b h = refl
after_by false a b h = h

last_by : (v : Bool) → v ≡ true → (v || false) ≡ true
last_by true h = refl
last_by false h = cc

follows_at : (v : Bool) (xs : List Msg) (c : CallData) (ys : List Msg) → follow v (xs ++ Call c ∷ ys) ≡ true → (v || has_hand xs) ≡ true
follows_at v [] c ys h = last_by v (first_by v (follow (v || false) ys) h)
follows_at v (x ∷ xs) c ys h =
    after_by v (is_hand x) (has_hand xs)
    (follows_at (v || is_hand x) xs c ys (both (not (is_call x) || v) (follow (v || is_hand x) (xs ++ Call c ∷ ys)) h).1)

-- so each call on a link finds a place, where all follow
pub each_finds : (w : World) → ((e a k : ℕ) → follow (is_visited ((entity_flow e w).slot k)) ((entity_flow e w).mail a k) ≡ true) →
    CallsFindTheirWay w
each_finds w all a k c before after at =
    let e = c.entity in
    let seen : (entity_flow e w).mail a k ≡ letters_of (mine e) before ++ Call c ∷ letters_of (mine e) after =
    ap (letters_of (mine e)) at ∙ (letters_of-append (mine e) before (Call c ∷ after)
    ∙ ap (λ o. letters_of (mine e) before ++ more_letter o (letters_of (mine e) after)) (mine_own e (Call c) refl)) in
    follows_at (is_visited ((entity_flow e w).slot k)) (letters_of (mine e) before) c (letters_of (mine e) after)
    (sym (ap (follow (is_visited ((entity_flow e w).slot k))) seen) ∙ all e a k)
