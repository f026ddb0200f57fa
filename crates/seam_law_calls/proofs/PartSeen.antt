-- Each step of a node is, for one sender, one of the moves of its calls to the entity's base part.
use Rattle.seam_law_calls.proofs.Prelude.{◌≡◌, ℕ, ◌<◌, true, not, cond, List, [], ◌∷◌, ◌++◌, Option, None, Some, refl, sym, ap, ◌∙◌, arith}
use Rattle.seam_law_calls.proofs.Prelude.{inl, inr, cases_eq, ne_eqb, append-nil, found, items_to, OrderView, next_item, after_offer}
use Rattle.seam_law_calls.proofs.Prelude.{Call as CallData, Order, rank_of, order_or, Msg, BaseCall, Here, base_of, order_is_ready}
use Rattle.seam_law_calls.proofs.Prelude.{ready_order, PartView, stray_base_call, letters_of, more_letter, IsSilent, carried_in, Desk, Post}
use Rattle.seam_law_calls.proofs.Prelude.{Mail, Item, Quiet, Only, Passes, Frame, here_at, Has, AtBase, numbered_from, desk_for}
use Rattle.seam_law_calls.proofs.Prelude.{base_call_in, calls_ordered, called, Offered, now, early, late, PartMoves, rests, refuses, offers}
use Rattle.seam_law_calls.proofs.Prelude.{sends, serves, executes, misses, updates, shows, ends, part_desk, base_post, base_mail, FindsPart}
use Rattle.seam_law_calls.proofs.Prelude.{sees_none, sees_one_here, sees_one_there, offer_late, item_from}
use Rattle.std.specs.FinMap as table
use Rattle.seam_law_flow.specs.CallMoves as turn
use Rattle.seam_call.specs.declared.order.Order.TheVariants as order
use Rattle.seam_node_steps.specs.BaseCases.{may_call}
use Rattle.seam_law_calls.proofs.Holds.{not_both}
use Rattle.seam_law_calls.proofs.DeskLemmas.{from_same, from_other, desk_executes, desk_holds, desk_keeps, desk_stays, desk_takes}
use Rattle.seam_law_calls.specs.PartMoves.{Refused}

-- a ready call is of the sender under whose place it is held
abbrev pub HoldsOwnCalls : AtBase → Type 0
HoldsOwnCalls b = (p : PartView) (o : ℕ × OrderView CallData) (c : CallData) → b.part ≡ Some p → ready_order p.orders ≡ Some o →
    next_item o.1 ≡ Some c → rank_of c.sender ≡ o.0

-- a call that comes and finds the part is not refused
part_refuses : (h : Here) (c : CallData) (o : Option PartView) (p : PartView) → o ≡ Some p → may_call h p c ≡ true →
    stray_base_call h c o ≡ true → ⊥
part_refuses h c None p is may stray = cc
part_refuses h c (Some x) p is may stray =
    let same : x ≡ p = cc in
    not_both (may_call h p c) may (ap (λ y. not (may_call h y c)) (sym same) ∙ stray)

never_refused : (f : Frame) (e k : ℕ) (b : AtBase) (c : CallData) → FindsPart f e k b c → Refused (here_at f k) c b.part → ⊥
never_refused f e k b c finds (inl low) = let home = finds.home in omega (arith, low, home)
never_refused f e k b c finds (inr stray) = part_refuses (here_at f k) c b.part finds.part finds.here finds.may stray

-- ---- one sender's desk after an offer

late_changes_nothing : {U : Type 0} (d : Desk U) (n : ℕ) (u : U) → n < d.order.next → d ≡ turn.offered d n u
late_changes_nothing d n u lt =
    let order = offer_late d.order n u lt in
    let done = ap (λ t. d.done ++ cond t (u ∷ []) []) (ne_eqb n d.order.next (λ e. omega (arith, e, lt))) ∙ append-nil d.done in
    let step : record { order = d.order; done = d.done } ≡ record { order = after_offer d.order n u; done = d.done } =
    ap (λ o. let x : Desk _ = record { order = o; done = d.done } in x) (sym order) in
    step ∙ ap (λ l. let x : Desk _ = record { order = after_offer d.order n u; done = l } in x) (sym done)

abbrev pub desk_of_part : ℕ → PartView → Desk CallData
desk_of_part s p = desk_for s p.orders p.done

module _ (s : ℕ) (h : Here) (p : PartView) (c : CallData) (q : PartView) where
  own_offered : rank_of c.sender ≡ s → Offered h p c q → desk_of_part s q ≡ turn.offered (desk_of_part s p) c.number c
  own_offered own (now at is) = ap (desk_of_part s) is ∙ desk_executes s p.orders p.done c own at
  own_offered own (early lt is) = ap (desk_of_part s) is ∙ desk_holds s p.orders p.done c own lt
  own_offered own (late lt is) =
      let same = ap (λ x. (order_or (table.get p.orders x)).next) own in
      ap (desk_of_part s) is ∙ late_changes_nothing (desk_of_part s p) c.number c (omega (arith, lt, same))

  other_offered : (rank_of c.sender ≡ s → ⊥) → Offered h p c q → desk_of_part s q ≡ desk_of_part s p
  other_offered other (now at is) =
      ap (desk_of_part s) is ∙ desk_keeps s p.orders p.done c (rank_of c.sender) _ refl other
  other_offered other (early lt is) = ap (desk_of_part s) is ∙ desk_stays s p.orders p.done c other
  other_offered other (late lt is) = ap (desk_of_part s) is

-- ---- a step

module _ (f : Frame) (e k s : ℕ) (h : Has) (i : Option Msg) (t : Has) (sent : List (ℕ × Msg)) (out : ℕ → List Msg)
    (items : (j : ℕ) → out j ≡ items_to j sent) where
  abbrev mine : Msg → Option (Mail CallData)
  mine m = base_mail s m

  abbrev came : Option (Mail CallData)
  came = carried_in mine i

  abbrev seen_out : ℕ → List (Mail CallData)
  seen_out j = letters_of mine (out j)

  abbrev pub Seen : Type 0
  Seen = Passes k (base_post s h) came (base_post s t) seen_out

  came_by : (x : Option Msg) → carried_in mine x ≡ item_from s (called x)
  came_by None = refl
  came_by (Some m) = refl

  came_is : (o : Option CallData) → called i ≡ o → came ≡ item_from s o
  came_is o is = came_by i ∙ ap (item_from s) is

  came_none : i ≡ None → came ≡ None
  came_none n = came_is None (ap called n)

  came_own : (c : CallData) → i ≡ Some (BaseCall c) → rank_of c.sender ≡ s → came ≡ Some (Item c.number c)
  came_own c is own = came_is (Some c) (ap called is) ∙ from_same s c (Item c.number c) own

  came_other : (c : CallData) → i ≡ Some (BaseCall c) → (rank_of c.sender ≡ s → ⊥) → came ≡ None
  came_other c is other = came_is (Some c) (ap called is) ∙ from_other s c (Item c.number c) other

  unasked : (ps : List (ℕ × Msg)) → IsSilent base_call_in ps → IsSilent mine ps
  unasked [] z = tt
  unasked (p ∷ ps) z = (ap (item_from s) z.0, unasked ps z.1)

  quiet : IsSilent base_call_in sent → Quiet seen_out
  quiet z j = ap (letters_of mine) (items j) ∙ sees_none mine j sent (unasked sent z)

  only : (to : ℕ) (c : CallData) → sent ≡ (to, BaseCall c) ∷ [] → rank_of c.sender ≡ s → Only seen_out to (Item c.number c)
  only to c is own = record {
    here =
        ap (letters_of mine) (items to ∙ ap (items_to to) is)
        ∙ (sees_one_here mine to (BaseCall c) ∙ ap (λ o. more_letter o []) (from_same s c (Item c.number c) own));
    others = λ j n. ap (letters_of mine) (items j ∙ ap (items_to j) is) ∙ sees_one_there mine to j (BaseCall c) n;
  }

  silent_other : (to : ℕ) (c : CallData) → sent ≡ (to, BaseCall c) ∷ [] → (rank_of c.sender ≡ s → ⊥) → Quiet seen_out
  silent_other to c is other j =
      ap (letters_of mine) (items j ∙ ap (items_to j) is)
      ∙ sees_none mine j ((to, BaseCall c) ∷ []) (from_other s c (Item c.number c) other, tt)

  abbrev post : List (ℕ × CallData) → Option (Desk CallData) → Post CallData
  post l d = record { stored = l; desk = d }

  post_is : (l m : List (ℕ × CallData)) (d q : Option (Desk CallData)) → l ≡ m → d ≡ q → post l d ≡ post m q
  post_is l m d q a b = ap (λ x. post x d) a ∙ ap (λ y. post m y) b

  abbrev stores : Has → List (ℕ × CallData)
  stores x = letters_of (numbered_from s) (calls_ordered x.base)

  abbrev desk_at : Has → Option (Desk CallData)
  desk_at x = part_desk s x.base.part

  kept : calls_ordered t.base ≡ calls_ordered h.base → stores t ≡ stores h
  kept same = ap (letters_of (numbered_from s)) same

  -- nothing of the sender's changes
  idle : came ≡ None → Quiet seen_out → stores t ≡ stores h → desk_at t ≡ desk_at h → Seen
  idle n z a b = turn.rests n (post_is (stores t) (stores h) (desk_at t) (desk_at h) a b) z

  before : (p : PartView) → h.base.part ≡ Some p → desk_at h ≡ Some (desk_of_part s p)
  before p has = ap (part_desk s) has

  after_is : (q : PartView) (d : Desk CallData) → t.base.part ≡ Some q → desk_of_part s q ≡ d → desk_at t ≡ Some d
  after_is q d after is = ap (part_desk s) after ∙ ap Some is

  same_desk : (p q : PartView) → h.base.part ≡ Some p → t.base.part ≡ Some q → desk_of_part s q ≡ desk_of_part s p → desk_at t ≡ desk_at h
  same_desk p q has after is = after_is q (desk_of_part s p) after is ∙ sym (before p has)

  first_own : (c : CallData) (cs : List CallData) → calls_ordered h.base ≡ c ∷ cs → rank_of c.sender ≡ s →
      stores h ≡ (c.number, c) ∷ letters_of (numbered_from s) cs
  first_own c cs at own =
      ap (letters_of (numbered_from s)) at
      ∙ ap (λ o. more_letter o (letters_of (numbered_from s) cs)) (from_same s c (c.number, c) own)

  first_other : (c : CallData) (cs : List CallData) → calls_ordered h.base ≡ c ∷ cs → calls_ordered t.base ≡ cs →
      (rank_of c.sender ≡ s → ⊥) → stores t ≡ stores h
  first_other c cs at left other =
      ap (letters_of (numbered_from s)) left
      ∙ sym (ap (letters_of (numbered_from s)) at
      ∙ ap (λ o. more_letter o (letters_of (numbered_from s) cs)) (from_other s c (c.number, c) other))

  module _ (turns : (c : CallData) → i ≡ Some (BaseCall c) → FindsPart f e k h.base c) (own_calls : HoldsOwnCalls h.base)
      (calm : (os : List Order) → h.base.orders ≡ order.Reap e ∷ os → ⊥) where
    pub part_seen : PartMoves (here_at f k) e h.base i t.base sent → Seen
    part_seen (rests n m same part z) = idle (came_is None n) (quiet z) (kept same) (ap (part_desk s) part)
    part_seen (refuses c n stray same z) = absurd (never_refused f e k h.base c (turns c n) stray)
    part_seen (offers c p q n has may o same after z) = elim (cases_eq (rank_of c.sender) s) [
      | inl own ↦ turn.offers c.number c (desk_of_part s p) (came_own c n own) (before p has)
          (post_is (stores t) (stores h) (desk_at t) _ (kept same) (after_is q _ after (own_offered s (here_at f k) p c q own o))) (quiet z)
      | inr other ↦ idle (came_other c n other) (quiet z) (kept same)
          (same_desk p q has after (other_offered s (here_at f k) p c q other o))
    ]
    part_seen (sends c cs n at left part z) = elim (cases_eq (rank_of c.sender) s) [
      | inl own ↦ turn.sends c.number c (letters_of (numbered_from s) cs) (base_of (here_at f k) e) (came_none n) (first_own c cs at own)
          (post_is (stores t) _ (desk_at t) (desk_at h) (ap (letters_of (numbered_from s)) left) (ap (part_desk s) part))
          (only (base_of (here_at f k) e) c z own)
      | inr other ↦ idle (came_none n) (silent_other (base_of (here_at f k) e) c z other) (first_other c cs at left other)
          (ap (part_desk s) part)
    ]
    part_seen (serves c cs p q n at has home may o left after z) = elim (cases_eq (rank_of c.sender) s) [
      | inl own ↦ turn.serves c.number c (letters_of (numbered_from s) cs) (desk_of_part s p) (came_none n) (first_own c cs at own)
          (before p has)
          (post_is (stores t) _ (desk_at t) _ (ap (letters_of (numbered_from s)) left)
          (after_is q _ after (own_offered s (here_at f k) p c q own o))) (quiet z)
      | inr other ↦ idle (came_none n) (quiet z) (first_other c cs at left other)
          (same_desk p q has after (other_offered s (here_at f k) p c q other o))
    ]
    part_seen (executes p o c n has at item same after z) =
        let there : table.get p.orders o.0 ≡ Some o.1 = (found order_is_ready p.orders o at).0 in
        let its = own_calls p o c has at item in
        elim (cases_eq (rank_of c.sender) s) [
          | inl own ↦
              let place : o.0 ≡ s = sym its ∙ own in
              turn.takes c (desk_of_part s p) (came_none n) (before p has)
              (ap (λ x. next_item (order_or (table.get p.orders x))) (sym place) ∙ (ap (λ y. next_item (order_or y)) there ∙ item))
              (post_is (stores t) (stores h) (desk_at t) _ (kept same)
              (after_is _ _ after (desk_takes s p.orders p.done c o.0 o.1 own place there))) (quiet z)
          | inr other ↦ idle (came_none n) (quiet z) (kept same)
              (same_desk p _ has after (desk_keeps s p.orders p.done c o.0 _ its other))
        ]
    part_seen (misses u n why same part z) = idle (came_is None (ap called n)) (quiet z) (kept same) (ap (part_desk s) part)
    part_seen (updates u p x n has is same after z) =
        idle (came_is None (ap called n)) (quiet z) (kept same) (same_desk p _ has after refl)
    part_seen (shows p x n has is ready same after z) = idle (came_none n) (quiet z) (kept same) (same_desk p _ has after refl)
    part_seen (ends os n at same after z) = absurd (calm os at)
