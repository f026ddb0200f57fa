-- What a base part became over a list of events in which its entity is not reaped, with or without a client.
use Rattle.seam_law_book.proofs.Prelude.{◌≡◌, ℕ, ◌+◌, List, [], ◌∷◌, ◌++◌, length, Option, Some, refl, sym, ap, ◌∙◌, subst, arith}
use Rattle.seam_law_book.proofs.Prelude.{append-nil, append_assoc, length-append, fold-append, happens, Event, after_taking}
use Rattle.seam_law_book.proofs.Prelude.{Call as CallData, Order, Msg, Here, PartView, with_order, World, node_steps, comes, Frame, here_at}
use Rattle.seam_law_book.proofs.Prelude.{IsInFrame, AtBase, entity_flow, IsSpared, Offered, now, early, late, PartMoves, rests, refuses}
use Rattle.seam_law_book.proofs.Prelude.{offers, sends, serves, executes, misses, updates, shows, RunsTo, state_with, state_after}
use Rattle.seam_law_book.proofs.Prelude.{slots_kept, executed, with_offer, event_moves, frame_happens, spared_happens, part_moves}
use Rattle.seam_law_book.proofs.Prelude.{unordered, EachKeeps, runs_keep}
use Rattle.seam_law_calls.specs.Prelude.{ends}
use Rattle.seam_call.specs.declared.order.Order.TheVariants as order

-- the part that was p is o, which executed further calls
pub record Became (h : Here) (p : PartView) (o : Option PartView) : Type 0 where
  pub part : PartView
  pub is : o ≡ Some part
  pub calls : List CallData
  pub done : part.done ≡ p.done ++ calls
  pub type : part.ty ≡ p.ty
  pub state : part.state ≡ state_after h p.ty p.state calls
  pub version : part.version ≡ p.version + length calls

module _ (h : Here) where
  -- the same but for the calls that wait and for the client
  same_part : (p q : PartView) (o : Option PartView) → o ≡ Some q → q.done ≡ p.done → q.ty ≡ p.ty → q.state ≡ p.state →
      q.version ≡ p.version → Became h p o
  same_part p q o is done type state version = record {
    part = q;
    is = is;
    calls = [];
    done = done ∙ sym (append-nil p.done);
    type = type;
    state = state;
    version = omega (arith, version);
  }

  -- one that did one call more
  did : (p q : PartView) (k : CallData) (o : Option PartView) → o ≡ Some q → q.done ≡ p.done ++ k ∷ [] → q.ty ≡ p.ty →
      q.state ≡ state_with h p.ty p.state k → q.version ≡ p.version + 1 → Became h p o
  did p q k o is done type state version = record {
    part = q;
    is = is;
    calls = k ∷ [];
    done = done;
    type = type;
    state = state;
    version = omega (arith, version);
  }

  goes_on : (p : PartView) (o then : Option PartView) (s : Became h p o) → Became h s.part then → Became h p then
  goes_on p o then s t = record {
    part = t.part;
    is = t.is;
    calls = s.calls ++ t.calls;
    done = t.done ∙ ap (λ l. l ++ t.calls) s.done ∙ append_assoc p.done s.calls t.calls;
    type = t.type ∙ s.type;
    state = t.state ∙ (ap (λ y. state_after h y s.part.state t.calls) s.type ∙ ap (λ z. state_after h p.ty z t.calls) s.state)
        ∙ sym (fold-append (state_with h p.ty) p.state s.calls t.calls);
    version =
        let a = t.version in
        let b = s.version in
        let c = length-append s.calls t.calls in
        omega (arith, a, b, c);
  }

-- ---- a move

module _ (h : Here) (e : ℕ) (s : AtBase) (i : Option Msg) (t : AtBase) (sent : List (ℕ × Msg))
    (calm : (os : List Order) → s.orders ≡ order.Reap e ∷ os → ⊥) (a : PartView) (here : s.part ≡ Some a) where
  kept : t.part ≡ s.part → Became h a t.part
  kept is = same_part h a a t.part (is ∙ here) refl refl refl refl

  from : (p : PartView) → s.part ≡ Some p → Became h p t.part → Became h a t.part
  from p at went = let same : p ≡ a = (let z = sym at ∙ here in cc) in subst (λ x. Became h x t.part) same went

  offered : (p : PartView) (c : CallData) (q : PartView) → Offered h p c q → t.part ≡ Some q → Became h p t.part
  offered p c q (now at is) after = did h p (with_offer (executed h p c) c) c t.part (after ∙ ap Some is) refl refl refl refl
  offered p c q (early lt is) after = same_part h p (with_offer p c) t.part (after ∙ ap Some is) refl refl refl refl
  offered p c q (late lt is) after = same_part h p p t.part (after ∙ ap Some is) refl refl refl refl

  pub part_became : PartMoves h e s i t sent → Became h a t.part
  part_became (rests n m l part z) = kept part
  part_became (refuses c n stray is z) = kept (ap (λ b. b.part) is)
  part_became (offers c p q n at may o l after z) = from p at (offered p c q o after)
  part_became (sends c cs n at left part z) = kept part
  part_became (serves c cs p q n at own home may o left after z) = from p own (offered p c q o after)
  part_became (executes p o c n own at item l after z) =
      from p own (did h p (with_order (executed h p c) o.0 (after_taking o.1)) c t.part after refl refl refl refl)
  part_became (misses u n why l part z) = kept part
  part_became (updates u p x n own at l after z) = from p own (same_part h p _ t.part after refl refl refl refl)
  part_became (shows p x n own at ready l after z) = from p own (same_part h p _ t.part after refl refl refl refl)
  part_became (ends os n at l after z) = absurd (calm os at)

-- ---- a list of events

module _ (f : Frame) (e : ℕ) (w : World) where
  record HaveBecome (v : World) : Type 0 where
    frame : IsInFrame f v
    spared : IsSpared e v
    parts : (k : ℕ) (p : PartView) → ((entity_flow e w).slot k).base.part ≡ Some p →
        Became (here_at f k) p ((entity_flow e v).slot k).base.part

  become_happens : EachKeeps HaveBecome
  become_happens v o occur s =
      let g = event_moves f v o occur s.frame e in
      let from = (entity_flow e v).slot g.k in
      let to = (entity_flow e (happens node_steps v o)).slot g.k in
      record {
        frame = frame_happens f v o occur s.frame;
        spared = spared_happens f e v o occur s.frame s.spared;
        parts =
            slots_kept (λ k b. (p : PartView) → ((entity_flow e w).slot k).base.part ≡ Some p → Became (here_at f k) p b.base.part) g
            s.parts
            (λ p at.
            let so_far = s.parts g.k p at in
            goes_on (here_at f g.k) p from.base.part to.base.part so_far
            (part_became (here_at f g.k) e from.base (comes g.input) to.base g.moves.sent (λ os. unordered e v g.k os s.spared) so_far.part
            so_far.is (part_moves f e g.k from (comes g.input) to g.moves.sent g.moves.moves)));
      }

  pub part_leads : (v : World) (es : List Event) → IsInFrame f w → IsSpared e w → RunsTo w es v → (k : ℕ)
      (p : PartView) → ((entity_flow e w).slot k).base.part ≡ Some p → Became (here_at f k) p ((entity_flow e v).slot k).base.part
  part_leads v es frame spared run =
      (runs_keep HaveBecome become_happens w v es (record {
        frame = frame;
        spared = spared;
        parts = λ k p at. same_part (here_at f k) p p _ at refl refl refl refl;
      }) run).parts
