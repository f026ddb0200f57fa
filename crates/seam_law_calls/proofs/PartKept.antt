-- Where the base part is: at the entity's base node after each move, unless the entity leaves the world; and calls go there.
use Rattle.seam_law_calls.proofs.Prelude.{◌≡◌, ℕ, List, [], ◌∷◌, Option, None, Some, refl, sym, ap, ◌∙◌, subst, inl, inr, AllByRecursion}
use Rattle.seam_law_calls.proofs.Prelude.{cases_eq, Call as CallData, Order, Msg, Here, PartView, World, Goes, comes, IsSilent, Frame}
use Rattle.seam_law_calls.proofs.Prelude.{here_at, IsInFrame, AtBase, entity_flow, MovesTo, base_call_in, Offered, now, early, late}
use Rattle.seam_law_calls.proofs.Prelude.{PartMoves, rests, refuses, offers, sends, serves, executes, misses, updates, shows, ends, home_of}
use Rattle.seam_law_calls.proofs.Prelude.{IsHomeward, HasPart, slots_kept, sent_kept}
use Rattle.seam_call.specs.declared.order.Order.TheVariants as order
use Rattle.seam_law_calls.proofs.PartSteps.{part_moves}

-- the part stays as it is, or becomes another of its type
pub data PartAfter (s t : AtBase) : Type 0 where
  same : t.part ≡ s.part → PartAfter s t
  became : (p q : PartView) → s.part ≡ Some p → t.part ≡ Some q → q.ty ≡ p.ty → PartAfter s t

offered_type : (h : Here) (p : PartView) (c : CallData) (q : PartView) → Offered h p c q → q.ty ≡ p.ty
offered_type h p c q (now at is) = ap (λ x. x.ty) is
offered_type h p c q (early lt is) = ap (λ x. x.ty) is
offered_type h p c q (late lt is) = ap (λ x. x.ty) is

module _ (h : Here) (e : ℕ) (s : AtBase) (i : Option Msg) (t : AtBase) (sent : List (ℕ × Msg))
    (calm : (os : List Order) → s.orders ≡ order.Reap e ∷ os → ⊥) where
  pub part_after : PartMoves h e s i t sent → PartAfter s t
  part_after (rests n m l part z) = same part
  part_after (refuses c n stray is z) = same (ap (λ b. b.part) is)
  part_after (offers c p q n has may o l after z) = became p q has after (offered_type h p c q o)
  part_after (sends c cs n at left part z) = same part
  part_after (serves c cs p q n at has home may o left after z) = became p q has after (offered_type h p c q o)
  part_after (executes p o c n has at item l after z) = became p _ has after refl
  part_after (misses u n why l part z) = same part
  part_after (updates u p x n has is l after z) = became p _ has after refl
  part_after (shows p x n has is ready l after z) = became p _ has after refl
  part_after (ends os n at l after z) = absurd (calm os at)

module _ (f : Frame) (e : ℕ) where
  silent_homeward : (k : ℕ) (ps : List (ℕ × Msg)) → IsSilent base_call_in ps → AllByRecursion (λ p. IsHomeward f e p.0 p.1) ps
  silent_homeward k [] z = tt
  silent_homeward k (p ∷ ps) z = ((λ c is. let none = sym z.0 ∙ is in absurd cc), silent_homeward k ps z.1)

  sends_homeward : (k : ℕ) (s : AtBase) (i : Option Msg) (t : AtBase) (sent : List (ℕ × Msg)) →
      PartMoves (here_at f k) e s i t sent → AllByRecursion (λ p. IsHomeward f e p.0 p.1) sent
  sends_homeward k s i t sent (rests n m l part z) = silent_homeward k sent z
  sends_homeward k s i t sent (refuses c n stray is z) = silent_homeward k sent z
  sends_homeward k s i t sent (offers c p q n has may o l after z) = silent_homeward k sent z
  sends_homeward k s i t sent (sends c cs n at left part z) =
      subst (AllByRecursion (λ p. IsHomeward f e p.0 p.1)) (sym z) ((λ x is. refl), tt)
  sends_homeward k s i t sent (serves c cs p q n at has home may o left after z) = silent_homeward k sent z
  sends_homeward k s i t sent (executes p o c n has at item l after z) = silent_homeward k sent z
  sends_homeward k s i t sent (misses u n why l part z) = silent_homeward k sent z
  sends_homeward k s i t sent (updates u p x n has is l after z) = silent_homeward k sent z
  sends_homeward k s i t sent (shows p x n has is ready l after z) = silent_homeward k sent z
  sends_homeward k s i t sent (ends os n at l after z) = silent_homeward k sent z

-- what each node has of the part
data Lies (f : Frame) (e ty k : ℕ) (b : AtBase) : Type 0 where
  at_home : (p : PartView) → k ≡ home_of f e → b.part ≡ Some p → p.ty ≡ ty → Lies f e ty k b
  elsewhere : (k ≡ home_of f e → ⊥) → b.part ≡ None → Lies f e ty k b

still_lies : (f : Frame) (e ty k : ℕ) (s t : AtBase) → PartAfter s t → Lies f e ty k s → Lies f e ty k t
still_lies f e ty k s t (same is) (at_home p home has type) = at_home p home (is ∙ has) type
still_lies f e ty k s t (same is) (elsewhere n none) = elsewhere n (is ∙ none)
still_lies f e ty k s t (became p q a b c) (at_home x home has type) =
    let one : p ≡ x = cc in
    at_home q home b (c ∙ (ap (λ y. y.ty) one ∙ type))
still_lies f e ty k s t (became p q a b c) (elsewhere n none) = absurd (let z = sym none ∙ a in cc)

module _ (f : Frame) (e ty : ℕ) {w v : World} (g : Goes (MovesTo f e) (entity_flow e w) (entity_flow e v)) (next : IsInFrame f v)
    (calm : (os : List Order) → ((entity_flow e w).slot g.k).base.orders ≡ order.Reap e ∷ os → ⊥) (has : HasPart f e ty w) where
  moves : PartMoves (here_at f g.k) e ((entity_flow e w).slot g.k).base (comes g.input) ((entity_flow e v).slot g.k).base g.moves.sent
  moves = part_moves f e g.k ((entity_flow e w).slot g.k) (comes g.input) ((entity_flow e v).slot g.k) g.moves.sent g.moves.moves

  lay : (k : ℕ) → Lies f e ty k ((entity_flow e w).slot k).base
  lay k = elim (cases_eq k (home_of f e)) [
    | inl is ↦ at_home has.part is (ap (λ x. ((entity_flow e w).slot x).base.part) is ∙ has.here) has.type
    | inr n ↦ elsewhere n (has.others k n)
  ]

  lies : (k : ℕ) → Lies f e ty k ((entity_flow e v).slot k).base
  lies =
      slots_kept (λ k s. Lies f e ty k s.base) g lay
      (still_lies f e ty g.k _ _ (part_after (here_at f g.k) e _ _ _ g.moves.sent calm moves) (lay g.k))

  homeward : (a k : ℕ) → AllByRecursion (IsHomeward f e k) ((entity_flow e v).mail a k)
  homeward =
      sent_kept (λ a k m. IsHomeward f e k m) g g.moves.sent g.moves.items has.calls (sends_homeward f e g.k _ _ _ g.moves.sent moves)

  part_by : Lies f e ty (home_of f e) ((entity_flow e v).slot (home_of f e)).base → HasPart f e ty v
  part_by (at_home p is here type) = record {
    frame = next;
    part = p;
    here = here;
    others = λ k n. none_by k n (lies k);
    type = type;
    calls = homeward;
  }
    where
      none_by : (k : ℕ) → (k ≡ home_of f e → ⊥) → Lies f e ty k ((entity_flow e v).slot k).base →
          ((entity_flow e v).slot k).base.part ≡ None
      none_by k n (at_home q is has t) = absurd (n is)
      none_by k n (elsewhere m none) = none
  part_by (elsewhere n none) = absurd (n refl)

  pub part_goes : HasPart f e ty v
  part_goes = part_by (lies (home_of f e))
