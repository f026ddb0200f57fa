-- What each move of the base part does with its client.
use Rattle.seam_law_calls.proofs.Prelude.{◌≡◌, ℕ, ◌+◌, Bool, true, List, ◌∷◌, Option, None, Some, refl, sym, ap, ◌∙◌, option_map, nat_cmp}
use Rattle.seam_law_calls.proofs.Prelude.{changes, next_item, Call as CallData, Order, Msg, Update, Here, type_at, is_ready, PartView}
use Rattle.seam_law_calls.proofs.Prelude.{ProxyView, line_if, base_text, with_deed, offered_update, shows_next, AtBase, told, HasNoProxy}
use Rattle.seam_law_calls.proofs.Prelude.{Missed, Offered, now, early, late, PartMoves, rests, refuses, offers, sends, serves, executes}
use Rattle.seam_law_calls.proofs.Prelude.{misses, updates, shows, ends}
use Rattle.seam_call.specs.declared.order.Order.TheVariants as order
use Rattle.seam_call.specs.declared.shown.Update.{Update as UpdateData}

-- the part with its client after a call: as it was, or with one version more and a line if that is due
pub data CallShown (h : Here) (p q : PartView) : Type 0 where
  as_it_was : q.version ≡ p.version → q.proxy ≡ p.proxy → CallShown h p q
  lined : (due : Bool) (x : PartView) → q.version ≡ p.version + 1 → q.proxy ≡ option_map (line_if due (base_text h x)) p.proxy
      → CallShown h p q

pub data ClientAfter (h : Here) (s : AtBase) (i : Option Msg) (t : AtBase) : Type 0 where
  keeps : told i ≡ None → t.part ≡ s.part → ClientAfter h s i t
  calls : (p q : PartView) → told i ≡ None → s.part ≡ Some p → t.part ≡ Some q → CallShown h p q → ClientAfter h s i t
  misses_it : (u : UpdateData) → i ≡ Some (Update u) → Missed h u s.part → t.part ≡ s.part → ClientAfter h s i t
  is_told : (u : UpdateData) (p : PartView) (x : ProxyView) → i ≡ Some (Update u) → s.part ≡ Some p → p.proxy ≡ Some x
      → t.part ≡ Some (record p { proxy = Some (offered_update x u (nat_cmp u.number x.updates.next)) }) → ClientAfter h s i t
  is_shown : (p : PartView) (x : ProxyView) → i ≡ None → s.part ≡ Some p → p.proxy ≡ Some x → is_ready x.updates ≡ true
      → t.part ≡ Some (record p { proxy = Some (shows_next x (next_item x.updates)) }) → ClientAfter h s i t

module _ (h : Here) where
  offered_shown : (p : PartView) (c : CallData) (q : PartView) → Offered h p c q → CallShown h p q
  offered_shown p c q (now at is) =
      lined (changes (type_at h p.ty) p.state c.deed) (with_deed h p c) (ap (λ x. x.version) is) (ap (λ x. x.proxy) is)
  offered_shown p c q (early lt is) = as_it_was (ap (λ x. x.version) is) (ap (λ x. x.proxy) is)
  offered_shown p c q (late lt is) = as_it_was (ap (λ x. x.version) is) (ap (λ x. x.proxy) is)

  module _ (e : ℕ) (s : AtBase) (i : Option Msg) (t : AtBase) (sent : List (ℕ × Msg))
      (calm : (os : List Order) → s.orders ≡ order.Reap e ∷ os → ⊥) where
    pub client_after : PartMoves h e s i t sent → ClientAfter h s i t
    client_after (rests n m l part z) = keeps m part
    client_after (refuses c n why is z) = keeps (ap told n) (ap (λ b. b.part) is)
    client_after (offers c p q n has may o l after z) = calls p q (ap told n) has after (offered_shown p c q o)
    client_after (sends c cs n at left part z) = keeps (ap told n) part
    client_after (serves c cs p q n at has home may o left after z) = calls p q (ap told n) has after (offered_shown p c q o)
    client_after (executes p o c n has at item l after z) =
        calls p _ (ap told n) has after (lined (changes (type_at h p.ty) p.state c.deed) (with_deed h p c) refl refl)
    client_after (misses u n why l part z) = misses_it u n why part
    client_after (updates u p x n has is l after z) = is_told u p x n has is after
    client_after (shows p x n has is ready l after z) = is_shown p x n has is ready after
    client_after (ends os n at l after z) = absurd (calm os at)

-- ---- a part without a client gets none

called_alone : (h : Here) (p q : PartView) → CallShown h p q → p.proxy ≡ None → q.proxy ≡ None
called_alone h p q (as_it_was v same) none = same ∙ none
called_alone h p q (lined due x v is) none = is ∙ ap (option_map (line_if due (base_text h x))) none

still_alone : (s t : AtBase) → t.part ≡ s.part → HasNoProxy s.part → HasNoProxy t.part
still_alone s t is none p has = none p (sym is ∙ has)

became_alone : (q : PartView) (t : AtBase) → t.part ≡ Some q → q.proxy ≡ None → HasNoProxy t.part
became_alone q t after is x has = let one : q ≡ x = let z = sym after ∙ has in cc in sym (ap (λ y. y.proxy) one) ∙ is

pub stays_alone : (h : Here) (s : AtBase) (i : Option Msg) (t : AtBase) → ClientAfter h s i t → HasNoProxy s.part → HasNoProxy t.part
stays_alone h s i t (keeps n is) none = still_alone s t is none
stays_alone h s i t (calls p q n has after c) none = became_alone q t after (called_alone h p q c (none p has))
stays_alone h s i t (misses_it u n why is) none = still_alone s t is none
stays_alone h s i t (is_told u p x n has is after) none = absurd (let z = sym (none p has) ∙ is in cc)
stays_alone h s i t (is_shown p x n has is ready after) none = absurd (let z = sym (none p has) ∙ is in cc)
