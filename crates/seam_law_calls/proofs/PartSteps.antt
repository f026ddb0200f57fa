-- Each move of a node is one of the base part's.
use Rattle.seam_law_calls.proofs.Prelude.{◌≡◌, ℕ, ◌<◌, true, List, [], ◌∷◌, Option, None, Some, refl, sym, ap, ◌∙◌, subst, arith, inl, inr}
use Rattle.seam_law_calls.proofs.Prelude.{range_with_len, nat_cmp, Ordering, Less, Equal, Greater, nat_tests, Division, Call as CallData}
use Rattle.seam_law_calls.proofs.Prelude.{Order, order_of, Msg, BaseCall, Update, Here, cell_count, PartView, ProxyView, after_showing}
use Rattle.seam_law_calls.proofs.Prelude.{tick_to, letters_of, more_letter, IsSilent, Frame, here_at, Has, CellMoves, BaseMoves, strays_at}
use Rattle.seam_law_calls.proofs.Prelude.{updated, Moves, at_a_cell, at_a_base, base_call_in, update_in, base_call_of, calls_ordered}
use Rattle.seam_law_calls.proofs.Prelude.{called, told, Offered, now, early, late, PartMoves, rests, refuses, offers, sends, serves}
use Rattle.seam_law_calls.proofs.Prelude.{executes, misses, updates, shows, ends}
use Rattle.seam_node_steps.specs.Prelude.{offered}
use Rattle.seam_call.specs.declared.order.Order.TheVariants as order
use Rattle.seam_call.specs.declared.shown.Update.{Update as UpdateData}
use Rattle.seam_law_calls.proofs.CellDeeds.{cell_deeds, cell_says, plain_says}
use Rattle.seam_law_calls.specs.BaseMoves as base_move
use Rattle.seam_law_calls.specs.BaseMoves.{proxy_updated, client_is_ready}
use Rattle.seam_law_calls.proofs.Plain.{mapped_silent}

less_of : (a b : ℕ) → nat_cmp a b ≡ Less → a < b
less_of a b is = grind (arith, nat_tests)

pub equal_of : (a b : ℕ) → nat_cmp a b ≡ Equal → a ≡ b
equal_of a b is = grind (arith, nat_tests)

pub greater_of : (a b : ℕ) → nat_cmp a b ≡ Greater → b < a
greater_of a b is = grind (arith, nat_tests)

-- what an offer leaves
offered_by : (h : Here) (p : PartView) (c : CallData) (o : Ordering) → nat_cmp c.number (order_of p.orders c.sender).next ≡ o →
    Offered h p c (offered h p c o)
offered_by h p c Less is = late (less_of c.number (order_of p.orders c.sender).next is) refl
offered_by h p c Equal is = now (equal_of c.number (order_of p.orders c.sender).next is) refl
offered_by h p c Greater is = early (greater_of c.number (order_of p.orders c.sender).next is) refl

offered_is : (h : Here) (p : PartView) (c : CallData) → Offered h p c (offered h p c (nat_cmp c.number (order_of p.orders c.sender).next))
offered_is h p c = offered_by h p c (nat_cmp c.number (order_of p.orders c.sender).next) refl

module _ (f : Frame) (e k : ℕ) (s : Has) (i : Option Msg) (t : Has) (sent : List (ℕ × Msg)) where
  abbrev Its : Type 0
  Its = PartMoves (here_at f k) e s.base i t.base sent

  -- what is neither a call nor an update
  other : (m : Msg) → i ≡ Some m → base_call_in m ≡ None → update_in m ≡ None → (called i ≡ None) × (told i ≡ None)
  other m at n u = (ap called at ∙ n, ap told at ∙ u)

  none : i ≡ None → (called i ≡ None) × (told i ≡ None)
  none n = (ap called n, ap told n)

  -- ---- a cell

  module _ (low : k < cell_count) (same : t.base ≡ s.base) where
    cell_by : (j : Option Msg) → i ≡ j → IsSilent base_call_in sent → Its
    cell_by None n z = rests (ap called n) (ap told n) (ap calls_ordered same) (ap (λ b. b.part) same) z
    cell_by (Some (BaseCall c)) n z = refuses c n (inl low) same z
    cell_by (Some (Update u)) n z = misses u n (inl low) (ap calls_ordered same) (ap (λ b. b.part) same) z
    cell_by (Some m) n z = rests (ap called n) (ap told n) (ap calls_ordered same) (ap (λ b. b.part) same) z

    cell_part : {tree : Division} → CellMoves (here_at f k) tree e s.cell i t.cell sent → Its
    cell_part {tree} m =
        cell_by i refl (cell_says (λ j m. base_call_in m ≡ None) (plain_says base_call_in (here_at f k) tree e s.cell i (λ x b c. refl)
        (λ x b. refl) (λ r. refl) (λ c. refl) (λ x j g. refl) (λ u. refl)) (cell_deeds m))

  -- ---- a base node

  nothing : sent ≡ [] → IsSilent base_call_in sent
  nothing z = subst (IsSilent base_call_in) (sym z) tt

  idle : (called i ≡ None) × (told i ≡ None) → t.base ≡ s.base → sent ≡ [] → Its
  idle n a z = rests n.0 n.1 (ap calls_ordered a) (ap (λ b. b.part) a) (nothing z)

  base_strays : (m : Msg) → i ≡ Some m → strays_at (here_at f k) s.base m ≡ true → t.base ≡ s.base → sent ≡ [] → Its
  base_strays (BaseCall c) n b a z = refuses c n (inr b) a (nothing z)
  base_strays (Update u) n b a z = misses u n (inr (inr b)) (ap calls_ordered a) (ap (λ x. x.part) a) (nothing z)
  base_strays m n b a z = idle (other m n refl refl) a z

  -- an order that is none for the base part is gone
  gone : (o : Order) (os : List Order) → base_call_of o ≡ None → s.base.orders ≡ o ∷ os → t.base.orders ≡ os →
      calls_ordered t.base ≡ calls_ordered s.base
  gone o os none at left =
      ap (letters_of base_call_of) left
      ∙ sym (ap (letters_of base_call_of) at ∙ ap (λ x. more_letter x (letters_of base_call_of os)) none)

  updated_by : (u : UpdateData) (p : PartView) (y : Option ProxyView) → i ≡ Some (Update u) → s.base.part ≡ Some p → p.proxy ≡ y →
      calls_ordered t.base ≡ calls_ordered s.base → t.base.part ≡ Some (proxy_updated p u y) → IsSilent base_call_in sent → Its
  updated_by u p None n has is same after q =
      misses u n (inr (inl (λ x at. let one : p ≡ x = let z = sym has ∙ at in cc in sym (ap (λ y. y.proxy) one) ∙ is))) same
      (after ∙ sym has) q
  updated_by u p (Some x) n has is same after q = updates u p x n has is same after q

  updates_by : (u : UpdateData) (o : Option PartView) → i ≡ Some (Update u) → s.base.part ≡ o →
      calls_ordered t.base ≡ calls_ordered s.base → t.base.part ≡ updated o u → IsSilent base_call_in sent → Its
  updates_by u None n has same after q =
      misses u n (inr (inl (λ x at. let z = sym has ∙ at in absurd cc))) same (after ∙ sym has) q
  updates_by u (Some p) n has same after q = updated_by u p p.proxy n has refl same after q

  shows_by : (p : PartView) (y : Option ProxyView) → i ≡ None → s.base.part ≡ Some p → p.proxy ≡ y → client_is_ready y ≡ true →
      calls_ordered t.base ≡ calls_ordered s.base → t.base.part ≡ Some (after_showing p y) → IsSilent base_call_in sent → Its
  shows_by p None n has is ready same after q = cc
  shows_by p (Some x) n has is ready same after q = shows p x n has is ready same after q

  base_part : (cells : ℕ) → BaseMoves (here_at f k) cells e s.base i t.base sent → Its
  base_part cells (base_move.rests n a z) = idle (none n) a z
  base_part cells (base_move.strays m n b a z) = base_strays m n b a z
  base_part cells (base_move.reroutes new r n has b a z) =
      rests (ap called n) (ap told n) (ap calls_ordered a) (ap (λ b. b.part) a) (nothing z)
  base_part cells (base_move.offers c p n is has may a z) =
      offers c p _ n has may (offered_is (here_at f k) p c) (ap calls_ordered a) (ap (λ b. b.part) a) (nothing z)
  base_part cells (base_move.updates u n is b a z) =
      updates_by u s.base.part n refl (ap calls_ordered a) (ap (λ b. b.part) a) (nothing z)
  base_part cells (base_move.orders_call c os r n at is has a z) =
      rests (ap called n) (ap told n) (gone (order.Cell c) os refl at (ap (λ b. b.orders) a)) (ap (λ b. b.part) a)
      (subst (IsSilent base_call_in) (sym z) (refl, tt))
  base_part cells (base_move.orders_base_call c os n at is b a z) =
      sends c (letters_of base_call_of os) n (ap (letters_of base_call_of) at)
      (ap (λ b. letters_of base_call_of b.orders) a) (ap (λ b. b.part) a) z
  base_part cells (base_move.offers_own c os p n at is b has may a z) =
      serves c (letters_of base_call_of os) p _ n (ap (letters_of base_call_of) at) has b may
      (offered_is (here_at f k) p c) (ap (λ b. letters_of base_call_of b.orders) a) (ap (λ b. b.part) a) (nothing z)
  base_part cells (base_move.orders_tick os n at a z) =
      rests (ap called n) (ap told n) (gone order.Tick os refl at (ap (λ b. b.orders) a)) (ap (λ b. b.part) a)
      (subst (IsSilent base_call_in) (sym z) (mapped_silent base_call_in tick_to (λ j. refl) (range_with_len 0 cells)))
  base_part cells (base_move.orders_reap os r n at has a z) =
      ends os n at (gone (order.Reap e) os refl at (ap (λ b. b.orders) a)) (ap (λ b. b.part) a)
      (subst (IsSilent base_call_in) (sym z) (refl, tt))
  base_part cells (base_move.stuck_order o os n at b a z) = idle (none n) a z
  base_part cells (base_move.executes p o c n has may at item a z) =
      executes p o c n has at item (ap calls_ordered a) (ap (λ b. b.part) a) (nothing z)
  base_part cells (base_move.stuck_part p n has is may a z) = idle (none n) a z
  base_part cells (base_move.shows p n has ready may a z) =
      shows_by p p.proxy n has refl ready (ap calls_ordered a) (ap (λ b. b.part) a) (nothing z)
  base_part cells (base_move.stuck_client p n has is may a z) = idle (none n) a z

  pub part_moves : Moves f e k s i t sent → PartMoves (here_at f k) e s.base i t.base sent
  part_moves (at_a_cell tree of low m same) = cell_part low same m
  part_moves (at_a_base high m same) = base_part _ m
