-- Whether a client has a ready update after it was offered one.
use Rattle.std.proofs.Common.{◌≡◌, ◌≢◌, ◌&&◌, not, eqb, nat_lt, Bool, true, false, is_some, refl, arith}
use Rattle.std.specs.Ordering.{nat_cmp}
use Rattle.std.specs.declared.cmp.Ordering.{Ordering}
use Rattle.std.specs.declared.cmp.Ordering.TheVariants.{Less, Equal, Greater}
use Rattle.std.proofs.lemmas.Bool.Decides.{nat_tests}
use Rattle.seam_node_steps.specs.Prelude.{item_at, may_offer, is_ready, may_rise, ProxyView, offered_update}
use Rattle.seam_order.proofs.OrderLaws.{item_at_with_item}
use Rattle.seam_call.specs.declared.shown.Update.{Update}
use Rattle.seam_base.specs.Parts.{client_with_update}

module _ (x : ProxyView) (u : Update) (may : may_offer x.updates u.number ≡ true) where
  not_held : is_some (item_at u.number x.updates.held) ≡ false
  not_held = last (nat_lt 0 u.number) (may_rise u.number) (is_some (item_at u.number x.updates.held)) may
    where
      last : (a b c : Bool) → (a && (b && not c)) ≡ true → c ≡ false
      last true true true all = cc
      last true true false all = refl
      last true false c all = cc
      last false b c all = cc

  -- an update that is not in its turn leaves the one in its turn held or not
  pub other_stays : u.number ≢ x.updates.next → is_ready (client_with_update u x).updates ≡ is_ready x.updates
  other_stays apart = by (nat_cmp u.number x.updates.next) refl
    where
      by : (o : Ordering) → nat_cmp u.number x.updates.next ≡ o → is_ready (offered_update x u o).updates ≡ is_ready x.updates
      by Less is = refl
      by Equal is = absurd (apart (grind (arith, nat_tests, is)))
      by Greater is =
          let other : eqb x.updates.next u.number ≡ false = grind (arith, nat_tests, is) in
          rw (is, item_at_with_item u.number u.shown x.updates.held x.updates.next not_held, other) refl
