-- What an offered item meets, and what an offer and a taking leave.
use Rattle.std.specs.Prelude.{ℕ, ◌+◌, Option, None, Some}
use Rattle.std.specs.Ordering.{nat_cmp, match_ordering}
use Rattle.seam_order.specs.Held.{OrderView, item_at, with_item, without}
use Rattle.seam_order.specs.declared.Offer.{Offer}
use Rattle.seam_order.specs.declared.Offer.TheVariants.{Next, Held, Stale}

-- the answer to an item of number n: Stale below the next number, Next at it, Held above it
abbrev pub offer_answer : {T : Type 0} → ℕ → ℕ → T → Offer T
offer_answer next n item = match_ordering (nat_cmp n next) (Stale item) (Next item) Held

-- after the offer: nothing changed, the next number risen, or the item kept
abbrev pub after_offer : {T : Type 0} → OrderView T → ℕ → T → OrderView T
after_offer w n item = match_ordering (nat_cmp n w.next) w (record w { next = w.next + 1 }) (record w { held = with_item n item w.held })

-- the item whose turn it is, if it waits
abbrev pub next_item : {T : Type 0} → OrderView T → Option T
next_item w = item_at w.next w.held

abbrev pub after_item : {T : Type 0} → OrderView T → Option T → OrderView T
after_item w None = w
after_item w (Some x) = record { next = w.next + 1; held = without w.next w.held }

-- after that item was taken: the next number risen and the item gone, or nothing changed where it did not wait
abbrev pub after_taking : {T : Type 0} → OrderView T → OrderView T
after_taking w = after_item w (next_item w)
