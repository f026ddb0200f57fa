-- For callers: the ghosts that are left where beats of entities without a copy are forgotten.
use Rattle.std.proofs.Common.{◌≡◌, ℕ, None, cond, is_some, ap}
use Rattle.std.specs.Ordering.{nat_cmp}
use Rattle.std.specs.Cmp.{nat_cmp_total}
use Rattle.std.specs.FinMap as map
use Rattle.seam_ghosts.specs.declared.Ghost.{Ghost}
use Rattle.seam_ghosts.specs.Book.{copy_in, with_copies}

pub get_with_copies : {P : Type 0} (m : map.FinMap nat_cmp (Ghost P)) (q : ℕ) →
    map.get (with_copies m) q ≡ cond (is_some (copy_in (map.get m q))) (map.get m q) None
unfolding with_copies
get_with_copies m q =
    map.get-retain_keys m (λ e. is_some (copy_in (map.get m e))) q
    (λ x tied. ap (λ o. is_some (copy_in o)) (map.get_tied nat_cmp_total m q x tied))
