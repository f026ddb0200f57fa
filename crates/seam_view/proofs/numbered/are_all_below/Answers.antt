use Rattle.std.proofs.Common.{◌<◌, ℕ, ◌-◌, get_or, length, arith}
use Rattle.std.specs.Map.{keys_of}
use Rattle.seam_view.specs.ByNumber.{entries_of}
use Rattle.seam_view.proofs.ByNumber.{rising_at, all_below}
use Rattle.seam_view.proofs.numbered.are_all_below.Goals as goal

pub returns : goal.returns
returns c = λ is k d low lt.
    let f : ℕ → ℕ = λ i. get_or (keys_of (entries_of c.args.slots.now)) i 0 in
    let ps = c.args.by_number.now in
    let some : 0 < length ps = omega (arith, lt) in
    let below : f (get_or ps (length ps - 1) 0) < c.args.e = c.is_last_below.ensures is some in
    all_below f ps (length ps - 1) c.args.e 0 (rising_at f ps c.requires.rising) (omega (arith, some)) below k d low
    (omega (arith, lt, some))
