use Rattle.std.proofs.Common.{◌<◌, ℕ, ◌-◌, ◌∙◌, sym, get_or, length, leb-false, arith}
use Rattle.std.specs.Map.{keys_of}
use Rattle.seam_view.specs.ByNumber.{entries_of}
use Rattle.seam_view.proofs.ByNumber.{rising_at, all_below, all_above}
use Rattle.seam_view.proofs.numbered.few_below.Goals as goal
use Rattle.seam_view.proofs.numbered.few_below.Goals.{then-from-gt0, else-from-gt0}

pub loop-rank-init : goal.loop-rank-init
loop-rank-init c =
    elim c.if-from-gt0.branch [
      | then-from-gt0 w ↦
          let f : ℕ → ℕ = λ i. get_or (keys_of (entries_of c.args.slots.now)) i 0 in
          let ps = c.args.by_number.now in
          let before = w.if-from-gt0.true in
          let within = c.if-from-len.false in
          let out = leb-false c.args.e w.entity_at.result (sym w.value-is ∙ c.if-entity_at-e.false) in
          let is = w.entity_at.ensures in
          let below : f (get_or ps (c.args.from - 1) 0) < c.args.e = omega (arith, out, is) in
          λ k d low lt. all_below f ps (c.args.from - 1) c.args.e 0 (rising_at f ps c.requires.rising) (omega (arith, before, within)) below
          k d low (omega (arith, lt, before))
      | else-from-gt0 w ↦ λ k d low lt. absurd (omega arith)
    ]

pub returns-then-entity_at-e-2-clause-below : goal.returns-then-entity_at-e-2-clause-below
returns-then-entity_at-e-2-clause-below c = c.loop-rank.invariant

pub returns-then-entity_at-e-2-clause-above : goal.returns-then-entity_at-e-2-clause-above
returns-then-entity_at-e-2-clause-above c =
    let f : ℕ → ℕ = λ i. get_or (keys_of (entries_of c.args.slots.now)) i 0 in
    let ps = c.args.by_number.now in
    let lt : c.loop-rank.rank < length ps = omega arith in
    all_above f ps c.loop-rank.rank c.args.e 0 (rising_at f ps c.requires.rising) lt (omega arith)

pub loop-rank-preserved : goal.loop-rank-preserved
loop-rank-preserved c =
    let f : ℕ → ℕ = λ i. get_or (keys_of (entries_of c.args.slots.now)) i 0 in
    let ps = c.args.by_number.now in
    let lt : c.loop-rank.rank < length ps = omega arith in
    all_below f ps c.loop-rank.rank c.args.e 0 (rising_at f ps c.requires.rising) lt (omega arith)

pub returns-then-end-len-clause-below : goal.returns-then-end-len-clause-below
returns-then-end-len-clause-below c = λ k d low lt. c.loop-rank.invariant k d low (omega (arith, lt))
