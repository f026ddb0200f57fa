use Rattle.std.proofs.Common.{rules, ◌≡◌, ◌<◌, ◌∷◌, length, arith}
use Rattle.seam_logged.proofs.Hands.{turned_none, turned_given, turned_kept, hand_not_empty}
use Rattle.seam_logged.proofs.mesh.from_hand.Goals.{then-sender-from+in_ok-push, else-sender-from}
use Rattle.seam_logged.proofs.mesh.from_hand.Goals as goal

pub loop-i-init : goal.loop-i-init
loop-i-init g c = rw c.new-given.ensures.items (turned_none c.args.from c.args.hand.now.items)

pub unreachable-requires : goal.unreachable-requires
unreachable-requires g c =
    let hand = c.loop-i.hand.items in
    let old = c.args.hand.now.items in
    let end : c.len-i-end.result ≡ length old = search rules in
    let some =
    hand_not_empty c.args.from old c.loop-i._i hand c.loop-i.given.items c.loop-i.invariant (omega (arith, c.loop-i-test.true, end)) in
    let none : length hand ≡ 0 = search rules in
    omega (arith, some, none)

pub loop-i-preserved : goal.loop-i-preserved
loop-i-preserved g c =
    let from = c.args.from in
    let hand = c.loop-i.hand.items in
    let old = c.args.hand.now.items in
    let end : c.len-i-end.result ≡ length old = search rules in
    let lt : c.loop-i._i < length old = omega (arith, c.loop-i-test.true, end) in
    let first = c.in-Some.ensures.items in
    let rest = c.pop_front.new.self.items in
    let given = c.loop-i.given.items in
    elim c.if-sender-from.branch [
      | then-sender-from+in_ok-push w ↦
          rw (w.hand-is, w.given-is, w.in_ok-push.ensures.items)
          (turned_given from old c.loop-i._i (c.in-Some.sender, c.in-Some.letter) rest hand given c.loop-i.invariant lt first
          (omega (arith, w.if-sender-from.true)))
      | else-sender-from w ↦
          rw (w.hand-is, w.given-is, w.push_back_reserved.ensures.items)
          (turned_kept from old c.loop-i._i (c.in-Some.sender, c.in-Some.letter) rest hand given c.loop-i.invariant lt first
          (omega (arith, w.if-sender-from.false)))
    ]
