use Rattle.std.proofs.Common.{◌≡◌, ◌<◌, ◌≤◌, ◌+◌, ◌++◌, ◌∙◌, ◌&&◌, ℕ, true, false, cond, eqb, take, drop, length, get_or, slice_set}
use Rattle.std.proofs.Common.{is_some, Some, sym, ap, subst, arith}
use Rattle.std.proofs.lemmas.List.{drop-set-lt}
use Rattle.std.specs.List.{filter}
use Rattle.std.specs.Map.{lookup}
use Rattle.seam_view.specs.declared.numbered.Slot.{Slot}
use Rattle.seam_view.specs.ByNumber.{GoInOrder, entries_of, stays, nowhere}
use Rattle.seam_view.specs.Replica.{leaves_in}
use Rattle.seam_view.specs.Together.{leaves_next, looks_past_all, left_past_all}
use Rattle.seam_view.proofs.Sent.{sent_all, same_entries, go_in_order, kept_when_sent, sent_next, past_next, left_next, none_past, all_sent}
use Rattle.seam_view.proofs.Sent.{one_left}
use Rattle.seam_view.proofs.numbered.send_off.Goals as goal
use Rattle.seam_view.proofs.numbered.send_off.Goals.{in-Some, in-None}

pub loop-slot-preserved : goal.loop-slot-preserved
loop-slot-preserved c =
    elim c.match-past_leave.branch [
      | in-Some w ↦
          let looks = c.loop-slot.rest.now in
          let n = c.loop-slot.place in
          let i = c.loop-slot.slot-index in
          let slots = c.loop-slot.slots in
          let d : Slot = record { entity = 0; to = 0; version = 0 } in
          let s : Slot = get_or slots i d in
          let lt : i < length slots = omega arith in
          let inv = c.loop-slot.invariant in
          let leave : leaves_next s.entity looks ≡ true = sym c.past_leave.ensures.leaves ∙ ap is_some w.in-Some.is in
          let new = w.slots-is
          ∙ ap (λ b. slice_set slots i (record { entity = s.entity; to = cond b nowhere n; version = s.version })) (sym leave) in
          let rest = ap (λ r. r.now) w.rest-is ∙ (w.in-Some.ensures.past ∙ ap (λ b. cond b (drop 1 looks) looks) (sym leave)) in
          let stay = w.place-is ∙ ap (λ b. cond b n (n + 1)) (sym leave) in
          let others = ap (drop (i + 1)) w.slots-is ∙ drop-set-lt (i + 1) slots i _ (omega arith) in
          let found : (x : ℕ) → lookup (eqb x) c.match-past_leave.left.entries
          ≡ cond (leaves_next s.entity looks && eqb s.entity x) (Some s.version) (lookup (eqb x) c.loop-slot.left.entries) =
          λ x. ap (λ m. lookup (eqb x) m.entries) w.left-is ∙ (w.put.ensures.put x
          ∙ ap (λ b. cond (b && eqb s.entity x) (Some s.version) (lookup (eqb x) c.loop-slot.left.entries)) (sym leave)) in
          let fewer = one_left s.entity looks leave in
          let past = ap leaves_in (ap (λ r. r.now) w.rest-is ∙ w.in-Some.ensures.past) in
          let spared = w.put.ensures.room in
          let is = ap (λ m. m.room) w.left-is in
          let room = inv.room in
          let used = inv.used in
          record {
            slots = (λ j. take (i + 1) (new j) ++ sent_all (rest j) (stay j) (drop (i + 1) (new j)))
                ∙ (sent_next looks n i slots d lt ∙ inv.slots);
            place = omega arith;
            rest = (λ j. looks_past_all (rest j) (entries_of (others j))) ∙ (sym (past_next looks i slots d lt) ∙ inv.rest);
            left = λ q. (λ j. left_past_all (rest j) (entries_of (others j)) (λ x. found x j) q)
                ∙ (sym (left_next looks (λ x. lookup (eqb x) c.loop-slot.left.entries) q i slots d lt) ∙ inv.left q);
            room = omega (arith, fewer, past, spared, is, room);
            used = omega (arith, fewer, past, spared, is, used);
          }
      | in-None w ↦
          let looks = c.loop-slot.rest.now in
          let n = c.loop-slot.place in
          let i = c.loop-slot.slot-index in
          let slots = c.loop-slot.slots in
          let d : Slot = record { entity = 0; to = 0; version = 0 } in
          let s : Slot = get_or slots i d in
          let lt : i < length slots = omega arith in
          let inv = c.loop-slot.invariant in
          let stays : leaves_next s.entity looks ≡ false = sym c.past_leave.ensures.leaves ∙ ap is_some w.in-None.is in
          let new = w.slots-is
          ∙ ap (λ b. slice_set slots i (record { entity = s.entity; to = cond b nowhere n; version = s.version })) (sym stays) in
          let rest = ap (λ r. r.now) w.rest-is ∙ ap (λ b. cond b (drop 1 looks) looks) (sym stays) in
          let stay = w.place-is ∙ ap (λ b. cond b n (n + 1)) (sym stays) in
          let others = ap (drop (i + 1)) w.slots-is ∙ drop-set-lt (i + 1) slots i _ (omega arith) in
          let found : (x : ℕ) → lookup (eqb x) c.match-past_leave.left.entries
          ≡ cond (leaves_next s.entity looks && eqb s.entity x) (Some s.version) (lookup (eqb x) c.loop-slot.left.entries) =
          λ x. ap (λ m. lookup (eqb x) m.entries) w.left-is
          ∙ ap (λ b. cond (b && eqb s.entity x) (Some s.version) (lookup (eqb x) c.loop-slot.left.entries)) (sym stays) in
          let same = ap (λ r. leaves_in r.now) w.rest-is in
          let is = ap (λ m. m.room) w.left-is in
          let room = inv.room in
          let used = inv.used in
          record {
            slots = (λ j. take (i + 1) (new j) ++ sent_all (rest j) (stay j) (drop (i + 1) (new j)))
                ∙ (sent_next looks n i slots d lt ∙ inv.slots);
            place = omega arith;
            rest = (λ j. looks_past_all (rest j) (entries_of (others j))) ∙ (sym (past_next looks i slots d lt) ∙ inv.rest);
            left = λ q. (λ j. left_past_all (rest j) (entries_of (others j)) (λ x. found x j) q)
                ∙ (sym (left_next looks (λ x. lookup (eqb x) c.loop-slot.left.entries) q i slots d lt) ∙ inv.left q);
            room = omega (arith, same, is, room);
            used = omega (arith, same, is, used);
          }
    ]

pub returns-clause-same : goal.returns-clause-same
returns-clause-same c =
    let end : length c.loop-slot.slots ≤ c.loop-slot.slot-index = omega arith in
    let is = sym (all_sent c.loop-slot.rest.now c.loop-slot.place c.loop-slot.slot-index c.loop-slot.slots end)
    ∙ c.loop-slot.invariant.slots in
    ap entries_of is ∙ same_entries c.args.looks.now 0 c.args.slots.now

pub returns-clause-order : goal.returns-clause-order
returns-clause-order c =
    let end : length c.loop-slot.slots ≤ c.loop-slot.slot-index = omega arith in
    let is = sym (all_sent c.loop-slot.rest.now c.loop-slot.place c.loop-slot.slot-index c.loop-slot.slots end)
    ∙ c.loop-slot.invariant.slots in
    let few = c.requires.few in
    subst (GoInOrder 0) (sym is) (go_in_order c.args.looks.now 0 c.args.slots.now (omega (arith, few)))

pub returns-clause-kept : goal.returns-clause-kept
returns-clause-kept c =
    let end : length c.loop-slot.slots ≤ c.loop-slot.slot-index = omega arith in
    let is = sym (all_sent c.loop-slot.rest.now c.loop-slot.place c.loop-slot.slot-index c.loop-slot.slots end)
    ∙ c.loop-slot.invariant.slots in
    let few = c.requires.few in
    ap (λ ss. entries_of (filter stays ss)) is ∙ kept_when_sent c.args.looks.now 0 c.args.slots.now (omega (arith, few))

pub returns-clause-left : goal.returns-clause-left
returns-clause-left c = λ q.
    let end : length c.loop-slot.slots ≤ c.loop-slot.slot-index = omega arith in
    let none = none_past c.loop-slot.slots c.loop-slot.slot-index end in
    ap (λ ss. left_past_all c.loop-slot.rest.now (entries_of ss) (λ x. lookup (eqb x) c.loop-slot.left.entries) q) (sym none)
    ∙ c.loop-slot.invariant.left q
