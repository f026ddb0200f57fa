use Rattle.std.proofs.Common.{◌≡◌, ◌≤◌, ◌+◌, ◌++◌, ℕ, eqb, take, drop}
use Rattle.std.specs.Map.{lookup}
use Rattle.seam_view.specs.ByNumber.{entries_of}
use Rattle.seam_view.specs.Replica.{leaves_in}
use Rattle.seam_view.specs.Together.{looks_past_all, left_past_all}
use Rattle.seam_view.proofs.Sent.{sent_all}
use Rattle.seam_view.proofs.numbered.send_off.Given as goal

abbrev pub invariant-loop-slot : goal.invariant-loop-slot
invariant-loop-slot l = record {
  slots : take l.slot-index l.slots ++ sent_all l.rest l.place (drop l.slot-index l.slots) ≡ sent_all l.looks 0 l.initial.slots;
  place : l.place ≤ l.slot-index;
  rest : looks_past_all l.rest (entries_of (drop l.slot-index l.slots)) ≡ looks_past_all l.looks (entries_of l.initial.slots);
  left : (q : ℕ) → left_past_all l.rest (entries_of (drop l.slot-index l.slots)) (λ x. lookup (eqb x) l.left.entries) q
      ≡ left_past_all l.looks (entries_of l.initial.slots) (λ x. lookup (eqb x) l.initial.left.entries) q;
  room : leaves_in l.rest ≤ l.left.room;
  used : l.initial.left.room + leaves_in l.rest ≤ l.left.room + leaves_in l.looks;
}
