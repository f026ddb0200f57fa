use Rattle.std.proofs.Common.{◌≡◌, ◌≤◌, ◌<◌, ◌+◌, get_or, length}
use Rattle.std.specs.List.{AllWithin}
use Rattle.std.specs.Map.{keys_of}
use Rattle.std.specs.Vec.{vec_len, vec_capacity}
use Rattle.seam_view.specs.ByNumber.{entries_of}
use Rattle.seam_view.specs.Passing.{places_of, to_come}
use Rattle.seam_view.proofs.numbered.Passing.pass_below.Given as goal

abbrev pub invariant-loop-i : goal.invariant-loop-i
invariant-loop-i l = record {
  next : l.self.next ≡ l.i;
  within : l.self.next ≤ length l.self.all.items;
  all : l.self.all ≡ l.fn.self.all;
  same : places_of l.self ≡ places_of l.fn.self;
  below : AllWithin (λ i. get_or (keys_of (entries_of l.slots)) i 0 < l.e) (places_of l.fn.self) 0 (length l.fn.self.passed.items)
      → AllWithin (λ i. get_or (keys_of (entries_of l.slots)) i 0 < l.e) (places_of l.self) 0 (length l.self.passed.items);
  len : vec_len l.self.passed + length (to_come l.self) ≡ vec_len l.fn.self.passed + length (to_come l.fn.self);
  capacity : vec_capacity l.self.passed ≡ vec_capacity l.fn.self.passed;
}
