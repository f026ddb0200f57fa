use Rattle.std.proofs.Common.{◌≡◌, ◌≤◌, ◌+◌, ◌-◌, length, arith, sym, subst}
use Rattle.std.specs.Prelude.{slice_range}
use Rattle.seam_io.specs.Reading.{Reader}
use Rattle.seam_io.proofs.RangeLemmas.{range_rest, range_size}
use Rattle.seam_io.proofs.StepLemmas.{same_but_held}
use Rattle.seam_io.proofs.lines.Lines.give.Goals as goal

pub returns-then-len-gt-LONGEST_LINE-clause-rest : goal.returns-then-len-gt-LONGEST_LINE-clause-rest
returns-then-len-gt-LONGEST_LINE-clause-rest c =
    let is = c.self.invariant in
    let fits = c.self.inside.buffer.ok.0 in
    let bytes = c.self.inside.buffer.items in
    let size : length (slice_range bytes c.self.inside.start c.self.inside.end) ≡ c.self.inside.end - c.self.inside.start =
    range_size bytes _ _ (omega arith) (omega arith) in
    let within : c.args.len + c.args.skip ≤ length (slice_range bytes c.self.inside.start c.self.inside.end) =
    subst (λ (r : Reader). c.args.len + c.args.skip ≤ length r.held) (sym c.self.view_is) c.requires in
    rw (← c.self.view_is) (same_but_held _ _ _ _ _ _ _
    (range_rest bytes c.self.inside.start c.self.inside.end (c.args.len + c.args.skip) (omega arith)))

pub returns-clause-rest : goal.returns-clause-rest
returns-clause-rest c =
    let is = c.self.invariant in
    let fits = c.self.inside.buffer.ok.0 in
    let bytes = c.self.inside.buffer.items in
    let size : length (slice_range bytes c.self.inside.start c.self.inside.end) ≡ c.self.inside.end - c.self.inside.start =
    range_size bytes _ _ (omega arith) (omega arith) in
    let within : c.args.len + c.args.skip ≤ length (slice_range bytes c.self.inside.start c.self.inside.end) =
    subst (λ (r : Reader). c.args.len + c.args.skip ≤ length r.held) (sym c.self.view_is) c.requires in
    rw (← c.self.view_is) (same_but_held _ _ _ _ _ _ _
    (range_rest bytes c.self.inside.start c.self.inside.end (c.args.len + c.args.skip) (omega arith)))
