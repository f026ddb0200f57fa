use Rattle.std.proofs.Common.{◌≡◌, ◌≤◌, length, arith, rules, ap, sym}
use Rattle.std.proofs.lemmas.List.{drop_all}
use Rattle.seam_io.specs.MemSource.{Supply, cut_of}
use Rattle.seam_io.proofs.Copies.{copied_prefix, share_of_parts}
use Rattle.seam_io.proofs.memory.MemSourceSource.read.Goals as goal

pub returns-then-count-eq0-clause-bytes : goal.returns-then-count-eq0-clause-bytes
returns-then-count-eq0-clause-bytes c =
    let within = c.self.invariant in
    let size = c.self.inside.bytes.ok.0 in
    let done : length c.self.inside.bytes.items ≤ c.self.inside.at = omega (arith, c.cut_at-cut.ensures.some, c.requires) in
    (ap (λ (s : Supply). s.left) (sym c.self.view_is), λ _ _. drop_all _ _ done)

pub returns-then-count-eq0-clause-count : goal.returns-then-count-eq0-clause-count
returns-then-count-eq0-clause-count c =
    let within = c.self.invariant in
    let size = c.self.inside.bytes.ok.0 in
    let room = length c.args.buf.now in
    let cut : c.cut_at-cut.result ≡ cut_of c.self.inside.cuts.items c.self.inside.reads room =
    rw c.deref.ensures.value at c.cut_at-cut.ensures.cut in
    rw (← c.self.view_is) (share_of_parts c.self.inside.bytes.items c.self.inside.at c.cut_at-cut.result _ room c.min.result 0 cut
    (search rules) (omega arith) (omega arith))

pub returns-clause-bytes : goal.returns-clause-bytes
returns-clause-bytes c =
    let within = c.self.invariant in
    let size = c.self.inside.bytes.ok.0 in
    rw (← c.self.view_is) (
      copied_prefix c.self.inside.bytes.items c.args.buf.now c.copy_from_slice.new.self c.self.inside.at c.min-count.result (search rules)
          (omega arith),
      λ none. absurd (omega arith),
    )

pub returns-clause-count : goal.returns-clause-count
returns-clause-count c =
    let within = c.self.invariant in
    let size = c.self.inside.bytes.ok.0 in
    let room = length c.args.buf.now in
    let cut : c.cut_at-cut.result ≡ cut_of c.self.inside.cuts.items c.self.inside.reads room =
    rw c.deref.ensures.value at c.cut_at-cut.ensures.cut in
    rw (← c.self.view_is) (share_of_parts c.self.inside.bytes.items c.self.inside.at c.cut_at-cut.result _ room c.min.result
    c.min-count.result cut (search rules) (omega arith) (omega arith))
