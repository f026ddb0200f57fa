use Rattle.std.proofs.Common.{◌+◌, [], ◌∷◌, ◌++◌, Option, Ok, sym, ap, ◌∙◌}
use Rattle.std.proofs.Common.{subst, arith}
use Rattle.seam_toml.specs.declared.header.Header.{Header}
use Rattle.seam_world_ends.specs.Headers.{HasHeader, HeaderLineRead}
use Rattle.seam_world_ends.proofs.HeaderRuns.{header_unread, counted_line}
use Rattle.seam_world_ends.proofs.header.read_header.Goals as goal

pub returns-in-Err-clause-header : goal.returns-in-Err-clause-header
returns-in-Err-clause-header g c = λ began reading limit.
    let was = c.loop-count.invariant.history began reading limit in
    header_unread began _ _ _ was.0 was.1

pub loop-count-preserved : goal.loop-count-preserved
loop-count-preserved g c =
    let later = c.loop-count.invariant.later in
    let more = c.in-Ok-None.ensures.later in
    record {
      later = omega (arith, later, more);
      history = λ began reading limit.
          let was = c.loop-count.invariant.history began reading limit in
          let line =
          subst (λ (h : Option Header). HeaderLineRead began (g.S.Source.state c.read_header_line.new.input) c.read_header_line.new.lines
          c.read_header_line.new.header was.0 (Ok h))
          c.in-Ok-None.field-0-is (c.in-Ok-None.ensures.header began was.0 was.1) in
          (was.0 ++ line.0 ∷ [], line.1, counted_line _ _ was.0 line.0 c.in-Ok.ensures.next was.2);
    }

pub returns-in-Ok-Some-clause-header : goal.returns-in-Ok-Some-clause-header
returns-in-Ok-Some-clause-header g c = λ began reading limit.
    let was = c.loop-count.invariant.history began reading limit in
    let ended =
    subst (λ (h : Option Header). HeaderLineRead began (g.S.Source.state c.read_header_line.new.input) c.read_header_line.new.lines
    c.read_header_line.new.header was.0 (Ok h))
    c.in-Ok-Some.field-0-is (c.in-Ok-Some.ensures.header began was.0 was.1) in
    rw c.keyed.ensures (subst (HasHeader began (g.S.Source.state c.read_header_line.new.input) c.read_header_line.new.lines
    c.in-Ok-Some.read) (sym (c.in-Ok.ensures.next ∙ ap (λ (n : _). n + 1) was.2)) ended)

pub returns-in-Err-read_header_line-clause-header : goal.returns-in-Err-read_header_line-clause-header
returns-in-Err-read_header_line-clause-header g c = λ began reading limit.
    let was = c.loop-count.invariant.history began reading limit in
    c.in-Err-read_header_line.ensures.header began was.0 was.1

pub returns-in-Ok-Some-clause-few : goal.returns-in-Ok-Some-clause-few
returns-in-Ok-Some-clause-few g c = c.in-Ok.ensures.most
