use Rattle.std.proofs.Common.{[], ◌∷◌, ◌++◌, refl, subst}
use Rattle.seam_io.specs.Lines.{lines_of}
use Rattle.seam_check.specs.Heads.{HeadLineRead}
use Rattle.seam_check.specs.Inputs.{as_line}
use Rattle.seam_check.proofs.HeadSteps.{counts_more, head_ends, head_refused, no_end_found, none_yet, one_more}
use Rattle.seam_check.proofs.head.read_head.Goals as goal

pub loop-line-init : goal.loop-line-init
loop-line-init c = ([], refl, none_yet _ c.new-head.ensures, refl)

pub loop-line-preserved : goal.loop-line-preserved
loop-line-preserved c =
    let i = c.loop-line.invariant in
    let l = as_line c.in-Some.line in
    let next = c.in-Some.ensures.0 in
    let read =
    subst (λ a. HeadLineRead c.loop-line.head l c.read_head_line.new.head a) c.in-GoesOn.is c.in_ok-read_head_line.ensures in (
      i.0 ++ l ∷ [],
      one_more (lines_of c.args.input.now) i.0 l (lines_of c.loop-line.rest.now) (lines_of c.in-Some.others.now) i.1 next,
      read i.0 i.2,
      counts_more (lines_of c.args.input.now) i.0 l (lines_of c.loop-line.rest.now) (lines_of c.in-Some.others.now) i.1 next
          c.loop-line.count c.in_ok-count.count i.3 c.in_ok-count.ensures,
    )

pub returns-in-Ends : goal.returns-in-Ends
returns-in-Ends c =
    let i = c.loop-line.invariant in
    let l = as_line c.in-Some.line in
    let read =
    subst (λ a. HeadLineRead c.loop-line.head l c.read_head_line.new.head a) c.in-Ends.is c.in_ok-read_head_line.ensures in
    head_ends (lines_of c.args.input.now) i.0 l (lines_of c.loop-line.rest.now) (lines_of c.in-Some.others.now) i.1 c.in-Some.ensures.0
    c.in-Ends.header c.loop-line.count c.in_ok-count.count i.3 c.in_ok-count.ensures (read i.0 i.2)

pub returns-in-Refused : goal.returns-in-Refused
returns-in-Refused c =
    let i = c.loop-line.invariant in
    let l = as_line c.in-Some.line in
    let read =
    subst (λ a. HeadLineRead c.loop-line.head l c.read_head_line.new.head a) c.in-Refused.is c.in_ok-read_head_line.ensures in
    head_refused (lines_of c.args.input.now) i.0 l (lines_of c.loop-line.rest.now) (lines_of c.in-Some.others.now) i.1 c.in-Some.ensures.0
    c.in-Refused.cause (read i.0 i.2)

pub returns : goal.returns
returns c =
    let i = c.loop-line.invariant in
    no_end_found (lines_of c.args.input.now) i.0 (lines_of c.loop-line.rest.now) c.loop-line.head i.1 c.in_default.ensures i.2
