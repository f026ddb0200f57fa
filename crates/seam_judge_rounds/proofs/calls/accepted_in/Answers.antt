use Rattle.std.proofs.Common.{◌≡◌, ◌++◌, arith}
use Rattle.std.proofs.lemmas.List.Elements.{filter_map-append}
use Rattle.seam_rule_lines.specs.Book.{called, calls_of}
use Rattle.seam_judge_rounds.proofs.calls.accepted_in.Goals as goal

pub returns : goal.returns
returns c =
    let split : calls_of (c.args.standing.now.past.items ++ c.args.standing.now.current.items)
    ≡ calls_of c.args.standing.now.past.items ++ calls_of c.args.standing.now.current.items
    = filter_map-append called c.args.standing.now.past.items c.args.standing.now.current.items in
    first_of (cc, grind (arith, split))
