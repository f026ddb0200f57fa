use Rattle.std.proofs.Common.{◌≡◌, ◌++◌, arith}
use Rattle.std.proofs.lemmas.List.Elements.{filter_map-append}
use Rattle.seam_rule_lines.specs.Book.{created, creates_of}
use Rattle.seam_judge_expected.proofs.entities.created_in.Goals as goal

pub returns : goal.returns
returns c =
    let split : creates_of (c.args.standing.now.past.items ++ c.args.standing.now.current.items)
    ≡ creates_of c.args.standing.now.past.items ++ creates_of c.args.standing.now.current.items
    = filter_map-append created c.args.standing.now.past.items c.args.standing.now.current.items in
    first_of (cc, grind (arith, split))
