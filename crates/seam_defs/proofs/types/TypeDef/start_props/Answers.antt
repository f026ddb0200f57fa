use Rattle.std.proofs.Common.{◌≡◌, rules}
use Rattle.std.proofs.lemmas.Result.{IfOk-weaker}
use Rattle.seam_defs.proofs.Starts.{start_of_group}
use Rattle.seam_defs.specs.Deeds.{start_values, IsOfGroup}
use Rattle.seam_defs.proofs.types.TypeDef.start_props.Goals as goal

pub returns-in-Some-clause-of_group : goal.returns-in-Some-clause-of_group
returns-in-Some-clause-of_group c is =
    let ps = c.args.self.now.properties in
    let g = c.args.group in
    IfOk-weaker c.copy.result (λ props. props ≡ start_values ps g) (IsOfGroup ps g)
    (λ props value. rw value (start_of_group ps g is.defaults)) (search rules)

pub returns-in-None-clause-of_group : goal.returns-in-None-clause-of_group
returns-in-None-clause-of_group c is =
    let ps = c.args.self.now.properties in
    let g = c.args.group in
    IfOk-weaker c.first_values.result (λ props. props ≡ start_values ps g) (IsOfGroup ps g)
    (λ props value. rw value (start_of_group ps g is.defaults)) (search rules)
