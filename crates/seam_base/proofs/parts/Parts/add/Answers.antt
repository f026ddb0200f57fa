use Rattle.std.proofs.Common.{◌≡◌, true, sym, ap, ◌∙◌, if◌then◌else◌, eq-eqb}
use Rattle.std.specs.FinMap as table
use Rattle.seam_node_steps.specs.Prelude.{new_part, is_base_node_of}
use Rattle.seam_base.specs.Nodes.{here_in, has_call, has_update}
use Rattle.seam_base.proofs.PartLemmas.{new_has_no_call}
use Rattle.seam_base.proofs.parts.Parts.add.Goals as goal

pub put_new-requires-clause-no_call : goal.put_new-requires-clause-no_call
put_new-requires-clause-no_call c =
    ap has_call (c.in_ok-part.ensures c.args.known.now.me c.args.known.now.settings) ∙ new_has_no_call (here_in c.args.known.now) c.args.ty

pub put_new-requires-clause-no_update : goal.put_new-requires-clause-no_update
put_new-requires-clause-no_update c = ap has_update (c.in_ok-part.ensures c.args.known.now.me c.args.known.now.settings)

pub returns-in-Ok-clause-after : goal.returns-in-Ok-clause-after
returns-in-Ok-clause-after c =
    c.in-Ok.ensures.after
    ∙ (ap (table.insert c.args.self.now c.args.e) (c.in_ok-part.ensures c.args.known.now.me c.args.known.now.settings)
    ∙ sym (ap (λ d. if d then table.insert c.args.self.now c.args.e (new_part (here_in c.args.known.now) c.args.ty) else c.args.self.now)
    here_is))
  where
    here_is : is_base_node_of (here_in c.args.known.now) c.args.e ≡ true
    here_is = eq-eqb _ _ (sym c.base_node_of.ensures ∙ c.if-base_node_of-known.false)
