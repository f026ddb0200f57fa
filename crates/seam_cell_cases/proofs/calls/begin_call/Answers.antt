use Rattle.std.proofs.Common.{sym, ap, subst, ◌∙◌}
use Rattle.std.specs.Option.{unwrap_or}
use Rattle.seam_node_steps.specs.Prelude.{IsInSpace, executed}
use Rattle.seam_cell_parts.specs.Kept.{here_in}
use Rattle.seam_cell_parts.specs.Stepping.{HasBegun, parts_of}
use Rattle.seam_cell_cases.proofs.KeptLemmas.{executed_there}
use Rattle.seam_cell_cases.proofs.CallLemmas.{after_is, executed_later}
use Rattle.seam_cell_cases.proofs.calls.begin_call.Goals as goal

pub begin-requires-clause-inside : goal.begin-requires-clause-inside
begin-requires-clause-inside c =
    let k = c.args.known.now in
    let there = executed_there (here_in k) k.bounds c.requires.size c.args.real.now.core c.args.call.now c.requires.may c.requires.there in
    subst (λ s. IsInSpace k.bounds.tree s.pos) (sym (c.in_ok-after.ensures.state k.me k.settings)) there.inside

pub returns-clause-state : goal.returns-clause-state
returns-clause-state c = c.in_ok-after.ensures.state c.args.known.now.me c.args.known.now.settings

pub returns-clause-changed : goal.returns-clause-changed
returns-clause-changed c = c.in_ok-after.ensures.changed c.args.known.now.me c.args.known.now.settings

pub returns-clause-begun : goal.returns-clause-begun
returns-clause-begun c =
    let k = c.args.known.now in
    let r = c.args.real.now.core in
    let call = c.args.call.now in
    let state = c.in_ok-after.ensures.state k.me k.settings in
    let changed = c.in_ok-after.ensures.changed k.me k.settings in
    let same = c.prepare.ensures.same in
    let of = c.in_ok-after.after in
    let props = c.props_over.ensures ∙ ap (λ s. unwrap_or of.props s.props) (c.state.ensures ∙ ap (λ x. x.state) same) in
    let before = parts_of c.args.remotes.now c.args.out.now in
    let after = parts_of c.begin.new.remotes c.begin.new.out in
    subst (λ b. HasBegun (here_in k) k.bounds (executed (here_in k) r call) b before after c.in_ok-begun.begun) changed
    (c.in_ok-begun.ensures.begun (executed (here_in k) r call) (executed_later (here_in k) r c.prepare.new.self.core call same)
    (sym (c.ty.ensures ∙ ap (λ x. x.ty) same))
    (sym
    (c.version_after.ensures call
    ∙ ap (λ x. x.public) (after_is (here_in k) r c.prepare.new.self.core c.in_ok-after.after call same state changed)))
    (sym state ∙ (λ i. record { pos = of.pos; props = sym props i })))
