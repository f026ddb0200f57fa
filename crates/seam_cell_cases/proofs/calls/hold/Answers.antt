use Rattle.seam_cell_cases.proofs.calls.hold.Goals as goal

pub returns-in-Ok-clause-after : goal.returns-in-Ok-clause-after
returns-in-Ok-clause-after c = c.in-Ok.ensures.after c.args.known.now.me c.args.known.now.settings
