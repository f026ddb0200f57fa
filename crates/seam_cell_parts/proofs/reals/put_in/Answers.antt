use Rattle.std.proofs.Common.{◌≡◌, true, false, sym, ap, ◌∙◌}
use Rattle.std.specs.FinMap as table
use Rattle.seam_cell_parts.proofs.RealLemmas.{is_put_in}
use Rattle.seam_cell_parts.proofs.reals.put_in.Goals.{then-not-is_ready, else-not-is_ready}
use Rattle.seam_cell_parts.proofs.reals.put_in.Goals as goal

pub returns-clause-kept : goal.returns-clause-kept
returns-clause-kept c = elim c.if-not-is_ready.branch [
  | then-not-is_ready w ↦
      is_put_in c.args.reals.now
      (record {
        items = c.put_reserved-none.new.self;
        ready = c.if-not-is_ready.reals.ready;
        witnesses = c.if-not-is_ready.reals.witnesses;
      })
      c.args.e c.args.real.core c.requires
      (ap (λ t. t.items) c.put_reserved-none.ensures.after ∙ ap (λ r. table.insert r.items.items c.args.e c.args.real.core) w.reals-is)
      (λ t. let not : false ≡ true = sym w.if-not-is_ready.true ∙ (c.is_ready.ensures ∙ t) in cc)
      (λ t. ap (λ r. r.ready) w.reals-is ∙ w.remove.ensures) (ap (λ r. r.witnesses) w.reals-is)
  | else-not-is_ready w ↦
      is_put_in c.args.reals.now
      (record {
        items = c.put_reserved-none.new.self;
        ready = c.if-not-is_ready.reals.ready;
        witnesses = c.if-not-is_ready.reals.witnesses;
      })
      c.args.e c.args.real.core c.requires
      (ap (λ t. t.items) c.put_reserved-none.ensures.after ∙ ap (λ r. table.insert r.items.items c.args.e c.args.real.core) w.reals-is)
      (λ t. ap (λ r. r.ready) w.reals-is)
      (λ t. let not : true ≡ false = sym w.if-not-is_ready.false ∙ (c.is_ready.ensures ∙ t) in cc) (ap (λ r. r.witnesses) w.reals-is)
]
