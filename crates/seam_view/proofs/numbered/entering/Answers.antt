use Rattle.std.proofs.Common.{◌≡◌, ◌∙◌, IfSome, Option, None, Some, Bor, sym, ap}
use Rattle.std.specs.Prelude.{option_copied}
use Rattle.seam_view.specs.declared.Seen.{Seen}
use Rattle.seam_view.specs.declared.Look.TheVariants.{Enter}
use Rattle.seam_view.specs.Replica.{seen_of}
use Rattle.seam_view.proofs.KnownOrder.{known_of}
use Rattle.seam_view.proofs.numbered.entering.Goals as goal

pub returns-in-Enter : goal.returns-in-Enter
returns-in-Enter c = of c.find_seen.result c.find_seen.ensures
  where
    of : (o : Option (Bor Seen)) → option_copied o ≡ seen_of c.in-Enter.e c.args.known.now →
        IfSome o (λ s. (c.args.look.now ≡ Enter s.now.entity) × (seen_of s.now.entity c.args.known.now ≡ Some s.now))
    of None h = tt
    of (Some s) h =
        let same = known_of c.in-Enter.e c.args.known.now s.now (sym h) in
        (c.in-Enter.is ∙ ap Enter (sym same), ap (λ e. seen_of e c.args.known.now) same ∙ sym h)
