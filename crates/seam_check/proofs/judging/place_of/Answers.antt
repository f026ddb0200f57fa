use Rattle.std.proofs.Common.{◌+◌, take, ◌∙◌, ap}
use Rattle.std.specs.List.{count_by}
use Rattle.std.proofs.lemmas.Result.{IfOk-weaker}
use Rattle.seam_io.specs.Lines.{is_feed}
use Rattle.seam_check.proofs.Rounds.{front_is}
use Rattle.seam_check.proofs.judging.place_of.Goals as goal

pub returns : goal.returns
returns c =
    IfOk-weaker c.next_count.result _ _ (λ n is front at.
    is ∙ ap (λ n. n + 1) c.feeds_of.ensures ∙ ap (λ k. count_by is_feed (take k c.args.text.now) + 1) c.saturating_sub.ensures
    ∙ ap (λ xs. count_by is_feed xs + 1) (front_is c.args.text.now front c.args.left.now at))
    c.next_count.ensures
