use Rattle.seam_judge_expected.proofs.ListedLemmas.{numbers_rise}
use Rattle.seam_judge_expected.proofs.entities.numbers_of.Goals as goal

pub returns : goal.returns
returns c =
    numbers_rise _ c.in_ok-numbers.numbers.items c.sort.new.self.items c.dedup.new.self.items c.in_ok-numbers.ensures
    c.in_ok-sort.ensures.permutation c.in_ok-sort.ensures.sorted c.dedup.ensures.filtered
