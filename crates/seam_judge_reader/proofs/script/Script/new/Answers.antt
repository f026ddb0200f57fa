use Rattle.std.proofs.Common.{◌≡◌, refl, map}
use Rattle.std.specs.Prelude.{filter, ◌==◌}
use Rattle.seam_judge_data.specs.Standings.{place_among}
use Rattle.seam_rule_lines.specs.Book.{empty_book}
use Rattle.seam_rule_rounds.specs.Prelude.{is_for}
use Rattle.seam_judge_reader.proofs.script.Script.new.Goals as goal

pub returns : goal.returns
returns c = record {
  header = refl;
  standing = λ i. record {
    lines = c.args.lines;
    rounds = 0;
    book = record { past = c.new.ensures.items i; tree = c.one.ensures.whole i; current = c.new-2.ensures.items i };
    orders = λ p e. filter (is_for p e) (c.new-3.ensures.items i);
    places = λ e. place_among (c.new-4.ensures.items i) e;
    told = λ e. map (λ l. l.line) (filter (λ l. l.entity == e) (c.new-5.ensures.items i));
  };
  book = empty_book c.args.header.settings.size;
  refines = c.in_ok-new.ensures;
  closed = refl;
  same = refl;
  tree = refl;
}
