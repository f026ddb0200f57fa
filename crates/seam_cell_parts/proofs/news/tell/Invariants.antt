use Rattle.std.proofs.Common.{◌≡◌, ◌++◌, ℕ}
use Rattle.seam_node_steps.specs.Prelude.{Settings, copy_with, node_with}
use Rattle.seam_cell_parts.specs.News.{state_of, news}
use Rattle.seam_cell_parts.proofs.NewsLemmas.{AreLeft}
use Rattle.seam_cell_parts.proofs.news.tell.Given as goal

-- what the cells so far were told, and the sets of the others
abbrev pub invariant-loop-k : goal.invariant-loop-k
invariant-loop-k l = record {
  told : (me : ℕ) (settings : Settings) →
      l.out.items
      ≡ l.fn.out.items ++ news l.t (copy_with (node_with l.of.defs.now me settings) l.of.ty l.of.version (state_of l.of)) l.k;
  left : AreLeft l.haunts l.old l.t l.k;
}
