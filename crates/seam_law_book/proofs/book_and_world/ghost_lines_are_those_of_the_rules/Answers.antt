use Rattle.seam_law_book.proofs.Ghosts.{ghosts_are}
use Rattle.seam_law_book.proofs.book_and_world.ghost_lines_are_those_of_the_rules.Goals as goal

pub returns : goal.returns
returns c h b tree v t rows there x k q at lives between copies =
    ghosts_are h tree v t x k q (between.settled x.entity k q at).fits between.frame.tree.cells_to (copies.settled x.entity k q at)
    (rows x.entity k q x at lives) (there x.entity k q at)
