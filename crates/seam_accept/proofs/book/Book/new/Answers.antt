use Rattle.std.proofs.Common.{refl}
use Rattle.seam_accept.proofs.Keeping.{begins}
use Rattle.seam_accept.proofs.book.Book.new.Goals as goal

pub returns : goal.returns
returns c =
    begins c.args.header.now _
    (λ i. record { settings = c.args.header.now.settings; defs = c.in_ok-defs.ensures i }) c.one.ensures.whole c.with_hasher.ensures.empty
    c.new.ensures.empty c.new-2.ensures.empty
    (record {
      count = refl;
      creates = c.new-3.ensures.items;
      joined_ = c.new-4.ensures.items;
      orders = c.new-5.ensures.items;
      destroyed_ = c.new-6.ensures.items;
      balance = refl;
    })
