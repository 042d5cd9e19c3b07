use Rattle.listings.proofs.Paged.{first_are}
use Rattle.listings.proofs.page.page_of.Goals as goal

pub returns : goal.returns
returns c = first_are c.args.numbers.items c.sort.new.self.items c.truncate.new.self.items c.requires c.in_ok-sort.ensures.permutation c.in_ok-sort.ensures.sorted c.truncate.ensures.items
