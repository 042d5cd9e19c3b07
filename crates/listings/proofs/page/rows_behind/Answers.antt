use Rattle.std.proofs.Common.{refl}
use Rattle.listings.proofs.Paged.{page_is}
use Rattle.listings.proofs.page.rows_behind.Goals as goal

pub returns : goal.returns
returns g c = page_is c.args.rows.now _ c.args.after c.min-from.result c.min-count.result c.min-from.ensures refl c.min-count.ensures
