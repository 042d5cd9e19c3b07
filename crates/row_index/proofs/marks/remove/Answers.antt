use Rattle.std.proofs.Common.{rules, not, nat_eq}
use borrow.Author.Tests.{tests}
use Rattle.row_index.proofs.Removed.{filtered}
use Rattle.row_index.proofs.marks.remove.Goals as goal

pub returns-clause-items : goal.returns-clause-items
returns-clause-items c = filtered _ (λ other. not (nat_eq other c.args.place)) _ (λ x b q r. (search (rules, tests), search (rules, tests))) _ _ c.retain.ensures.filtered
