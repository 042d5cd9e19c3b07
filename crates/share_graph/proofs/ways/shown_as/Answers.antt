use Rattle.share_graph.proofs.WaysOne.{shown_one}
use Rattle.share_graph.proofs.ways.shown_as.Goals as goal

pub returns-then-shared-clause-one : goal.returns-then-shared-clause-one
returns-then-shared-clause-one c = shown_one c.args.tables.now c.args.num

pub returns-else-shared-clause-one : goal.returns-else-shared-clause-one
returns-else-shared-clause-one c = shown_one c.args.tables.now c.args.num
