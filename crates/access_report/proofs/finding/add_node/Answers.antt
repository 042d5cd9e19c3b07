use Rattle.access_report.proofs.FoundNodes.{one_more}
use Rattle.access_report.proofs.finding.add_node.Goals as goal

pub returns : goal.returns
returns c =
    one_more c.args.solved.now c.args.found.now.entries c.set.new.table.entries c.args.node c.held_by.result c.held_by.ensures c.in_ok-set.ensures.same c.in_ok-set.ensures.others
