use Rattle.std.proofs.Common.{refl}
use Rattle.share_graph.proofs.Walks.{at_place}
use Rattle.access_report.proofs.Placed.{cites_next, cites_needs}
use Rattle.access_report.proofs.placing.add_needs.Goals as goal

pub loop-need-preserved : goal.loop-need-preserved
loop-need-preserved c = record {
  keeps = λ p listed. c.in_ok-add_need.ensures.keeps p (c.loop-need.invariant.keeps p listed);
  cited = cites_next c.args.trace.now c.args.needs.now c.loop-need.from.items c.add_need.new.from.items c.loop-need.need-index c.need-item.result
      (at_place c.args.needs.now c.args.needs.now c.loop-need.need-index c.need-item.result refl c.loop-need-test.true c.need-item.is)
      c.in_ok-add_need.ensures.keeps c.in_ok-add_need.ensures.there c.loop-need.invariant.cited;
}

pub returns-clause-there : goal.returns-clause-there
returns-clause-there c = cites_needs c.args.trace.now c.args.needs.now c.loop-need.from.items c.loop-need.need-index c.loop-need-test.false c.loop-need.invariant.cited
