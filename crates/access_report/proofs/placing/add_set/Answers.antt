use Rattle.access_report.proofs.Placed.{cites_pos, cites_set}
use Rattle.access_report.proofs.placing.add_set.Goals as goal

pub loop-pos-preserved : goal.loop-pos-preserved
loop-pos-preserved c = record {
  keeps = λ p listed. c.in_ok-add_pos.ensures.keeps p (c.loop-pos.invariant.keeps p listed);
  cited = cites_pos c.args.trace.now c.args.set.now c.loop-pos.from.items c.add_pos.new.from.items c.args.node c.loop-pos.pos c.in_ok-add_pos.ensures.keeps c.in_ok-add_pos.ensures.there
      c.loop-pos.invariant.cited;
}

pub returns-clause-there : goal.returns-clause-there
returns-clause-there c = cites_set c.args.trace.now c.args.set.now c.loop-pos.from.items c.args.node c.loop-pos.pos c.loop-pos-test.false c.loop-pos.invariant.cited
