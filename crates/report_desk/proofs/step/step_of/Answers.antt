use Rattle.share_graph.proofs.AllSame.{all_same}
use Rattle.report_desk.proofs.step.step_of.Goals as goal

pub returns : goal.returns
returns c = record {
  held = c.only.result;
  one = c.only.ensures;
  line = c.in_ok-line.ensures;
  passed = c.in_ok-passing.ensures;
  from = all_same _ c.args.step.now.from c.in_ok-from.from (λ x y is. is) c.in_ok-from.ensures.cases;
}
