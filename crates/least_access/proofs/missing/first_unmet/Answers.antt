use Rattle.std.proofs.Common.{refl, arith}
use Rattle.share_graph.specs.Derivation.{IsMetBy}
use Rattle.share_graph.proofs.Walks.{at_place}
use Rattle.least_access.specs.Solved.{HeldAt}
use Rattle.least_access.proofs.Lacking.{not_so, met_by_solution, met_more, all_met}
use Rattle.least_access.proofs.missing.first_unmet.Goals as goal

pub loop-index-init : goal.loop-index-init
loop-index-init c = λ k need none is. absurd (omega arith)

pub returns-then-not-met : goal.returns-then-not-met
returns-then-not-met c = record {
  need = c.index-needs-index.result;
  there = at_place c.args.needs.now c.args.needs.now c.loop-index.index c.index-needs-index.result refl c.loop-index-test.true c.index-needs-index.is;
  unmet = λ met.
      not_so (IsMetBy c.args.tables.now (HeldAt c.args.solved.now) c.index-needs-index.result) c.met.result c.met.ensures c.if-not-met.true
      ((met_by_solution c.args.tables.now c.args.solved.now c.requires c.index-needs-index.result).1 met);
  earlier = c.loop-index.invariant;
}

pub loop-index-preserved : goal.loop-index-preserved
loop-index-preserved c =
    met_more c.args.tables.now c.args.needs.now c.loop-index.index c.index-needs-index.result
    (at_place c.args.needs.now c.args.needs.now c.loop-index.index c.index-needs-index.result refl c.loop-index-test.true c.index-needs-index.is)
    ((met_by_solution c.args.tables.now c.args.solved.now c.requires c.index-needs-index.result).0 (c.met.ensures.0 c.if-not-met.false))
    c.loop-index.invariant

pub returns : goal.returns
returns c = all_met c.args.tables.now c.args.needs.now c.loop-index.index c.loop-index-test.false c.loop-index.invariant
