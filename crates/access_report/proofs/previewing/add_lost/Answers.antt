use Rattle.share_graph.specs.declared.facts.Fact.{Fact}
use Rattle.least_access.specs.Held.{IsIn}
use Rattle.least_access.proofs.Lacking.{not_so}
use Rattle.access_report.proofs.Lost.{adds_none, adds_one}
use Rattle.access_report.proofs.previewing.add_lost.Goals as goal

pub returns-then-not-is_something : goal.returns-then-not-is_something
returns-then-not-is_something c =
    adds_none c.args.solved.now c.args.table.now.entries c.args.node c.gone-held.result c.args.lost.now.entries c.gone-held.ensures
    (not_so ((fact : Fact) × IsIn c.gone-held.result fact) c.is_something.result c.is_something.ensures c.if-not-is_something.true)

pub returns : goal.returns
returns c =
    adds_one c.args.solved.now c.args.table.now.entries c.args.node c.gone-held.result c.args.lost.now.entries c.set.new.table.entries c.gone-held.ensures
    (c.is_something.ensures.0 c.if-not-is_something.false) (rw (← c.turned.ensures) c.in_ok-set.ensures.same) (rw (← c.turned.ensures) c.in_ok-set.ensures.others)
