use Rattle.std.proofs.Common.{List, Option, subst, sym}
use Rattle.host_base.specs.declared.ids.GrantId.{GrantId}
use Rattle.share_graph.specs.declared.facts.Node.{Node}
use Rattle.access_report.specs.Waiting.{AreQueued, AreWoken}
use Rattle.access_report.proofs.Spread.{woken_none, woken_some}
use Rattle.access_report.proofs.feeding.wake.Goals as goal

pub returns-in_default : goal.returns-in_default
returns-in_default c =
    subst (λ (o : Option Node). AreWoken c.args.fed.now.entries o c.args.queue.now c.args.queue.now) (sym c.in_default.is) (woken_none c.args.fed.now.entries c.args.queue.now)

pub returns : goal.returns
returns c =
    subst (λ (o : Option Node). AreWoken c.args.fed.now.entries o c.args.queue.now c.add_all.new.self) (sym c.in-Some.is)
    (woken_some c.args.fed.now.entries c.in-Some.node c.args.queue.now c.add_all.new.self
    (subst (λ (gs : List GrantId). AreQueued gs c.args.queue.now c.add_all.new.self) c.fed_by.ensures c.in_ok-add_all.ensures))
