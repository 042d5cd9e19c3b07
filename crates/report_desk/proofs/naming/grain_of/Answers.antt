use Rattle.std.proofs.Common.{refl, subst, sym}
use Rattle.share_graph.specs.declared.facts.Node.{Node}
use Rattle.access_report.specs.Entries.{IsOn}
use Rattle.report_desk.proofs.naming.grain_of.Goals as goal

pub returns-in-Some : goal.returns-in-Some
returns-in-Some c =
    let grant = c.in-Some.grant.now in
    subst (λ (at : Node). IsOn c.args.tables.now grant.grain at) (sym c.in-Grant.is) (grant, sym c.in-Some.ensures, refl)
