use Rattle.std.proofs.Common.{refl, subst, sym}
use Rattle.share_graph.specs.declared.facts.Node.{Node}
use Rattle.report_desk.specs.declared.holder.Holder.TheVariants as holder
use Rattle.report_desk.specs.Lines.{IsHolder}
use Rattle.report_desk.proofs.naming.holder_of.Goals as goal

pub returns-in-Some-find_grant : goal.returns-in-Some-find_grant
returns-in-Some-find_grant c =
    let grant = c.in-Some-find_grant.grant.now in
    subst (λ (at : Node). IsHolder c.args.tables.now at (holder.Grant c.in-Grant.num grant.grain)) (sym c.in-Grant.is) (grant, sym c.in-Some-find_grant.ensures, refl)
