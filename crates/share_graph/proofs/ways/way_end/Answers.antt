use Rattle.std.proofs.Common.{sym}
use Rattle.share_graph.proofs.Coherence.{coherent}
use Rattle.share_graph.proofs.WayEnds.{parent_is_earlier, parent_is_there, ends_at_account, ends_at_site, one_step}
use Rattle.share_graph.proofs.Leads.{leads_to_root, leads_way}
use Rattle.share_graph.proofs.ways.way_end.Goals as goal

pub returns-in-Account : goal.returns-in-Account
returns-in-Account c =
    ends_at_account c.args.tables.now c.args.num c.loop-grant.at c.in-Some.grant.now c.in-Account.account c.loop-grant.shared c.is_for_sharing-shared.result
    (sym c.in-Some.ensures) c.in-Account.is c.is_for_sharing-shared.ensures c.loop-grant.invariant.1

pub returns-in-Site : goal.returns-in-Site
returns-in-Site c =
    ends_at_site c.args.tables.now c.args.num c.loop-grant.at c.in-Some.grant.now c.in-Site.by c.in-Site.tag c.in-Site.item c.loop-grant.shared c.is_for_sharing-shared.result
    (sym c.in-Some.ensures) c.in-Site.is c.is_for_sharing-shared.ensures c.loop-grant.invariant.1

pub loop-grant-smaller : goal.loop-grant-smaller
loop-grant-smaller c =
    parent_is_earlier c.args.tables.now (coherent c.args.tables.now c.requires.checked) c.loop-grant.at c.in-Grant.parent c.in-Some.grant.now (sym c.in-Some.ensures) c.in-Grant.is

pub loop-grant-preserved : goal.loop-grant-preserved
loop-grant-preserved c = (
  parent_is_there c.args.tables.now (coherent c.args.tables.now c.requires.checked) c.loop-grant.at c.in-Grant.parent c.in-Some.grant.now (sym c.in-Some.ensures) c.in-Grant.is,
  one_step c.args.tables.now c.args.num c.loop-grant.at c.in-Grant.parent c.in-Some.grant.now c.loop-grant.shared c.is_for_sharing-shared.result
      (sym c.in-Some.ensures) c.in-Grant.is c.is_for_sharing-shared.ensures c.loop-grant.invariant.1,
)

pub end_of-requires : goal.end_of-requires
end_of-requires c = leads_to_root c.args.tables.now c.from.result c.in-Some-way.way.root c.in-Some-way.way.flagged c.in-Some-way.ensures

pub returns-in-Some-way : goal.returns-in-Some-way
returns-in-Some-way c =
    one_step c.args.tables.now c.args.num c.loop-grant.at c.in-Grant.parent c.in-Some.grant.now c.loop-grant.shared c.is_for_sharing-shared.result
    (sym c.in-Some.ensures) c.in-Grant.is c.is_for_sharing-shared.ensures c.loop-grant.invariant.1 c.end_of.result c.in-Some-way.way.flagged
    (leads_way c.args.tables.now c.in-Grant.parent c.from.result c.in-Some-way.way.root c.in-Some-way.way.flagged c.end_of.result (sym c.from.ensures) c.in-Some-way.ensures c.end_of.ensures)
