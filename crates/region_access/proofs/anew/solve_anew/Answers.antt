use Rattle.std.proofs.Common.{List, Contains, sym, subst}
use Rattle.host_base.specs.declared.ids.GrantId.{GrantId}
use Rattle.share_graph.specs.declared.facts.Node.{Node}
use Rattle.share_graph.specs.declared.facts.Node.TheVariants as node
use Rattle.share_graph.specs.Nodes.{node_of}
use Rattle.region_work.specs.Emptying.{IsEmptyAt}
use Rattle.region_work.specs.Prepared.{IsPrepared}
use Rattle.region_access.proofs.Everything.{everything}
use Rattle.region_access.proofs.anew.solve_anew.Goals as goal

pub solve_region-requires-clause-grants : goal.solve_region-requires-clause-grants
solve_region-requires-clause-grants g c num = (
  λ has.
      let (grant, is) = (c.in_ok-nums.ensures num).0 (subst (λ (xs : List GrantId). Contains xs num) c.as_slice-4.ensures.value has) in
      (grant, is, subst (λ (xs : List Node). Contains xs (node_of num grant)) (sym c.as_slice-3.ensures.value) (c.in_ok-add_grant_nodes.ensures.all num grant is)),
  λ (grant, is, inside). subst (λ (xs : List GrantId). Contains xs num) (sym c.as_slice-4.ensures.value) ((c.in_ok-nums.ensures num).1 (grant, is)),
)

pub solve_region-requires-clause-prepared : goal.solve_region-requires-clause-prepared
solve_region-requires-clause-prepared g c =
    subst (λ (nodes : List Node). IsPrepared c.args.tables.now nodes c.in_ok-table.table.entries) (sym c.as_slice-3.ensures.value)
    (everything c.args.tables.now c.add_grant_nodes.new.nodes.items c.in_ok-table.table.entries c.requires.coherent
    (λ n grain is. c.in_ok-add_grant_nodes.ensures.kept (node.User n grain.owner) (c.in_ok-nodes.ensures n grain is))
    (λ num grant is. c.in_ok-add_grant_nodes.ensures.all num grant is)
    (subst (λ (nodes : List Node). IsEmptyAt nodes c.in_ok-table.table.entries) c.as_slice.ensures.value c.in_ok-table.ensures))
