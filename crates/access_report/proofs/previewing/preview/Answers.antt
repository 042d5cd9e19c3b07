use Rattle.std.proofs.Common.{◌≢◌, ◌↔◌, ◌∷◌, [], List, Contains, refl, sym, ◌∙◌, ap, subst}
use Rattle.std.specs.List.{AllPairs, filter_map}
use Rattle.std.proofs.lemmas.Result.{IfOk-weaker}
use Rattle.host_base.specs.declared.ids.GrantId.{GrantId}
use Rattle.share_graph.specs.declared.facts.Node.{Node}
use Rattle.share_graph.specs.declared.grants.Grant.{Grant}
use Rattle.share_graph.specs.Nodes.{node_of}
use Rattle.share_graph.specs.Rows.{IsGrant}
use Rattle.region_access.specs.Arriving.{IsArrivalsAt}
use Rattle.region_access.specs.Reaching.{IsRegionOf}
use Rattle.region_work.specs.Fed.{fed_in}
use Rattle.access_report.specs.declared.loss.Loss.{Loss}
use Rattle.access_report.specs.Losing.{IsSettled, AreLost, made_of}
use Rattle.access_report.specs.Losses.{AreLosses}
use Rattle.access_report.proofs.Lost.{are_losses}
use Rattle.access_report.proofs.Rested.{arrive_rows}
use Rattle.access_report.proofs.previewing.preview.Goals as goal

pub collect-requires-clause-once : goal.collect-requires-clause-once
collect-requires-clause-once c = subst (λ (ns : List Node). AllPairs (λ (a : Node) (b : Node). a ≢ b) ns) (sym c.as_slice.ensures.value) c.in_ok-region.ensures.once

pub held_without-requires-clause-rows : goal.held_without-requires-clause-rows
held_without-requires-clause-rows c h listed =
    let into = fed_in c.args.arrivals.now.entries in
    let arrive = subst (λ (ns : List Node). IsArrivalsAt ns into c.in_ok-grants.grants.items) c.as_slice.ensures.value c.in_ok-grants.ensures in
    let other = (c.in_ok-others.ensures h).0 (subst (λ (gs : List GrantId). Contains gs h) c.as_slice-4.ensures.value listed) in
    let (grant, is, inside) =
    arrive_rows c.args.tables.now into c.requires.arrivals c.in_ok-region.region.items c.in_ok-grants.grants.items arrive h (subst (λ (gs : List GrantId). Contains gs h) c.as_slice-2.ensures.value other.0) in
    (grant, is, subst (λ (ns : List Node). Contains ns (node_of h grant)) (sym c.as_slice-3.ensures.value) inside)

pub returns : goal.returns
returns c =
    let t = c.args.tables.now in
    let g = c.args.num in
    let solved = c.args.solved.now in
    let nodes = c.in_ok-region.region.items in
    let others = c.in_ok-others.others.items in
    let table = c.in_ok-table.table.entries in
    let into = fed_in c.args.arrivals.now.entries in
    let (row, is_row) = c.requires.row in
    let region : IsRegionOf t (node_of g row ∷ []) nodes = subst (λ (n : Node). IsRegionOf t (n ∷ []) nodes) (c.node_by.ensures row is_row) c.in_ok-region.ensures in
    let arrive = subst (λ (ns : List Node). IsArrivalsAt ns into c.in_ok-grants.grants.items) c.as_slice.ensures.value c.in_ok-grants.ensures in
    let exact : (h : GrantId) → Contains others h ↔ (Contains c.in_ok-grants.grants.items h × (h ≢ g)) =
    subst (λ (gs : List GrantId). (h : GrantId) → Contains others h ↔ (Contains gs h × (h ≢ g))) c.as_slice-2.ensures.value c.in_ok-others.ensures in
    let listed : (h : GrantId) (grant : Grant) → h ≢ g → IsGrant t h grant → Contains nodes (node_of h grant) → Contains others h =
    λ h grant other is inside. (exact h).1 ((arrive.exact h).1 (node_of h grant, inside, (c.requires.arrivals.exact (node_of h grant) h).1 (grant, is, refl)), other) in
    let settled : IsSettled t solved nodes others table =
    subst (λ (gs : List GrantId). IsSettled t solved nodes gs table) c.as_slice-4.ensures.value
    (subst (λ (ns : List Node). IsSettled t solved ns c.as_slice-4.result.now table) c.as_slice-3.ensures.value c.in_ok-table.ensures) in
    let are : AreLost solved table nodes c.add_all_lost.new.lost.entries =
    subst (λ (ns : List Node). AreLost solved table ns c.add_all_lost.new.lost.entries) c.as_slice-5.ensures.value c.in_ok-add_all_lost.ensures in
    let losses =
    are_losses t c.requires.coherent g row is_row nodes region solved c.requires.solution others (λ here. ((exact g).0 here).1 refl) listed table settled c.add_all_lost.new.lost
    c.iter.ensures.ordered are in
    IfOk-weaker c.losses_of.result _ _ (λ found same. subst (λ (xs : List Loss). AreLosses t g xs) (sym (same ∙ ap (λ es. filter_map made_of es) c.iter.ensures.rest)) losses) c.losses_of.ensures
